use Rattle.std.proofs.Common.{ℕ, ◌≡◌, ◌≤◌, Bool, false, [], length, get_or, subst, sym, ap, ◌∙◌, arith}
use Rattle.std.specs.Prelude.{Some, option_map}
use Rattle.std.specs.Option.{ForSome}
use Rattle.isr_window.specs.Window.{Window, is_at, is_next, first_due, next_tick, taking}
use Rattle.isr_window.specs.Numbers.{first_at}
use Rattle.isr_window.specs.Arrived.{arrived_at}
use Rattle.isr_window.specs.Inside.{window_of}
use Rattle.isr_window.proofs.Firsts.{found_below}
use Rattle.isr_window.proofs.Chosen.{none_due, due_isr, due_oisr, isr_source, oisr_source, found_number, found_none, not_some, took_isr, took_oisr}
use Rattle.isr_window.proofs.gates.Gates.arrive.Goals as goal

pub returns-then-not-is_at-clause-value : goal.returns-then-not-is_at-clause-value
returns-then-not-is_at-clause-value c =
    let now = c.args.now in
    let g = window_of c.self.inside in
    let none_before = subst (λ (w : Window). ForSome (next_tick w) (λ tick. now ≤ tick))
    (sym c.self.view_is) c.requires in
    let other : is_at now (next_tick g) ≡ false = ap (is_at now) (sym c.self.invariant.next) ∙ sym c.is_at.ensures
    ∙ c.if-not-is_at.true in
    ap (option_map (arrived_at c.args.self.now)) (none_due now g none_before other ∙ ap (first_due now) c.self.view_is)

pub returns-then-not-is_at-clause-state : goal.returns-then-not-is_at-clause-state
returns-then-not-is_at-clause-state c =
    let now = c.args.now in
    let g = window_of c.self.inside in
    let none_before = subst (λ (w : Window). ForSome (next_tick w) (λ tick. now ≤ tick))
    (sym c.self.view_is) c.requires in
    let other : is_at now (next_tick g) ≡ false = ap (is_at now) (sym c.self.invariant.next) ∙ sym c.is_at.ensures
    ∙ c.if-not-is_at.true in
    ap (λ o. taking o c.args.self.now) (none_due now g none_before other ∙ ap (first_due now) c.self.view_is)

pub overflow_cast-source : goal.overflow_cast-source
overflow_cast-source c =
    let g = c.self.inside in
    let found = found_number (λ (n : ℕ). get_or g.isrs_held n false)
    (first_at c.args.now g.isrs_left) c.in-Some.number c.in-Some.merged
    (sym c.in-Some.is ∙ c.take_first.ensures.value) in
    let below = found_below (λ number. is_next c.args.now (get_or g.isrs_left number [])) 0
    (length g.isrs_left) c.in-Some.number found.0 in
    omega arith

pub returns-in-Some-clause-value : goal.returns-in-Some-clause-value
returns-in-Some-clause-value c =
    let now = c.args.now in
    let g = window_of c.self.inside in
    let found = found_number (λ (n : ℕ). get_or g.isrs_held n false)
    (first_at now g.isrs_left) c.in-Some.number c.in-Some.merged (sym c.in-Some.is ∙ c.take_first.ensures.value) in
    ap (λ (merged : Bool). Some (record (arrived_at g (isr_source c.in-Some.number)) { merged = merged })) found.1
    ∙ sym (ap (option_map (arrived_at g)) (due_isr now g c.in-Some.number found.0))
    ∙ ap (λ (w : Window). option_map (arrived_at w) (first_due now w)) c.self.view_is

pub returns-in-Some-clause-state : goal.returns-in-Some-clause-state
returns-in-Some-clause-state c =
    let now = c.args.now in
    let g = window_of c.self.inside in
    let found = found_number (λ (n : ℕ). get_or g.isrs_held n false)
    (first_at now g.isrs_left) c.in-Some.number c.in-Some.merged (sym c.in-Some.is ∙ c.take_first.ensures.value) in
    took_isr now g c.in-Some.number c.take_first.new.left c.take_first.new.held found.0 c.take_first.ensures.left
    c.take_first.ensures.held
    ∙ ap (λ (w : Window). taking (first_due now w) w) c.self.view_is

pub returns-in_err-number-clause-value : goal.returns-in_err-number-clause-value
returns-in_err-number-clause-value c =
    let now = c.args.now in
    let g = window_of c.self.inside in
    let none = found_none (λ (n : ℕ). get_or g.isrs_held n false) (first_at now g.isrs_left)
    (sym (not_some c.take_first.result c.in_default.not-Some) ∙ c.take_first.ensures.value) in
    let none_too = found_none (λ (n : ℕ). get_or g.oisrs_held n false) (first_at now g.oisrs_left)
    (sym c.in_err-number.was ∙ c.take_first-2.ensures.value) in
    c.from_residual.ensures
    ∙ sym (ap (option_map (arrived_at g)) (due_oisr now g none ∙ ap (option_map oisr_source) none_too))
    ∙ ap (λ (w : Window). option_map (arrived_at w) (first_due now w)) c.self.view_is

pub returns-in_err-number-clause-state : goal.returns-in_err-number-clause-state
returns-in_err-number-clause-state c =
    let now = c.args.now in
    let g = window_of c.self.inside in
    let none = found_none (λ (n : ℕ). get_or g.isrs_held n false) (first_at now g.isrs_left)
    (sym (not_some c.take_first.result c.in_default.not-Some) ∙ c.take_first.ensures.value) in
    took_oisr now g c.take_first.new.left c.take_first-2.new.left c.take_first.new.held c.take_first-2.new.held none
    c.take_first.ensures.left c.take_first.ensures.held c.take_first-2.ensures.left c.take_first-2.ensures.held
    ∙ ap (λ (w : Window). taking (first_due now w) w) c.self.view_is

pub overflow_cast-source-2 : goal.overflow_cast-source-2
overflow_cast-source-2 c =
    let g = c.self.inside in
    let found = found_number (λ (n : ℕ). get_or g.oisrs_held n false)
    (first_at c.args.now g.oisrs_left) c.in_ok-number.number c.in_ok-number.merged
    (sym c.in_ok-number.was ∙ c.take_first-2.ensures.value) in
    let below = found_below (λ number. is_next c.args.now (get_or g.oisrs_left number [])) 0
    (length g.oisrs_left) c.in_ok-number.number found.0 in
    omega arith

pub returns-clause-value : goal.returns-clause-value
returns-clause-value c =
    let now = c.args.now in
    let g = window_of c.self.inside in
    let none = found_none (λ (n : ℕ). get_or g.isrs_held n false) (first_at now g.isrs_left)
    (sym (not_some c.take_first.result c.in_default.not-Some) ∙ c.take_first.ensures.value) in
    let found = found_number (λ (n : ℕ). get_or g.oisrs_held n false)
    (first_at now g.oisrs_left) c.in_ok-number.number c.in_ok-number.merged
    (sym c.in_ok-number.was ∙ c.take_first-2.ensures.value) in
    ap (λ (merged : Bool). Some (record (arrived_at g (oisr_source c.in_ok-number.number)) { merged = merged })) found.1
    ∙ sym (ap (option_map (arrived_at g)) (due_oisr now g none ∙ ap (option_map oisr_source) found.0))
    ∙ ap (λ (w : Window). option_map (arrived_at w) (first_due now w)) c.self.view_is

pub returns-clause-state : goal.returns-clause-state
returns-clause-state c =
    let now = c.args.now in
    let g = window_of c.self.inside in
    let none = found_none (λ (n : ℕ). get_or g.isrs_held n false) (first_at now g.isrs_left)
    (sym (not_some c.take_first.result c.in_default.not-Some) ∙ c.take_first.ensures.value) in
    took_oisr now g c.take_first.new.left c.take_first-2.new.left c.take_first.new.held c.take_first-2.new.held none
    c.take_first.ensures.left c.take_first.ensures.held c.take_first-2.ensures.left c.take_first-2.ensures.held
    ∙ ap (λ (w : Window). taking (first_due now w) w) c.self.view_is
