use Rattle.std.proofs.Common.{◌<◌, List, Bool, length, sym, ap, subst, ◌∙◌, arith}
use Rattle.std.specs.Prelude.{Some, option_map}
use Rattle.tt_world.specs.Gates.{source_owner}
use Rattle.isr_window.specs.Window.{Window, first_ready, accepting}
use Rattle.isr_window.specs.Numbers.{first_ready_in, is_ready_in}
use Rattle.isr_window.specs.Inside.{window_of}
use Rattle.isr_window.proofs.Firsts.{found_below}
use Rattle.isr_window.proofs.Chosen.{ready_isr, ready_oisr, isr_source, oisr_source, not_some}
use Rattle.isr_window.proofs.gates.Gates.accept_next.Goals as goal

pub put-requires : goal.put-requires
put-requires c =
    let g = c.self.inside in
    let busy = c.isrs.result.now in
    let below =
    found_below (is_ready_in g.isrs_held g.isrs_enabled busy) 0 (length g.isrs_held) c.in-Some.number
    (sym c.first_ready.ensures ∙ c.in-Some.is) in
    omega arith

pub put-requires-in-Some : goal.put-requires-in-Some
put-requires-in-Some c =
    let g = c.self.inside in
    let busy = c.isrs.result.now in
    let below =
    found_below (is_ready_in g.isrs_held g.isrs_enabled busy) 0 (length g.isrs_held) c.in-Some.number
    (sym c.first_ready.ensures ∙ c.in-Some.is) in
    omega arith

pub overflow_cast-result : goal.overflow_cast-result
overflow_cast-result c =
    let g = c.self.inside in
    let busy = c.isrs.result.now in
    let below =
    found_below (is_ready_in g.isrs_held g.isrs_enabled busy) 0 (length g.isrs_held) c.in-Some.number
    (sym c.first_ready.ensures ∙ c.in-Some.is) in
    omega arith

pub returns-in-Some-clause-value : goal.returns-in-Some-clause-value
returns-in-Some-clause-value c =
    let g = window_of c.self.inside in
    let busy = c.args.busy.now in
    let chosen =
    ready_isr busy g c.in-Some.number c.self.invariant.isrs_held c.self.invariant.oisrs_held
    (ap (first_ready_in g.isrs_held g.isrs_enabled) (sym c.isrs.ensures) ∙ sym c.first_ready.ensures ∙ c.in-Some.is) in
    sym (ap (λ (w : Window). option_map source_owner (first_ready busy w)) (sym c.self.view_is)
    ∙ ap (option_map source_owner) chosen)

pub returns-in-Some-clause-state : goal.returns-in-Some-clause-state
returns-in-Some-clause-state c =
    let g = window_of c.self.inside in
    let busy = c.args.busy.now in
    let chosen =
    ready_isr busy g c.in-Some.number c.self.invariant.isrs_held c.self.invariant.oisrs_held
    (ap (first_ready_in g.isrs_held g.isrs_enabled) (sym c.isrs.ensures) ∙ sym c.first_ready.ensures ∙ c.in-Some.is) in
    ap (λ (held : List Bool). record g { isrs_enabled = c.put-in-Some.new.self; isrs_held = held }) c.put.ensures
    ∙ ap (λ (enabled : List Bool). record (accepting (Some (isr_source c.in-Some.number)) g) { isrs_enabled = enabled })
    c.put-in-Some.ensures
    ∙ sym (ap (λ (w : Window). accepting (first_ready busy w) w) (sym c.self.view_is) ∙ ap (λ o. accepting o g) chosen)

pub returns-in_err-number-clause-value : goal.returns-in_err-number-clause-value
returns-in_err-number-clause-value c =
    let g = window_of c.self.inside in
    let busy = c.args.busy.now in
    let chosen =
    ready_oisr busy g c.self.invariant.isrs_held c.self.invariant.oisrs_held
    (ap (first_ready_in g.isrs_held g.isrs_enabled) (sym c.isrs.ensures) ∙ sym c.first_ready.ensures
    ∙ not_some c.first_ready.result c.in_default.not-Some)
    ∙ ap (option_map oisr_source) (ap (first_ready_in g.oisrs_held g.oisrs_held) (sym c.oisrs.ensures)
    ∙ sym c.first_ready-2.ensures ∙ c.in_err-number.was) in
    c.from_residual.ensures
    ∙ sym (ap (λ (w : Window). option_map source_owner (first_ready busy w)) (sym c.self.view_is)
    ∙ ap (option_map source_owner) chosen)

pub returns-in_err-number-clause-state : goal.returns-in_err-number-clause-state
returns-in_err-number-clause-state c =
    let g = window_of c.self.inside in
    let busy = c.args.busy.now in
    let chosen =
    ready_oisr busy g c.self.invariant.isrs_held c.self.invariant.oisrs_held
    (ap (first_ready_in g.isrs_held g.isrs_enabled) (sym c.isrs.ensures) ∙ sym c.first_ready.ensures
    ∙ not_some c.first_ready.result c.in_default.not-Some)
    ∙ ap (option_map oisr_source) (ap (first_ready_in g.oisrs_held g.oisrs_held) (sym c.oisrs.ensures)
    ∙ sym c.first_ready-2.ensures ∙ c.in_err-number.was) in
    sym c.self.view_is
    ∙ sym (ap (λ (w : Window). accepting (first_ready busy w) w) (sym c.self.view_is) ∙ ap (λ o. accepting o g) chosen)

pub put-requires-2 : goal.put-requires-2
put-requires-2 c =
    let g = c.self.inside in
    let busy = c.oisrs.result.now in
    let below =
    found_below (is_ready_in g.oisrs_held g.oisrs_held busy) 0 (length g.oisrs_held) c.in_ok-number.number
    (sym c.first_ready-2.ensures ∙ c.in_ok-number.was) in
    omega arith

pub overflow_cast-result-2 : goal.overflow_cast-result-2
overflow_cast-result-2 c =
    let g = c.self.inside in
    let busy = c.oisrs.result.now in
    let below =
    found_below (is_ready_in g.oisrs_held g.oisrs_held busy) 0 (length g.oisrs_held) c.in_ok-number.number
    (sym c.first_ready-2.ensures ∙ c.in_ok-number.was) in
    omega arith

pub returns-clause-value : goal.returns-clause-value
returns-clause-value c =
    let g = window_of c.self.inside in
    let busy = c.args.busy.now in
    let chosen =
    ready_oisr busy g c.self.invariant.isrs_held c.self.invariant.oisrs_held
    (ap (first_ready_in g.isrs_held g.isrs_enabled) (sym c.isrs.ensures) ∙ sym c.first_ready.ensures
    ∙ not_some c.first_ready.result c.in_default.not-Some)
    ∙ ap (option_map oisr_source) (ap (first_ready_in g.oisrs_held g.oisrs_held) (sym c.oisrs.ensures)
    ∙ sym c.first_ready-2.ensures ∙ c.in_ok-number.was) in
    sym (ap (λ (w : Window). option_map source_owner (first_ready busy w)) (sym c.self.view_is)
    ∙ ap (option_map source_owner) chosen)

pub returns-clause-state : goal.returns-clause-state
returns-clause-state c =
    let g = window_of c.self.inside in
    let busy = c.args.busy.now in
    let chosen =
    ready_oisr busy g c.self.invariant.isrs_held c.self.invariant.oisrs_held
    (ap (first_ready_in g.isrs_held g.isrs_enabled) (sym c.isrs.ensures) ∙ sym c.first_ready.ensures
    ∙ not_some c.first_ready.result c.in_default.not-Some)
    ∙ ap (option_map oisr_source) (ap (first_ready_in g.oisrs_held g.oisrs_held) (sym c.oisrs.ensures)
    ∙ sym c.first_ready-2.ensures ∙ c.in_ok-number.was) in
    ap (λ (held : List Bool). record g { oisrs_held = held }) c.put-2.ensures
    ∙ sym (ap (λ (w : Window). accepting (first_ready busy w) w) (sym c.self.view_is) ∙ ap (λ o. accepting o g) chosen)

pub returns-in-Some-clause-source : goal.returns-in-Some-clause-source
returns-in-Some-clause-source c =
    let g = c.self.inside in
    let number = c.in-Some.number in
    let below =
    found_below (is_ready_in g.isrs_held g.isrs_enabled c.isrs.result.now) 0 (length g.isrs_held) number
    (sym c.first_ready.ensures ∙ c.in-Some.is) in
    let here : number < length g.isrs_left = omega arith in
    subst (λ (w : Window). number < length w.isrs_left) c.self.view_is here

pub returns-clause-source : goal.returns-clause-source
returns-clause-source c =
    let g = c.self.inside in
    let number = c.in_ok-number.number in
    let below =
    found_below (is_ready_in g.oisrs_held g.oisrs_held c.oisrs.result.now) 0 (length g.oisrs_held) number
    (sym c.first_ready-2.ensures ∙ c.in_ok-number.was) in
    let here : number < length g.oisrs_left = omega arith in
    subst (λ (w : Window). number < length w.oisrs_left) c.self.view_is here
