use Rattle.std.proofs.Common.{◌≡◌, ◌+◌, Some, None, ap, sym, ◌∙◌, subst, arith}
use Rattle.isr_window.specs.Window.{next_tick}
use Rattle.stack_dispatch.specs.contracts.state.State.{the_view}
use Rattle.stack_dispatch.specs.Counts.{IsDueAt}
use Rattle.stack_dispatch.specs.Served.{AreRowsFree, IsAhead, round_in}
use Rattle.stack_dispatch.specs.State.{Fixed, RunState, window_in}
use Rattle.round_end.specs.Round.{next_own}
use Rattle.stack_dispatch.proofs.Foreseen.{looks_ahead}
use Rattle.stack_dispatch.proofs.NextDue.{arrival_due, arrival_from, due_min, due_or_most, own_due, own_later}
use Rattle.stack_dispatch.proofs.state.State.next_due.Goals as goal

pub returns-in-Some-clause-ahead : goal.returns-in-Some-clause-ahead
returns-in-Some-clause-ahead c =
    let free = subst (λ (z : RunState). AreRowsFree c.args.config.now z.world c.next_row.result)
    (sym c.self.view_is) c.next_row.ensures.free in
    let found : next_tick c.self.inside.gates ≡ Some c.in-Some.tick = sym c.next_arrival.ensures ∙ c.in-Some.is in
    subst (λ (z : RunState). IsAhead c.args.config.now 1 z c.min.result) c.self.view_is
    (looks_ahead c.args.config.now (the_view c.self.inside) c.next_row.result _ free (omega arith) (omega arith)
    (λ t e. let both : Some c.in-Some.tick ≡ Some t = sym found ∙ e in let same : c.in-Some.tick ≡ t = cc in
    omega arith))

pub returns-in-None-clause-ahead : goal.returns-in-None-clause-ahead
returns-in-None-clause-ahead c =
    let free = subst (λ (z : RunState). AreRowsFree c.args.config.now z.world c.next_row.result)
    (sym c.self.view_is) c.next_row.ensures.free in
    let none : next_tick c.self.inside.gates ≡ None = sym c.next_arrival.ensures ∙ c.in-None.is in
    subst (λ (z : RunState). IsAhead c.args.config.now 1 z c.min-own.result) c.self.view_is
    (looks_ahead c.args.config.now (the_view c.self.inside) c.next_row.result _ free (omega arith) (omega arith)
    (λ t e. let clash : None ≡ Some t = sym none ∙ e in absurd cc))

pub returns-in-Some-clause-later : goal.returns-in-Some-clause-later
returns-in-Some-clause-later c =
    let st = c.args.self.now in
    let round = ap (λ (f : Fixed). f.round) c.requires.fixed in
    let adjust = ap (λ (f : Fixed). f.adjust) c.requires.fixed in
    let own : c.next_own.result ≡ next_own (round_in st) =
    c.next_own.ensures.value ∙ ap (λ (z : RunState). next_own (round_in z)) c.self.view_is in
    let later = own_later c.args.config.now c.args.script.now st c.requires.timed round adjust in
    let row = c.next_row.ensures.later in
    let found : next_tick (window_in st) ≡ Some c.in-Some.tick =
    ap (λ (z : RunState). next_tick (window_in z)) (sym c.self.view_is) ∙ sym c.next_arrival.ensures ∙ c.in-Some.is in
    let from = arrival_from c.args.config.now c.args.script.now (st.world.tick + 1) (window_in st)
    c.requires.sources.sources c.requires.sources.left c.in-Some.tick found in
    omega (arith, own, later, row, from, c.min-own.ensures, c.min.ensures)

pub returns-in-None-clause-later : goal.returns-in-None-clause-later
returns-in-None-clause-later c =
    let st = c.args.self.now in
    let round = ap (λ (f : Fixed). f.round) c.requires.fixed in
    let adjust = ap (λ (f : Fixed). f.adjust) c.requires.fixed in
    let own : c.next_own.result ≡ next_own (round_in st) =
    c.next_own.ensures.value ∙ ap (λ (z : RunState). next_own (round_in z)) c.self.view_is in
    let later = own_later c.args.config.now c.args.script.now st c.requires.timed round adjust in
    let row = c.next_row.ensures.later in
    omega (arith, own, later, row, c.min-own.ensures)

pub returns-in-Some-clause-due : goal.returns-in-Some-clause-due
returns-in-Some-clause-due c =
    let st = c.args.self.now in
    let round = ap (λ (f : Fixed). f.round) c.requires.fixed in
    let adjust = ap (λ (f : Fixed). f.adjust) c.requires.fixed in
    let own : c.next_own.result ≡ next_own (round_in st) =
    c.next_own.ensures.value ∙ ap (λ (z : RunState). next_own (round_in z)) c.self.view_is in
    let found : next_tick (window_in st) ≡ Some c.in-Some.tick =
    ap (λ (z : RunState). next_tick (window_in z)) (sym c.self.view_is) ∙ sym c.next_arrival.ensures ∙ c.in-Some.is in
    let few = c.next_own.type_inv in
    let own_is = own_due c.args.config.now c.args.script.now st c.next_own.result round adjust own in
    let of_both = due_or_most c.args.config.now c.args.script.now st.world c.next_row.result c.next_own.result
    18446744073709551615 (omega arith) (c.next_row.ensures.due c.args.script.now) own_is in
    subst (IsDueAt c.args.config.now c.args.script.now st.world) (sym c.min.ensures)
    (due_min c.args.config.now c.args.script.now st.world c.min-own.result c.in-Some.tick
    (subst (IsDueAt c.args.config.now c.args.script.now st.world) (sym c.min-own.ensures) of_both)
    (arrival_due c.args.config.now c.args.script.now (st.world.tick + 1) (window_in st)
    c.requires.sources.sources c.requires.sources.left c.in-Some.tick found st.world))

pub returns-in-None-clause-due : goal.returns-in-None-clause-due
returns-in-None-clause-due c =
    let st = c.args.self.now in
    let round = ap (λ (f : Fixed). f.round) c.requires.fixed in
    let adjust = ap (λ (f : Fixed). f.adjust) c.requires.fixed in
    let own : c.next_own.result ≡ next_own (round_in st) =
    c.next_own.ensures.value ∙ ap (λ (z : RunState). next_own (round_in z)) c.self.view_is in
    let few = c.next_own.type_inv in
    let own_is = own_due c.args.config.now c.args.script.now st c.next_own.result round adjust own in
    let of_both = due_or_most c.args.config.now c.args.script.now st.world c.next_row.result c.next_own.result
    18446744073709551615 (omega arith) (c.next_row.ensures.due c.args.script.now) own_is in
    subst (IsDueAt c.args.config.now c.args.script.now st.world) (sym c.min-own.ensures) of_both
