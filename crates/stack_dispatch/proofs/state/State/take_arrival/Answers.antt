use Rattle.std.proofs.Common.{◌≡◌, ap, subst}
use Rattle.isr_window.specs.Window.{Window, first_due, taking}
use Rattle.stack_dispatch.specs.State.{RunState, window_in, with_sources}
use Rattle.stack_dispatch.specs.contracts.state.State.{the_view}
use Rattle.stack_dispatch.proofs.state.State.take_arrival.Goals as goal

pub returns-clause-state : goal.returns-clause-state
returns-clause-state c =
    let inside = c.self.inside in
    subst (λ (z : RunState). the_view (record inside { gates = c.arrive.new.self })
    ≡ with_sources (taking (first_due z.world.tick (window_in z)) (window_in z)) z) c.self.view_is
    (ap (λ (gates : Window). the_view (record inside { gates = gates })) c.arrive.ensures.state)
