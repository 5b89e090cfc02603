use Rattle.std.proofs.Common.{[], ap, ◌∙◌}
use Rattle.std.specs.Prelude.{slice_index_or}
use Rattle.tt_world.specs.Runners.{is_done}
use Rattle.tt_stack.specs.Stacked.{Stacked}
use Rattle.tt_stack.proofs.Calls.{held_is}
use Rattle.tt_stack.proofs.state.TtStack.is_isr_done.Goals as goal

pub returns : goal.returns
returns c =
    let i = c.self.inside in
    held_is i c.self.invariant c.args.isr c.holds.result c.holds.ensures
    ∙ ap (λ (s : Stacked). is_done (slice_index_or s.isrs c.args.isr.0 [])) c.self.view_is
