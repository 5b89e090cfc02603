use Rattle.std.proofs.Common.{ap, ◌∙◌}
use Rattle.tt_stack.specs.Stacked.{depth_in}
use Rattle.tt_stack.proofs.Calls.{depth_is}
use Rattle.tt_stack.proofs.state.TtStack.depth.Goals as goal

pub returns : goal.returns
returns c =
    let i = c.self.inside in
    c.depth.ensures.value ∙ depth_is i c.self.invariant ∙ ap depth_in c.self.view_is
