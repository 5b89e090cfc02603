use Rattle.std.proofs.Common.{ap, ◌∙◌}
use Rattle.tt_stack.specs.Stacked.{words_in}
use Rattle.tt_stack.proofs.Calls.{words_are}
use Rattle.tt_stack.proofs.state.TtStack.words.Goals as goal

pub returns : goal.returns
returns c =
    let i = c.self.inside in
    c.words.ensures ∙ words_are i c.self.invariant ∙ ap words_in c.self.view_is
