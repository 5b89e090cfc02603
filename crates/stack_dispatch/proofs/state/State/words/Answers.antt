use Rattle.std.proofs.Common.{ap, sym, ◌∙◌, subst}
use Rattle.tt_world.specs.Load.{words_of}
use Rattle.tt_stack.specs.Stacked.{words_in}
use Rattle.stack_dispatch.specs.Served.{IsWeighed}
use Rattle.stack_dispatch.specs.State.{RunState}
use Rattle.stack_dispatch.specs.contracts.state.State.{the_view}
use Rattle.stack_dispatch.proofs.Weighed.{same_stack, weighed}
use Rattle.stack_dispatch.proofs.state.State.words.Goals as goal

pub returns : goal.returns
returns c =
    let i = c.self.inside in
    c.words.ensures
    ∙ ap words_in (same_stack i.stack i.round.mode c.self.invariant.2)
    ∙ weighed c.args.config.now (the_view i) (subst (IsWeighed c.args.config.now) (sym c.self.view_is) c.requires)
    ∙ ap (λ (st : RunState). words_of c.args.config.now st.world) c.self.view_is
