use Rattle.std.proofs.Common.{ap, ◌∙◌, nat_eq}
use Rattle.std.specs.Prelude.{not}
use Rattle.std.specs.List.{list_any}
use Rattle.tt_world.specs.Runners.{is_done, job_at}
use Rattle.tt_stack.specs.Stacked.{Stacked}
use Rattle.tt_stack.proofs.Calls.{found_is}
use Rattle.tt_stack.proofs.state.TtStack.is_job_done.Goals as goal

pub returns : goal.returns
returns c =
    let i = c.self.inside in
    ap not (c.contains.ensures.value ∙ ap (list_any (λ entry. nat_eq entry c.args.place)) c.as_slice.ensures.value)
    ∙ found_is i c.self.invariant c.args.place
    ∙ ap (λ (s : Stacked). is_done (job_at s.jobs c.args.place).left) c.self.view_is
