use Rattle.std.proofs.Common.{[], ap, ◌∙◌, length, arith}
use Rattle.tt_stack.specs.Stacked.{Stacked, with_job}
use Rattle.tt_stack.proofs.Calls.{counted, length_jobs_is}
use Rattle.tt_stack.proofs.state.TtStack.count.Goals as goal

pub overflow_add-self : goal.overflow_add-self
overflow_add-self c =
    let i = c.self.inside in
    let same = length_jobs_is i c.self.invariant in
    let all = ap (λ (s : Stacked). length s.jobs) c.self.view_is in
    omega (arith, same, all, c.requires.in_count)

pub returns : goal.returns
returns c =
    let i = c.self.inside in
    counted i c.self.invariant ∙ ap (with_job []) c.self.view_is
