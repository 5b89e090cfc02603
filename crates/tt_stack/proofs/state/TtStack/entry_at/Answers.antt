use Rattle.std.proofs.Common.{◌≡◌, ◌+◌, ap, sym, ◌∙◌, arith}
use Rattle.tt_world.specs.Runners.{job_at}
use Rattle.tt_stack.specs.Kept.{lefts_of, task_lefts}
use Rattle.tt_stack.specs.Stacked.{Stacked}
use Rattle.tt_stack.proofs.Jobs.{job_entry, job_past}
use Rattle.tt_stack.proofs.Written.{length-lefts_of}
use Rattle.tt_stack.proofs.state.TtStack.entry_at.Goals as goal

pub returns-then-place-self : goal.returns-then-place-self
returns-then-place-self c =
    let given = task_lefts c.self.inside.codes c.self.inside.entries.items c.self.inside.stack.tasks in
    let long = length-lefts_of c.self.inside.reached given in
    let less = c.if-place-self.true in
    let from : 0 + c.args.place ≡ c.args.place = omega arith in
    sym (ap (λ (s : Stacked). (job_at s.jobs c.args.place).entry) (sym c.self.view_is)
    ∙ job_entry 0 (lefts_of c.self.inside.reached given) c.args.place (omega arith) ∙ from)

pub returns-else-place-self : goal.returns-else-place-self
returns-else-place-self c =
    let given = task_lefts c.self.inside.codes c.self.inside.entries.items c.self.inside.stack.tasks in
    let long = length-lefts_of c.self.inside.reached given in
    let past = c.if-place-self.false in
    sym (ap (λ (s : Stacked). (job_at s.jobs c.args.place).entry) (sym c.self.view_is)
    ∙ job_past 0 (lefts_of c.self.inside.reached given) c.args.place (omega arith))
