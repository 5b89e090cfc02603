use Rattle.std.proofs.Common.{◌≡◌, Some, arith}
use Rattle.std.specs.Prelude.{slice_get}
use Rattle.task_machine.specs.Place.{passes}
use Rattle.task_machine.proofs.Steps.{passed, work_begun}
use Rattle.task_machine.proofs.rest.resting_place.Goals as goal

pub loop-passed-preserved : goal.loop-passed-preserved
loop-passed-preserved c = λ d list left.
    let is : Some c.in-Some.passed ≡ passes c.args.counters.now (slice_get c.args.code.now c.loop-passed.place) = cc in
    let at = c.loop-passed.invariant d list left in
    passed c.args.code.now c.args.counters.now at.0 c.loop-passed.place c.in-Some.passed list is at.1

pub returns-else-work-eq0 : goal.returns-else-work-eq0
returns-else-work-eq0 c = λ d list left.
    let at = c.loop-passed.invariant d list left in
    work_begun c.args.code.now c.args.counters.now at.0 c.loop-passed.place c.work_at-work.result list
    c.work_at-work.ensures.work (omega arith) at.1
