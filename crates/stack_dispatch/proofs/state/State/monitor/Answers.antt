use Rattle.std.proofs.Common.{Some, subst}
use Rattle.std.specs.Prelude.{slice_range}
use Rattle.round_table.specs.DueRows.{checks_of}
use Rattle.stack_dispatch.specs.Checking.{Checks, checked_entries}
use Rattle.stack_dispatch.specs.State.{RunState}
use Rattle.stack_dispatch.specs.Told.{Tells}
use Rattle.stack_dispatch.proofs.Checking.{missed_gives}
use Rattle.stack_dispatch.proofs.Telling.{telling}
use Rattle.stack_dispatch.proofs.state.State.monitor.Goals as goal

pub returns-clause-gives : goal.returns-clause-gives
returns-clause-gives g c =
    let w = c.args.self.now.world in
    let entries = slice_range (checks_of c.args.table.now) c.args.from c.args.to in
    let checks = subst (λ (z : RunState). Checks (Tells g.R.Recorder) c.args.log.now c.check.new.log c.check.result
    (checked_entries z.world.tick c.args.table.now.mode z.world.jobs entries)) c.self.view_is c.check.ensures in
    missed_gives (telling g.R.Recorder) c.args.config.now w c.miss.new.self.world c.args.log.now c.check.new.log
    c.miss.new.log
    c.check.result c.in_ok-task.task (Some c.miss.result) (checked_entries w.tick c.args.table.now.mode w.jobs entries)
    checks c.in_ok-task.was c.miss.ensures.gives
