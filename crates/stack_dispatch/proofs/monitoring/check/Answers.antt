use Rattle.std.proofs.Common.{◌∙◌}
use Rattle.std.specs.Prelude.{slice_range}
use Rattle.round_table.specs.DueRows.{checks_of}
use Rattle.stack_dispatch.specs.Checking.{checked_entries}
use Rattle.stack_dispatch.proofs.Checking.{met_events, met_missed, missed_last}
use Rattle.stack_dispatch.proofs.Telling.{telling}
use Rattle.stack_dispatch.proofs.monitoring.check.Goals as goal

pub returns-then-not-met : goal.returns-then-not-met
returns-then-not-met g c =
    missed_last (telling g.R.Recorder) _ _ _
    (checks_of c.args.table.now) c.loop-place.place c.args.to c.check_at-entry.result
    c.loop-place-test.true c.check_at-entry.ensures.at c.activation.result c.activation.ensures c.is_job_done-met.result
    c.is_job_done-met.ensures c.args.log.now c.loop-place.log c.tell.new.self _ c.loop-place.invariant.told
    c.tell.ensures
    c.if-not-met.true c.loop-place.invariant.missed

pub loop-place-preserved : goal.loop-place-preserved
loop-place-preserved g c =
    let all = checked_entries c.args.at c.args.table.now.mode c.args.stack.now.jobs
    (slice_range (checks_of c.args.table.now) c.args.from c.args.to) in
    record {
      told = met_events (telling g.R.Recorder) _ _ _
          (checks_of c.args.table.now) c.loop-place.place c.args.to c.check_at-entry.result
          c.loop-place-test.true c.check_at-entry.ensures.at c.activation.result c.activation.ensures
          c.is_job_done-met.result
          c.is_job_done-met.ensures c.args.log.now c.loop-place.log c.tell.new.self all c.loop-place.invariant.told
          c.tell.ensures
          c.if-not-met.false;
      missed = c.loop-place.invariant.missed
          ∙ met_missed (telling g.R.Recorder) _ _ _
          (checks_of c.args.table.now) c.loop-place.place c.args.to c.check_at-entry.result
          c.loop-place-test.true c.check_at-entry.ensures.at c.activation.result c.activation.ensures
          c.is_job_done-met.result
          c.is_job_done-met.ensures c.args.log.now c.loop-place.log c.tell.new.self all c.loop-place.invariant.told
          c.tell.ensures
          c.if-not-met.false;
    }
