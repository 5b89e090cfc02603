use Rattle.std.proofs.Common.{◌≡◌}
use Rattle.std.specs.Prelude.{slice_range}
use Rattle.round_table.specs.DueRows.{checks_of}
use Rattle.stack_dispatch.specs.Checking.{checked_entries}
use Rattle.stack_dispatch.specs.Told.{Tells}
use Rattle.stack_dispatch.proofs.Telling.{SoFar}
use Rattle.stack_dispatch.proofs.monitoring.check.Given as goal

-- the events so far, and then those of what is left, are those of all
abbrev pub invariant-loop-place : goal.invariant-loop-place
invariant-loop-place g l =
    let all = checked_entries l.at l.table.mode l.stack.jobs (slice_range (checks_of l.table) l.from l.to) in
    let left = checked_entries l.at l.table.mode l.stack.jobs (slice_range (checks_of l.table) l.place l.to) in
    record {
      told : SoFar (Tells g.R.Recorder) l.fn.log all.events l.log left.events;
      missed : all.missed ≡ left.missed;
    }
