use Rattle.std.proofs.Common.{◌≡◌, ◌+◌, ◌≤◌, take}
use Rattle.std.specs.Prelude.{sum_by}
use Rattle.round_table.specs.DueRows.{checks_of}
use Rattle.schedule_check.specs.Measures.{counted, weight_of}
use Rattle.schedule_check.proofs.windows.checked_between.Given as goal

abbrev pub invariant-loop-place : goal.invariant-loop-place
invariant-loop-place l = record {
  order : l.from ≤ l.place;
  sum : sum_by (counted (weight_of l.measure l.parts) l.table.mode) (take l.from (checks_of l.table)) + l.sum
      ≡ sum_by (counted (weight_of l.measure l.parts) l.table.mode) (take l.place (checks_of l.table));
}
