use Rattle.std.proofs.Common.{◌≡◌, ◌++◌, ◌≤◌, max}
use Rattle.std.specs.Prelude.{slice_range}
use Rattle.round_table.specs.DueRows.{checks_of}
use Rattle.osektime_core.specs.TableText.{check_lines}
use Rattle.osektime_core.proofs.table.put_checks.Given as goal

-- the lines of the places so far
abbrev pub invariant-loop-place : goal.invariant-loop-place
invariant-loop-place l = record {
  text : l.text.items ≡ l.fn.text.items
      ++ check_lines l.names l.table.mode l.point (slice_range (checks_of l.table) l.from l.place);
  within : l.place ≤ max l.from l.to;
}
