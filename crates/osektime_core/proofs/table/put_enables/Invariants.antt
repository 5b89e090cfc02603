use Rattle.std.proofs.Common.{◌≡◌, ◌++◌, ◌≤◌, max}
use Rattle.std.specs.Prelude.{slice_range}
use Rattle.round_table.specs.DueRows.{enables_of}
use Rattle.osektime_core.specs.TableText.{enable_lines}
use Rattle.osektime_core.proofs.table.put_enables.Given as goal

-- the lines of the places so far
abbrev pub invariant-loop-place : goal.invariant-loop-place
invariant-loop-place l = record {
  text : l.text.items ≡ l.fn.text.items
      ++ enable_lines l.names l.offset (slice_range (enables_of l.table) l.from l.place);
  within : l.place ≤ max l.from l.to;
}
