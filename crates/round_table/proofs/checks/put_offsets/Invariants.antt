use Rattle.std.proofs.Common.{◌≡◌, ◌++◌, map, take}
use Rattle.round_table.proofs.checks.put_offsets.Given as goal

abbrev pub invariant-loop-row : goal.invariant-loop-row
invariant-loop-row g l = l.offsets.items ≡ l.initial.offsets.items ++ map g.T.Row.at (take l.row-index l.rows)
