use Rattle.std.proofs.Common.{◌≡◌, ◌++◌, take}
use Rattle.tt_world.specs.Points.{stringent_deadlines}
use Rattle.round_table.proofs.checks.put_deadlines.Given as goal

abbrev pub invariant-loop-row : goal.invariant-loop-row
invariant-loop-row l = l.offsets.items ≡ l.initial.offsets.items ++ stringent_deadlines (take l.row-index l.rows)
