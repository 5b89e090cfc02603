use Rattle.std.proofs.Common.{◌≡◌, ◌++◌, List, length}
use Rattle.tt_rows.specs.declared.row.NumberedRow.{NumberedRow}
use Rattle.tt_parts.specs.Bodies.{bodies_of, branches_from}
use Rattle.tt_parts.proofs.bodies.bodies_of.Given as goal

-- the rows after those that are left are read
abbrev pub invariant-loop-row : goal.invariant-loop-row
invariant-loop-row l = (after : List NumberedRow) × (l.rows ≡ l.left ++ after)
    × (l.blocks ≡ branches_from l.names after) × (l.bodies ≡ bodies_of l.names after)

abbrev pub decreases-loop-row : goal.decreases-loop-row
decreases-loop-row l = length l.left
