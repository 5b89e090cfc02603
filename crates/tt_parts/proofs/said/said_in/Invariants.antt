use Rattle.std.proofs.Common.{◌≡◌, take}
use Rattle.tt_parts.specs.Parts.{said_in}
use Rattle.tt_parts.proofs.said.said_in.Given as goal

-- what the rows so far say
abbrev pub invariant-loop-row : goal.invariant-loop-row
invariant-loop-row l = l.said ≡ said_in l.names (take l.row-index l.rows)
