use Rattle.std.proofs.Common.{◌≡◌, take}
use Rattle.tt_parts.specs.Parts.{declarations_of, first_line}
use Rattle.tt_parts.proofs.declared_parts.declarations_of.Given as goal

-- what the rows so far declare
abbrev pub invariant-loop-row : goal.invariant-loop-row
invariant-loop-row l = l.declared
    ≡ record (declarations_of (take l.row-index l.rows)) { first = first_line l.rows }
