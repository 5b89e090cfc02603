use Rattle.std.proofs.Common.{◌≡◌, ◌≤◌, List, [], drop, length}
use Rattle.tt_parts.specs.declared.structure.Open.{Open}
use Rattle.tt_rules.specs.Lines.{least_line, lesser_of}
use Rattle.tt_rules.specs.StructureRules.{lines_3_from}
use Rattle.tt_rules.proofs.structure.rule_3.Given as goal

-- the height is that of what is open, and at most the number of rows so far
abbrev pub invariant-loop-row : goal.invariant-loop-row
invariant-loop-row l =
    (stack : List Open) × (l.height ≡ length stack) × (l.height ≤ l.row-index)
    × (lesser_of l.least (least_line (lines_3_from stack (drop l.row-index l.rows)))
    ≡ least_line (lines_3_from [] l.rows))
