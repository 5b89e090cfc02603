use Rattle.std.proofs.Common.{◌≡◌, drop}
use Rattle.tt_rules.specs.BodyRules.{lines_15, lines_15_from}
use Rattle.tt_rules.specs.Lines.{least_line, lesser_of}
use Rattle.tt_rules.proofs.bodies.rule_15.Given as goal

abbrev pub invariant-loop-row : goal.invariant-loop-row
invariant-loop-row l = lesser_of l.least (least_line (lines_15_from l.kind (drop l.row-index l.rows)))
    ≡ least_line (lines_15 l.rows)
