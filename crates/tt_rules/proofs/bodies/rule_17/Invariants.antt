use Rattle.std.proofs.Common.{◌≡◌, drop}
use Rattle.tt_rules.specs.BodyRules.{is_light, lines_17}
use Rattle.tt_rules.specs.Lines.{least_line, lesser_of}
use Rattle.tt_rules.specs.Shapes.{failing}
use Rattle.tt_rules.proofs.bodies.rule_17.Given as goal

abbrev pub invariant-loop-at : goal.invariant-loop-at
invariant-loop-at l = lesser_of l.least (least_line (failing (is_light l.demands) (drop l.at-index l.bodies)))
    ≡ least_line (lines_17 l.demands l.bodies)
