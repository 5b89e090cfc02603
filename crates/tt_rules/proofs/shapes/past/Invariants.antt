use Rattle.std.proofs.Common.{◌≡◌, drop}
use Rattle.tt_rules.specs.Lines.{least_line, lesser_of}
use Rattle.tt_rules.specs.Shapes.{lines}
use Rattle.tt_rules.proofs.shapes.past.Given as goal

abbrev pub invariant-loop-at : goal.invariant-loop-at
invariant-loop-at g l =
    lesser_of l.least (least_line (drop l.left (lines (drop l.at-index l.parts))))
    ≡ least_line (drop l.most (lines l.parts))
