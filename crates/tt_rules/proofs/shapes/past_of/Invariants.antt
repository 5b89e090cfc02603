use Rattle.std.proofs.Common.{◌≡◌, Bool, drop}
use Rattle.tt_rules.specs.Lines.{least_line, lesser_of}
use Rattle.tt_rules.specs.Shapes.{Answers, filter_at, lines}
use Rattle.tt_rules.proofs.shapes.past_of.Given as goal

abbrev pub invariant-loop-at : goal.invariant-loop-at
invariant-loop-at g l =
    (passes : g.row.T.Denot → Bool) → Answers g.F.Fn l.test passes
    → lesser_of l.least (least_line (drop l.left (lines (filter_at passes (drop l.at-index l.parts)))))
    ≡ least_line (drop l.most (lines (filter_at passes l.parts)))
