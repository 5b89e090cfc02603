use Rattle.std.proofs.Common.{◌≡◌, Bool, drop}
use Rattle.tt_rules.specs.Lines.{least_line, lesser_of}
use Rattle.tt_rules.specs.Document.{rows_at}
use Rattle.tt_rows.specs.declared.row.Row.{Row}
use Rattle.tt_rules.specs.Shapes.{Answers, failing}
use Rattle.tt_rules.proofs.shapes.failing_row.Given as goal

abbrev pub invariant-loop-row : goal.invariant-loop-row
invariant-loop-row g l =
    (passes : Row → Bool) → Answers g.F.Fn l.test passes
    → lesser_of l.least (least_line (failing passes (rows_at (drop l.row-index l.rows))))
    ≡ least_line (failing passes (rows_at l.rows))
