use Rattle.std.proofs.Common.{◌≡◌, ◌++◌, List, length}
use Rattle.tt_rows.specs.declared.row.Term.{Term}
use Rattle.tt_parts.specs.Bodies.{expressions_of}
use Rattle.tt_parts.proofs.expressions.expression_of_many.Given as goal

-- the terms after those that are left are read
abbrev pub invariant-loop-term : goal.invariant-loop-term
invariant-loop-term l =
    (after : List Term) × (l.terms ≡ l.left ++ after) × (l.rest ≡ expressions_of l.names after)

abbrev pub decreases-loop-term : goal.decreases-loop-term
decreases-loop-term l = length l.left
