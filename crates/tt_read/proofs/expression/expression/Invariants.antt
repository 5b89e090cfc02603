use Rattle.std.proofs.Common.{length}
use Rattle.tt_read.proofs.ExpressionLaws.{Parsed}
use Rattle.tt_read.proofs.expression.expression.Given as goal

abbrev pub invariant-loop-word : goal.invariant-loop-word
invariant-loop-word l = Parsed l.fn.words l.terms l.expected l.words

abbrev pub decreases-loop-word : goal.decreases-loop-word
decreases-loop-word l = length l.words
