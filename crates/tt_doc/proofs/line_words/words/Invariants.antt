use Rattle.tt_doc.proofs.WordSpans.{Passed}
use Rattle.tt_doc.proofs.line_words.words.Given as goal

abbrev pub invariant-loop-at : goal.invariant-loop-at
invariant-loop-at l = Passed l.bytes l.span l.words.items l.start l.at
