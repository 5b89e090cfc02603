use Rattle.std.proofs.Common.{◌∙◌, ap, arith}
use Rattle.tt_doc.proofs.WordSpans.{passed_byte, passed_space, passed_same, passed_end}
use Rattle.tt_doc.proofs.line_words.words.Goals as goal
use Rattle.tt_doc.proofs.line_words.words.Goals.{then-bytes-at-eq32, else-bytes-at-eq32}

pub loop-at-preserved : goal.loop-at-preserved
loop-at-preserved c =
    elim c.if-bytes-at-eq32.branch [
      | then-bytes-at-eq32 w ↦
          passed_same (passed_space c.loop-at.invariant (omega arith) (omega arith) w.if-bytes-at-eq32.true) _ _
          (ap (λ words. words.items) w.words-is ∙ w.push_word.ensures) w.start-is
      | else-bytes-at-eq32 w ↦
          passed_same (passed_byte c.loop-at.invariant (omega arith) w.if-bytes-at-eq32.false) _ _
          (ap (λ words. words.items) w.words-is) w.start-is
    ]

pub returns : goal.returns
returns c =
    let all = passed_end c.loop-at.invariant (omega arith) (omega arith) _ c.push_word-2.ensures in
    record { words = all.read; within = all.within; not_empty = all.some; ascend = all.ascend }
