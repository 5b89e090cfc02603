use Rattle.std.proofs.Common.{◌≡◌, ◌+◌, drop, ◌==◌, not}
use Rattle.std.specs.List.{prefix_len}
use Rattle.tt_doc.proofs.next_word.word_len.Given as goal

abbrev pub invariant-loop-n : goal.invariant-loop-n
invariant-loop-n l = prefix_len (λ b. not (b == 32)) l.text ≡ l.n + prefix_len (λ b. not (b == 32)) (drop l.n l.text)
