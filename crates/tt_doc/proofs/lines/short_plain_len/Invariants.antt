use Rattle.std.proofs.Common.{◌≡◌, ◌+◌, drop, not}
use Rattle.std.specs.List.{position_or_len}
use Rattle.tt_doc.specs.Lines.{is_plain_byte}
use Rattle.tt_doc.proofs.lines.short_plain_len.Given as goal

abbrev pub invariant-loop-n : goal.invariant-loop-n
invariant-loop-n l = position_or_len (λ b. not (is_plain_byte b)) l.text
    ≡ l.n + position_or_len (λ b. not (is_plain_byte b)) (drop l.n l.text)
