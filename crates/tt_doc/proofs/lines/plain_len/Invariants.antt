use Rattle.std.proofs.Common.{◌≡◌, ◌≤◌, ◌+◌, ◌-◌, length, drop, not}
use Rattle.std.specs.List.{position_or_len}
use Rattle.tt_doc.specs.Lines.{is_plain_byte}
use Rattle.tt_doc.proofs.lines.plain_len.Given as goal

abbrev pub invariant-loop-n : goal.invariant-loop-n
invariant-loop-n l = record {
  inside : l.n ≤ length l.text;
  passed : position_or_len (λ b. not (is_plain_byte b)) l.text
      ≡ l.n + position_or_len (λ b. not (is_plain_byte b)) (drop l.n l.text);
}

abbrev pub decreases-loop-n : goal.decreases-loop-n
decreases-loop-n l = length l.initial.text - l.n
