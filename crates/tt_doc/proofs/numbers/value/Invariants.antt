-- The value so far, and its bound.
use Rattle.std.proofs.Common.{◌≡◌, ◌+◌, ◌-◌, ◌*◌, ◌^◌, ◌≤◌, drop, fold, take, true}
use Rattle.std.specs.Char.{is_ascii_digit}
use Rattle.std.specs.List.{list_all}
use Rattle.tt_doc.specs.Numbers.{value_of}
use Rattle.tt_doc.proofs.numbers.value.Given as goal

abbrev pub invariant-loop-digit : goal.invariant-loop-digit
invariant-loop-digit l = record {
  digits : list_all is_ascii_digit (take l.digit-index l.text) ≡ true;
  so_far : fold (λ n d. n * 10 + (d - 48)) l.value (drop l.digit-index l.text) ≡ value_of l.text;
  bound : l.value + 1 ≤ 10 ^ l.digit-index;
}
