-- Rules 25 to 28: the script.
use Rattle.std.specs.Prelude.{ℕ, ◌==◌, ◌&&◌, nat_le, Bool, false, List, [], ◌∷◌, Option, Some}
use Rattle.tt_base.specs.declared.names.Declared.{Declared}
use Rattle.tt_base.specs.declared.number.ModeNo.{ModeNo}
use Rattle.tt_base.specs.Names.{is_same_kind, kind_of, number_of}
use Rattle.tt_parts.specs.declared.located.At.{At}
use Rattle.tt_parts.specs.declared.entries.Value.{Value}
use Rattle.tt_parts.specs.declared.entries.Arrival.{Arrival}
use Rattle.tt_rules.specs.Shapes.{Shape, Present, AtMost, Every, Differ, breaking_one}
use Rattle.tt_rules.specs.RoundRules.{is_within}

-- 25. There is exactly one start; one after the first breaks it, or the header where there is none.
abbrev pub rule_25 : List (Shape ModeNo)
rule_25 = Present ∷ AtMost 1 ∷ []

-- 26. There is exactly one number of rounds, from 1 to 100,000; a row with another number or one after the first breaks
-- it, or the header where there is none.
abbrev pub rule_26 : List (Shape ℕ)
rule_26 = Present ∷ Every (is_within 1 100000) ∷ AtMost 1 ∷ []

abbrev pub is_same_thing : Declared → Declared → Bool
is_same_thing a b = is_same_kind (kind_of a) (kind_of b) && (number_of a == number_of b)

-- both are declared, as the same thing
abbrev pub is_same_source : Option Declared → Option Declared → Bool
is_same_source (Some a) (Some b) = is_same_thing a b
is_same_source a b = false

-- an arrival of the source of one above does not come after it
abbrev pub is_not_after : Arrival → Arrival → Bool
is_not_after above a = is_same_source above.source a.source && nat_le a.tick above.tick

-- 27. The arrivals of one source ascend strictly in the order of rows; a row that is not after one above of that source
-- breaks it.
abbrev pub rule_27 : List (Shape Arrival)
rule_27 = Differ is_not_after ∷ []

-- 28. A script value is at most 10,000,000 ticks.
abbrev pub rule_28 : List (Shape Value)
rule_28 = Every (λ value. nat_le value.ticks 10000000) ∷ []

abbrev pub lines_25 : ℕ → List (At ModeNo) → List ℕ
lines_25 first starts = breaking_one first rule_25 starts

abbrev pub lines_26 : ℕ → List (At ℕ) → List ℕ
lines_26 first counts = breaking_one first rule_26 counts

abbrev pub lines_27 : List (At Arrival) → List ℕ
lines_27 arrivals = breaking_one 1 rule_27 arrivals

abbrev pub lines_28 : List (At Value) → List ℕ
lines_28 values = breaking_one 1 rule_28 values
