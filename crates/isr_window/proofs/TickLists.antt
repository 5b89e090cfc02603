-- Ascending ticks, from one on.
use Rattle.std.proofs.Common.{ℕ, ◌≡◌, ◌≢◌, ◌<◌, ◌≤◌, ◌+◌, ◌⊎◌, inl, inr, true, false, List, [], ◌∷◌, drop, refl, sym, ap, ◌∙◌, arith}
use Rattle.std.specs.Prelude.{Some, ◌==◌, ◌&&◌, ◌||◌, ◌^◌, nat_le, nat_lt, slice_get, if◌then◌else◌}
use Rattle.std.specs.List.{list_any}
use Rattle.std.specs.Option.{ForSome}
use Rattle.std.proofs.lemmas.Bool.{and_parts, leb-true, le-leb, lt-leb, eqb-true, eqb-false, ne_eqb, cases_lt}
use Rattle.std.proofs.Math.Bool.{or-false}
use Rattle.tt_world.specs.ScriptRules.{ticks_ascend}
use Rattle.isr_window.specs.Window.{is_at, is_next}
use Rattle.isr_window.specs.Ticks.{ticks_from}

-- the parts of an ascending list
pub record Ascends (least tick : ℕ) (rest : List ℕ) : Type 0 where
  pub first : least ≤ tick
  pub others : ticks_ascend (tick + 1) rest ≡ true

-- an ascending list has these parts
pub ascends : (least tick : ℕ) (rest : List ℕ) → ticks_ascend least (tick ∷ rest) ≡ true → Ascends least tick rest
ascends least tick rest up =
    let first = and_parts (nat_le least tick) (nat_lt tick (10 ^ 12) && ticks_ascend (tick + 1) rest) up in
    record {
      first = leb-true least tick first.0;
      others = (and_parts (nat_lt tick (10 ^ 12)) (ticks_ascend (tick + 1) rest) first.1).1;
    }

-- a tick that is reached, or not
pub from_here : (now tick : ℕ) (rest : List ℕ) → now ≤ tick → ticks_from now (tick ∷ rest) ≡ tick ∷ rest
from_here now tick rest here = ap (λ b. if b then tick ∷ rest else ticks_from now rest) (le-leb now tick here)

-- and a tick before it is passed
pub from_later : (now tick : ℕ) (rest : List ℕ) → tick < now → ticks_from now (tick ∷ rest) ≡ ticks_from now rest
from_later now tick rest past = ap (λ b. if b then tick ∷ rest else ticks_from now rest) (lt-leb now tick past)

-- from the first tick on these are all ticks
pub from_all : (now least : ℕ) (ticks : List ℕ) → now ≤ least → ticks_ascend least ticks ≡ true
    → ticks_from now ticks ≡ ticks
from_all now least [] low up = refl
from_all now least (tick ∷ rest) low up = let parts = ascends least tick rest up in
    from_here now tick rest (let from = parts.first in omega arith)

-- a tick below the first one is none of them
pub none_below : (now least : ℕ) (ticks : List ℕ) → now < least → ticks_ascend least ticks ≡ true
    → list_any (λ (tick : ℕ). tick == now) ticks ≡ false
none_below now least [] low up = refl
none_below now least (tick ∷ rest) low up =
    let parts = ascends least tick rest up in
    let from = parts.first in
    let differ : tick ≢ now = omega arith in
    ap (λ b. b || list_any (λ (other : ℕ). other == now) rest) (ne_eqb tick now differ)
    ∙ none_below now (tick + 1) rest (omega arith) parts.others

-- whether a tick is among them, by the first one from it on
pub among_is_next : (now least : ℕ) (ticks : List ℕ) → ticks_ascend least ticks ≡ true
    → list_any (λ (tick : ℕ). tick == now) ticks ≡ is_next now (ticks_from now ticks)
among_is_next now least [] up = refl
among_is_next now least (tick ∷ rest) up = by_order (cases_lt tick now) (among_is_next now (tick + 1) rest parts.others)
  where
    parts : Ascends least tick rest
    parts = ascends least tick rest up

    by_order : (tick < now) ⊎ (now ≤ tick)
        → list_any (λ (other : ℕ). other == now) rest ≡ is_next now (ticks_from now rest)
        → list_any (λ (other : ℕ). other == now) (tick ∷ rest) ≡ is_next now (ticks_from now (tick ∷ rest))
    by_order (inl past) same =
        let differ : tick ≢ now = omega arith in
        ap (λ b. b || list_any (λ (other : ℕ). other == now) rest) (ne_eqb tick now differ)
        ∙ same
        ∙ sym (ap (is_next now) (from_later now tick rest past))
    by_order (inr here) same =
        ap (λ b. (tick == now) || b) (none_below now (tick + 1) rest (omega arith) parts.others)
        ∙ or-false (tick == now)
        ∙ sym (ap (is_next now) (from_here now tick rest here))

-- the first one from a tick on is not before it
pub first_from : (now : ℕ) (ticks : List ℕ) (first : ℕ) → slice_get (ticks_from now ticks) 0 ≡ Some first → now ≤ first
first_from now [] first e = absurd cc
first_from now (tick ∷ rest) first e = by_order (cases_lt tick now) (first_from now rest first)
  where
    by_order : (tick < now) ⊎ (now ≤ tick) → (slice_get (ticks_from now rest) 0 ≡ Some first → now ≤ first)
        → now ≤ first
    by_order (inl past) later = later (sym (ap (λ ts. slice_get ts 0) (from_later now tick rest past)) ∙ e)
    by_order (inr here) later =
        let same : Some tick ≡ Some first = sym (ap (λ ts. slice_get ts 0) (from_here now tick rest here)) ∙ e in
        let equal : tick ≡ first = cc in
        omega arith

-- where the first one from a tick on is not before another tick, there is none between the two
pub from_jump : (now until least : ℕ) (ticks : List ℕ) → now ≤ until → ticks_ascend least ticks ≡ true
    → ForSome (slice_get (ticks_from now ticks) 0) (λ first. until ≤ first)
    → ticks_from now ticks ≡ ticks_from until ticks
from_jump now until least [] order up free = refl
from_jump now until least (tick ∷ rest) order up free =
    by_order (cases_lt tick now) (from_jump now until (tick + 1) rest order parts.others)
  where
    parts : Ascends least tick rest
    parts = ascends least tick rest up

    by_order : (tick < now) ⊎ (now ≤ tick)
        → (ForSome (slice_get (ticks_from now rest) 0) (λ first. until ≤ first)
        → ticks_from now rest ≡ ticks_from until rest) → ticks_from now (tick ∷ rest) ≡ ticks_from until (tick ∷ rest)
    by_order (inl past) later =
        from_later now tick rest past
        ∙ later (λ first e. free first (ap (λ ts. slice_get ts 0) (from_later now tick rest past) ∙ e))
        ∙ sym (from_later until tick rest (omega arith))
    by_order (inr here) later =
        from_here now tick rest here
        ∙ sym (from_here until tick rest (free tick (ap (λ ts. slice_get ts 0) (from_here now tick rest here))))

-- a tick that is not among them is passed
pub from_passed : (now least : ℕ) (ticks : List ℕ) → ticks_ascend least ticks ≡ true
    → is_next now (ticks_from now ticks) ≡ false → ticks_from now ticks ≡ ticks_from (now + 1) ticks
from_passed now least ticks up other =
    from_jump now (now + 1) least ticks (omega arith) up
    (λ first e.
    let from = first_from now ticks first e in
    let differ : first ≢ now = eqb-false first now (sym (ap (is_at now) e) ∙ other) in
    omega arith)

-- one that is among them is the first, and is taken
pub from_taken : (now least : ℕ) (ticks : List ℕ) → ticks_ascend least ticks ≡ true
    → is_next now (ticks_from now ticks) ≡ true → drop 1 (ticks_from now ticks) ≡ ticks_from (now + 1) ticks
from_taken now least [] up here = absurd cc
from_taken now least (tick ∷ rest) up here = by_order (cases_lt tick now) (from_taken now (tick + 1) rest parts.others)
  where
    parts : Ascends least tick rest
    parts = ascends least tick rest up

    by_order : (tick < now) ⊎ (now ≤ tick)
        → (is_next now (ticks_from now rest) ≡ true → drop 1 (ticks_from now rest) ≡ ticks_from (now + 1) rest)
        → drop 1 (ticks_from now (tick ∷ rest)) ≡ ticks_from (now + 1) (tick ∷ rest)
    by_order (inl past) later =
        ap (drop 1) (from_later now tick rest past)
        ∙ later (sym (ap (is_next now) (from_later now tick rest past)) ∙ here)
        ∙ sym (from_later (now + 1) tick rest (omega arith))
    by_order (inr reached) later =
        let same : tick ≡ now = eqb-true tick now (sym (ap (is_next now) (from_here now tick rest reached)) ∙ here) in
        ap (drop 1) (from_here now tick rest reached)
        ∙ sym (from_later (now + 1) tick rest (omega arith)
        ∙ from_all (now + 1) (tick + 1) rest (omega arith) parts.others)
