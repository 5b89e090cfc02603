-- The first number that passes a test, and the least of the first ticks, as loops find them.
use Rattle.std.proofs.Common.{ℕ, zero, suc, ◌≡◌, ◌<◌, ◌≤◌, ◌+◌, ◌-◌, Bool, true, false, cond, ◌≢◌, List, [], ◌∷◌, length, get_or, drop, refl, sym, ap, ◌∙◌, arith}
use Rattle.std.specs.Prelude.{Option, None, Some, find, map, option_map, slice_get}
use Rattle.std.specs.List.{range_with_len}
use Rattle.std.specs.Option.{ForSome}
use Rattle.std.proofs.lemmas.Bool.{eqb-false, ne_eqb}
use Rattle.std.proofs.lemmas.List.{drop_more}
use Rattle.isr_window.specs.Window.{is_at, is_next, lesser, least_next}

-- the numbers from one on
range_here : (i n : ℕ) → i < n → range_with_len i (n - i) ≡ i ∷ range_with_len (i + 1) (n - (i + 1))
range_here i n here =
    let one : n - i ≡ suc (n - (i + 1)) = omega arith in
    ap (range_with_len i) one

-- the number that is reached passes
pub passes_here : (test : ℕ → Bool) (i n : ℕ) → i < n → test i ≡ true → find test (range_with_len i (n - i)) ≡ Some i
passes_here test i n here passes =
    ap (find test) (range_here i n here)
    ∙ ap (λ b. cond b (Some i) (find test (range_with_len (i + 1) (n - (i + 1))))) passes

-- it fails: the numbers after it are left
pub fails_here : (test : ℕ → Bool) (i n : ℕ) → i < n → test i ≡ false
    → find test (range_with_len i (n - i)) ≡ find test (range_with_len (i + 1) (n - (i + 1)))
fails_here test i n here fails =
    ap (find test) (range_here i n here)
    ∙ ap (λ b. cond b (Some i) (find test (range_with_len (i + 1) (n - (i + 1))))) fails

-- no number passes
pub none_passes : (test : ℕ → Bool) (i n : ℕ) → ((k : ℕ) → test k ≡ false) → find test (range_with_len i n) ≡ None
none_passes test i zero fail = refl
none_passes test i (suc n) fail =
    ap (λ b. cond b (Some i) (find test (range_with_len (i + 1) n))) (fail i) ∙ none_passes test (i + 1) n fail

-- ---- the lesser of two ticks

-- where there is no other tick
pub lesser-none : (a : Option ℕ) → lesser a None ≡ a
lesser-none None = refl
lesser-none (Some x) = refl

-- the lesser of three
pub lesser_assoc : (a b c : Option ℕ) → lesser (lesser a b) c ≡ lesser a (lesser b c)
lesser_assoc None b c = refl
lesser_assoc (Some x) None c = refl
lesser_assoc (Some x) (Some y) None = refl
lesser_assoc (Some x) (Some y) (Some z) = ap Some (omega arith)

-- one more list
pub least_more : (least : Option ℕ) (lists : List (List ℕ)) (i : ℕ) → i < length lists
    → lesser (lesser least (slice_get (get_or lists i []) 0)) (least_next (drop (i + 1) lists)) ≡ lesser least
    (least_next (drop i lists))
unfolding least_next
least_more least lists i here =
    lesser_assoc least (slice_get (get_or lists i []) 0) (least_next (drop (i + 1) lists))
    ∙ ap (λ xs. lesser least (least_next xs)) (sym (drop_more lists i [] here))

-- ---- what a first number is

-- it is one of the numbers
pub found_below : (test : ℕ → Bool) (i n k : ℕ) → find test (range_with_len i n) ≡ Some k → k < i + n
found_below test i zero k found = absurd cc
found_below test i (suc n) k found = by_test (test i) (λ e. found_below test (i + 1) n k e) found
  where
    by_test : (passes : Bool) → (find test (range_with_len (i + 1) n) ≡ Some k → k < i + 1 + n)
        → cond passes (Some i) (find test (range_with_len (i + 1) n)) ≡ Some k → k < i + suc n
    by_test true below e = let same : i ≡ k = cc in omega arith
    by_test false below e = let here = below e in omega arith

-- the first of some sources, by their numbers
pub find-map : {X : Type 0} (test : X → Bool) (f : ℕ → X) (numbers : List ℕ)
    → find test (map f numbers) ≡ option_map f (find (λ number. test (f number)) numbers)
find-map test f [] = refl
find-map test f (number ∷ rest) = by_test (test (f number)) (find-map test f rest)
  where
    by_test : (passes : Bool) → find test (map f rest) ≡ option_map f (find (λ number. test (f number)) rest)
        → cond passes (Some (f number)) (find test (map f rest)) ≡ option_map f
        (cond passes (Some number) (find (λ number. test (f number)) rest))
    by_test true e = refl
    by_test false e = e

-- ---- no tick before the least one

-- a tick is this one or comes after it, or there is none
abbrev pub IsFrom : ℕ → Option ℕ → Type 0
IsFrom now None = Unit {0}
IsFrom now (Some tick) = now ≤ tick

-- the same, of the tick that there is
pub is_from : (now : ℕ) (tick : Option ℕ) → ForSome tick (λ t. now ≤ t) → IsFrom now tick
is_from now None from = tt
is_from now (Some tick) from = from tick refl

-- and back
pub for_some : (now : ℕ) (tick : Option ℕ) → IsFrom now tick → ForSome tick (λ t. now ≤ t)
for_some now None from t e = absurd cc
for_some now (Some tick) from t e = let same : tick ≡ t = cc in omega arith

-- one that is not this one comes after it
pub is_after : (now : ℕ) (tick : Option ℕ) → IsFrom now tick → is_at now tick ≡ false → IsFrom (now + 1) tick
is_after now None from other = tt
is_after now (Some tick) from other = let differ : tick ≢ now = eqb-false tick now other in omega arith

-- a tick that comes after this one is another
pub is_not_at : (now : ℕ) (tick : Option ℕ) → IsFrom (now + 1) tick → is_at now tick ≡ false
is_not_at now None after = refl
is_not_at now (Some tick) after = let differ : tick ≢ now = omega arith in ne_eqb tick now differ

-- where the lesser of two is not before a tick, neither of them is
pub from_both : (now : ℕ) (a b : Option ℕ) → IsFrom now (lesser a b) → (IsFrom now a) × (IsFrom now b)
from_both now None b from = (tt, from)
from_both now (Some x) None from = (from, tt)
from_both now (Some x) (Some y) from = (omega arith, omega arith)

-- and back
pub both_from : (now : ℕ) (a b : Option ℕ) → IsFrom now a → IsFrom now b → IsFrom now (lesser a b)
both_from now None b from too = too
both_from now (Some x) None from too = from
both_from now (Some x) (Some y) from too = omega arith

-- where the least of the first ticks is not before a tick, none of them is
pub each_from : (now : ℕ) (lists : List (List ℕ)) → IsFrom now (least_next lists) → (k : ℕ)
    → IsFrom now (slice_get (get_or lists k []) 0)
unfolding least_next
each_from now [] from k = tt
each_from now (ticks ∷ rest) from zero = (from_both now (slice_get ticks 0) (least_next rest) from).0
each_from now (ticks ∷ rest) from (suc k) =
    each_from now rest (from_both now (slice_get ticks 0) (least_next rest) from).1 k

-- and back
pub from_each : (now : ℕ) (lists : List (List ℕ))
    → ((k : ℕ) → k < length lists → IsFrom now (slice_get (get_or lists k []) 0)) → IsFrom now (least_next lists)
unfolding least_next
from_each now [] each = tt
from_each now (ticks ∷ rest) each =
    both_from now (slice_get ticks 0) (least_next rest) (each 0 (omega arith))
    (from_each now rest (λ k below. each (suc k) (omega arith)))

-- where all first ticks come later, none is this one
pub none_next : (now : ℕ) (lists : List (List ℕ)) → IsFrom (now + 1) (least_next lists) → (k : ℕ)
    → is_next now (get_or lists k []) ≡ false
none_next now lists after k = is_not_at now (slice_get (get_or lists k []) 0) (each_from (now + 1) lists after k)
