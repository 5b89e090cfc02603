-- Sums over the part of an ascending list between two cuts.
use Rattle.std.proofs.Common.{ℕ, zero, suc, ◌≡◌, ◌<◌, ◌≤◌, ◌+◌, List, [], ◌∷◌, Bool, refl, ap, sym, ◌∙◌, arith, get_or, take, ⊎_elim}
use Rattle.std.specs.Prelude.{sum_by, cond, nat_le, nat_lt}
use Rattle.std.proofs.lemmas.List.Sums.{sum_by-cons}
use Rattle.std.proofs.lemmas.Bool.{cases_lt, cond-true, cond-false, and_left, and_right, and_from, lt-ltb, le-ltb, le-leb, lt-leb}
use Rattle.round_table.specs.Cuts.{IsCut}
use Rattle.schedule_check.specs.Demand.{is_within}
use Rattle.schedule_check.proofs.Sums.{sum_both, sum_same_at}

module _ {X : Type 0} (b : X → ℕ) (test : X → Bool) where
  -- what comes before a cut is what passes the test
  pub cut_sum : (xs : List X) (place : ℕ) → IsCut test xs place
      → sum_by b (take place xs) ≡ sum_by (λ x. cond (test x) (b x) 0) xs
  cut_sum [] zero cut = refl
  cut_sum [] (suc place) cut = absurd (let l = cut.within in omega arith)
  cut_sum (x ∷ xs) zero cut =
      let rest = cut_sum xs zero (record {
        within = omega arith;
        front = λ k d l. absurd (omega arith);
        back = λ k d a l. cut.back (suc k) d (omega arith) (omega arith);
      }) in
      let a = sum_by-cons (λ y. cond (test y) (b y) 0) x xs in
      let here = cond-false (test x) (b x) 0 (cut.back 0 x (omega arith) (omega arith)) in
      omega arith
  cut_sum (x ∷ xs) (suc place) cut =
      let within = cut.within in
      let rest = cut_sum xs place (record {
        within = omega arith;
        front = λ k d l. cut.front (suc k) d (omega arith);
        back = λ k d a l. cut.back (suc k) d (omega arith) (omega arith);
      }) in
      let a = sum_by-cons (λ y. cond (test y) (b y) 0) x xs in
      let c = sum_by-cons b x (take place xs) in
      let here = cond-true (test x) (b x) 0 (cut.front 0 x (omega arith)) in
      omega arith

-- an offset that is within, or before both, is before the later
within_split : (from to offset x : ℕ) → from ≤ to
    → cond (is_within from to offset) x 0 + cond (nat_lt offset from) x 0 ≡ cond (nat_lt offset to) x 0
within_split from to offset x order =
    ⊎_elim
    (λ (l : offset < from).
    let a = cond-false (is_within from to offset) x 0
    (and_left (nat_le from offset) (nat_lt offset to) (lt-leb from offset l)) in
    let b = cond-true (nat_lt offset from) x 0 (lt-ltb offset from l) in
    let c = cond-true (nat_lt offset to) x 0 (lt-ltb offset to (omega arith)) in
    omega arith)
    (λ (g : from ≤ offset).
    let b = cond-false (nat_lt offset from) x 0 (le-ltb offset from g) in
    ⊎_elim
    (λ (l : offset < to).
    let a = cond-true (is_within from to offset) x 0
    (and_from (nat_le from offset) (nat_lt offset to) (le-leb from offset g) (lt-ltb offset to l)) in
    let c = cond-true (nat_lt offset to) x 0 (lt-ltb offset to l) in
    omega arith)
    (λ (h : to ≤ offset).
    let a = cond-false (is_within from to offset) x 0
    (and_right (nat_le from offset) (nat_lt offset to) (le-ltb offset to h)) in
    let c = cond-false (nat_lt offset to) x 0 (le-ltb offset to h) in
    omega arith)
    (cases_lt offset to))
    (cases_lt offset from)

module _ {X : Type 0} (key : X → ℕ) (b : X → ℕ) (d : X) (from to : ℕ) (order : from ≤ to) where
  -- what is within is between the cuts
  pub between_cuts : (xs : List X) (first end : ℕ) → IsCut (λ x. nat_lt (key x) from) xs first
      → IsCut (λ x. nat_lt (key x) to) xs end
      → sum_by (λ x. cond (is_within from to (key x)) (b x) 0) xs + sum_by b (take first xs) ≡ sum_by b (take end xs)
  between_cuts xs first end below above =
      ap (λ s. sum_by (λ x. cond (is_within from to (key x)) (b x) 0) xs + s)
      (cut_sum b (λ x. nat_lt (key x) from) xs first below)
      ∙ sum_both (λ x. cond (is_within from to (key x)) (b x) 0) (λ x. cond (nat_lt (key x) from) (b x) 0) d xs
      ∙ sum_same_at (λ x. cond (is_within from to (key x)) (b x) 0 + cond (nat_lt (key x) from) (b x) 0)
      (λ x. cond (nat_lt (key x) to) (b x) 0) d xs
      (λ i l. within_split from to (key (get_or xs i d)) (b (get_or xs i d)) order)
      ∙ sym (cut_sum b (λ x. nat_lt (key x) to) xs end above)
