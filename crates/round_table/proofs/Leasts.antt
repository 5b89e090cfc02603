-- The least of some offsets that is at or after another, found in ascending order.
use Rattle.std.proofs.Common.{ℕ, zero, suc, ◌≡◌, ◌≤◌, ◌<◌, min, List, [], ◌∷◌, length, get_or, Option, None, Some, refl, sym, ap, ◌∙◌, ⊎_elim, arith}
use Rattle.std.specs.Prelude.{nat_le, nat_lt, slice_get}
use Rattle.std.specs.List.{All}
use Rattle.std.specs.List.Sorted.{IsPermutation, IsNonDecreasing}
use Rattle.std.proofs.lemmas.Bool.{cases_lt, cond-true, cond-false, cond_both, le-leb, lt-leb, leb-true, ltb-true, ltb-false}
use Rattle.std.proofs.lemmas.List.{get_or_default}
use Rattle.std.proofs.lemmas.List.Elements.{All-head, All-tail}
use Rattle.std.proofs.lemmas.List.Sorted.{All-permutation, Contains-permutation, IsPermutation-sym}
use Rattle.std.proofs.lemmas.Option.{slice_get_cases}
use Rattle.tt_world.specs.Points.{least_from, lesser_or}
use Rattle.round_table.specs.Cuts.{IsCut}

module _ (from : ℕ) where
  -- where all offsets come before `from`, there is none
  least_past : (xs : List ℕ) → All (λ x. x < from) xs → least_from from xs ≡ None
  least_past [] h = refl
  least_past (x ∷ xs) h =
      cond-false (nat_le from x) _ _ (lt-leb from x (All-head (λ y. y < from) x xs h))
      ∙ least_past xs (All-tail (λ y. y < from) x xs h)

  module _ (m : ℕ) where
    -- no offset at or after `from` is less than `m`
    abbrev IsBound : List ℕ → Type 0
    IsBound xs = All (λ x. from ≤ x → m ≤ x) xs

    lesser_kept : (x : ℕ) (rest : Option ℕ) → m ≤ x → lesser_or m rest ≡ m → lesser_or m (Some (lesser_or x rest)) ≡ m
    lesser_kept x None le e = omega arith
    lesser_kept x (Some y) le e = omega arith

    bound_kept : (xs : List ℕ) → IsBound xs → lesser_or m (least_from from xs) ≡ m
    bound_kept [] h = refl
    bound_kept (x ∷ xs) h =
        let rest = bound_kept xs (All-tail (λ y. from ≤ y → m ≤ y) x xs h) in
        cond_both (nat_le from x) _ _ (λ (o : Option ℕ). lesser_or m o ≡ m)
        (λ e. lesser_kept x (least_from from xs) (All-head (λ y. from ≤ y → m ≤ y) x xs h (leb-true from x e)) rest)
        (λ _. rest)

    least_there : (xs : List ℕ) (k : ℕ) → k < length xs → get_or xs k m ≡ m → from ≤ m → IsBound xs
        → least_from from xs ≡ Some m
    least_there [] k l is le h = absurd (omega arith)
    least_there (x ∷ xs) zero l is le h =
        cond-true (nat_le from x) (Some (lesser_or x (least_from from xs))) (least_from from xs)
        (le-leb from x (omega arith))
        ∙ ap (λ n. Some (lesser_or n (least_from from xs))) is
        ∙ ap Some (bound_kept xs (All-tail (λ y. from ≤ y → m ≤ y) x xs h))
    least_there (x ∷ xs) (suc k) l is le h =
        let rest = least_there xs k (omega arith) is le (All-tail (λ y. from ≤ y → m ≤ y) x xs h) in
        cond_both (nat_le from x) _ _ (λ (o : Option ℕ). o ≡ Some m)
        (λ e.
        let bound : m ≤ x = All-head (λ y. from ≤ y → m ≤ y) x xs h (leb-true from x e) in
        let same : min x m ≡ m = omega arith in
        ap (λ o. Some (lesser_or x o)) rest ∙ ap Some same)
        (λ _. rest)

-- it is at the place after the lesser ones
pub least_at : (from : ℕ) (xs ys : List ℕ) (place : ℕ) → IsPermutation xs ys → IsNonDecreasing ys
    → IsCut (λ x. nat_lt x from) ys place
    → slice_get ys place ≡ least_from from xs
least_at from xs ys place moved up cut = ⊎_elim here past (slice_get_cases ys place).1 where
  back : IsPermutation ys xs
  back = IsPermutation-sym xs ys moved

  here : (m : ℕ) × (place < length ys) × (slice_get ys place ≡ Some m) × (get_or ys place m ≡ m)
      → slice_get ys place ≡ least_from from xs
  here found =
      let m = found.0 in
      let same = found.3 in
      let least = ltb-false _ from (cut.back place m (omega arith) found.1) in
      let bound : All (λ x. from ≤ x → m ≤ x) ys =
      λ k d l le.
      ⊎_elim (λ (before : k < place). absurd (let less = ltb-true _ from (cut.front k d before) in omega arith))
      (λ (after : place ≤ k). let rise = up place k m after l in let one = get_or_default ys k d m l in omega arith)
      (cases_lt k place) in
      let there = Contains-permutation ys xs m back (place, found.1, same) in
      found.2 ∙ sym (least_there from m xs there.0 there.1 there.2 (omega arith)
      (All-permutation (λ x. from ≤ x → m ≤ x) ys xs back bound))

  past : (length ys ≤ place) × (slice_get ys place ≡ None) → slice_get ys place ≡ least_from from xs
  past none =
      none.1
      ∙ sym (least_past from xs (All-permutation (λ x. x < from) ys xs back
      (λ k d l. let g = none.0 in ltb-true _ from (cut.front k d (omega arith)))))
