-- Lists that are laid out number after number.
use Rattle.std.proofs.Common.{ℕ, zero, suc, ◌≡◌, ◌≤◌, ◌<◌, ◌+◌, ◌-◌, List, [], ◌∷◌, ◌++◌, Some, length, take, drop, refl, sym, ap, ◌∙◌, ⊎_elim, append_assoc, arith, length-append}
use Rattle.std.specs.Prelude.{slice_get, slice_range}
use Rattle.std.specs.List.{All}
use Rattle.std.proofs.lemmas.Bool.{cases_lt}
use Rattle.std.proofs.lemmas.List.{append-nil}
use Rattle.std.proofs.lemmas.List.Elements.{All-append, All-nil}
use Rattle.std.proofs.Math.Seq.{take-append_seam, drop-append_seam}
use Rattle.round_table.specs.Below.{below}

-- the element after a prefix
slice_get-seam : {X : Type 0} (front : List X) (x : X) (rest : List X)
    → slice_get (front ++ x ∷ rest) (length front) ≡ Some x
slice_get-seam [] x rest = refl
slice_get-seam (y ∷ front) x rest = slice_get-seam front x rest

-- the part after a prefix
slice_range-seam : {X : Type 0} (front part rest : List X) (i j : ℕ) → i ≡ length front → j ≡ i + length part
    → slice_range (front ++ (part ++ rest)) i j ≡ part
slice_range-seam front part rest i j is js =
    let long : j - i ≡ length part = omega arith in
    ap (λ n. take n (drop i (front ++ (part ++ rest)))) long
    ∙ ap (λ n. take (length part) (drop n (front ++ (part ++ rest)))) is
    ∙ ap (take (length part)) (drop-append_seam front (part ++ rest))
    ∙ take-append_seam part rest

-- the rest after a prefix
pub slice_range-end : {X : Type 0} (front rest : List X)
    → slice_range (front ++ rest) (length front) (length (front ++ rest)) ≡ rest
slice_range-end front rest =
    ap (λ xs. slice_range (front ++ xs) (length front) (length (front ++ rest))) (sym (append-nil rest))
    ∙ slice_range-seam front rest [] (length front) (length (front ++ rest)) refl (length-append front rest)

module _ {X : Type 0} (at : ℕ → List X) where
  -- what there is below a number begins with what there is below a smaller one
  pub below_begins : (k n : ℕ) → k ≤ n → (rest : List X) × (below at n ≡ below at k ++ rest)
  unfolding below
  below_begins k zero le = let none : k ≡ 0 = omega arith in ([], sym (append-nil (below at k) ∙ ap (below at) none))
  below_begins k (suc n) le =
      ⊎_elim
      (λ (l : n < k). let same : suc n ≡ k = omega arith in ([], ap (below at) same ∙ sym (append-nil (below at k))))
      (λ (l : k ≤ n). let b = below_begins k n l in
      (b.0 ++ at n, ap (λ xs. xs ++ at n) b.1 ∙ append_assoc (below at k) b.0 (at n)))
      (cases_lt n k)

  pub below_rises : (k n : ℕ) → k ≤ n → length (below at k) ≤ length (below at n)
  below_rises k n le = let b = below_begins k n le in omega (arith, ap length b.1, length-append (below at k) b.0)

  -- what there is at a number comes after what there is below it
  below_parts : (k n : ℕ) → k < n → (rest : List X) × (below at n ≡ below at k ++ (at k ++ rest))
  unfolding below
  below_parts k n l = let b = below_begins (suc k) n (omega arith) in (b.0, b.1 ∙ append_assoc (below at k) (at k) b.0)

  pub below_range : (k n : ℕ) (others : List X) → k < n
      → slice_range (below at n ++ others) (length (below at k)) (length (below at (suc k))) ≡ at k
  unfolding below
  below_range k n others l =
      let b = below_parts k n l in
      ap (λ xs. slice_range (xs ++ others) (length (below at k)) (length (below at (suc k))))
      b.1
      ∙ ap (λ xs. slice_range xs (length (below at k)) (length (below at (suc k))))
      (append_assoc (below at k) (at k ++ b.0) others ∙ ap (λ xs. below at k ++ xs) (append_assoc (at k) b.0 others))
      ∙ slice_range-seam (below at k) (at k) (b.0 ++ others) _ _ refl (length-append (below at k) (at k))

  pub below_get : (k n : ℕ) (x : X) → k < n → at k ≡ x ∷ [] → slice_get (below at n) (length (below at k)) ≡ Some x
  below_get k n x l is =
      let b = below_parts k n l in
      ap (λ xs. slice_get xs (length (below at k))) (b.1 ∙ ap (λ xs. below at k ++ (xs ++ b.0)) is)
      ∙ slice_get-seam (below at k) x b.0

  -- numbers at which there is nothing add nothing
  pub below_still : (k n : ℕ) → k ≤ n → ((j : ℕ) → k ≤ j → j < n → at j ≡ []) → below at n ≡ below at k
  unfolding below
  below_still k zero le none = let zero_is : 0 ≡ k = omega arith in ap (below at) zero_is
  below_still k (suc n) le none =
      ⊎_elim
      (λ (l : n < k). let same : suc n ≡ k = omega arith in ap (below at) same)
      (λ (l : k ≤ n).
      ap (λ xs. below at n ++ xs) (none n l (omega arith)) ∙ append-nil (below at n)
      ∙ below_still k n l (λ j kj jn. none j kj (omega arith)))
      (cases_lt n k)

  pub below_nothing : (n : ℕ) → at n ≡ [] → length (below at (suc n)) ≡ length (below at n)
  unfolding below
  below_nothing n none = ap (λ xs. length (below at n ++ xs)) none ∙ ap length (append-nil (below at n))

  pub all_below : (P : X → Type 0) → ((k : ℕ) → All P (at k)) → (n : ℕ) → All P (below at n)
  unfolding below
  all_below P h zero = All-nil P
  all_below P h (suc n) = All-append P (below at n) (at n) (all_below P h n) (h n)

  -- a list that is laid out below a number, and others after it; from that number on there is nothing
  module _ (n : ℕ) (others : List X) (past : (k : ℕ) → n ≤ k → at k ≡ []) where
    pub below_past : (k : ℕ) → n ≤ k → below at k ≡ below at n
    below_past k g = below_still n k g (λ j nj jk. past j nj)

    pub below_within : (k : ℕ) → length (below at k) ≤ length (below at n ++ others)
    below_within k =
        ⊎_elim (λ (l : k < n). omega (arith, below_rises k n (omega arith), length-append (below at n) others))
        (λ (g : n ≤ k). omega (arith, ap length (below_past k g), length-append (below at n) others)) (cases_lt k n)

    pub below_part : (k : ℕ) → slice_range (below at n ++ others) (length (below at k)) (length (below at (suc k)))
        ≡ at k
    below_part k =
        ⊎_elim (λ (l : k < n). below_range k n others l)
        (λ (g : n ≤ k).
        let none : length (below at (suc k)) - length (below at k) ≡ 0 = omega (arith, below_nothing k (past k g)) in
        ap (λ m. take m (drop (length (below at k)) (below at n ++ others))) none ∙ sym (past k g))
        (cases_lt k n)
