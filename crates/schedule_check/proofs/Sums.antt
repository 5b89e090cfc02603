-- Sums over lists, term by term.
use Rattle.std.proofs.Common.{ℕ, zero, suc, ◌≡◌, ◌<◌, ◌≤◌, ◌+◌, List, [], ◌∷◌, Bool, true, false, refl, ap, arith, length, get_or, take, ⊎_elim}
use Rattle.std.specs.Prelude.{sum_by, filter, cond}
use Rattle.std.specs.List.{range_with_len}
use Rattle.std.proofs.lemmas.List.Sums.{sum_by-cons, sum_by_more}
use Rattle.std.proofs.lemmas.Bool.{cases_Bool, cond-true, cond-false}
use Rattle.schedule_check.proofs.Numbers.{sum_push}

module _ {X : Type 0} (f g : X → ℕ) (d : X) where
  -- a sum of terms that are no larger at each place
  pub sum_le_at : (xs : List X) → ((i : ℕ) → i < length xs → f (get_or xs i d) ≤ g (get_or xs i d))
      → sum_by f xs ≤ sum_by g xs
  sum_le_at [] h = omega arith
  sum_le_at (x ∷ xs) h =
      let a = sum_by-cons f x xs in
      let b = sum_by-cons g x xs in
      let r = sum_le_at xs (λ i l. h (suc i) (omega arith)) in
      let here = h 0 (omega arith) in
      omega arith

  -- a sum of terms that are the same at each place
  pub sum_same_at : (xs : List X) → ((i : ℕ) → i < length xs → f (get_or xs i d) ≡ g (get_or xs i d))
      → sum_by f xs ≡ sum_by g xs
  sum_same_at [] h = refl
  sum_same_at (x ∷ xs) h =
      let a = sum_by-cons f x xs in
      let b = sum_by-cons g x xs in
      let r = sum_same_at xs (λ i l. h (suc i) (omega arith)) in
      let here = h 0 (omega arith) in
      omega arith

  -- two sums make one
  pub sum_both : (xs : List X) → sum_by f xs + sum_by g xs ≡ sum_by (λ x. f x + g x) xs
  sum_both [] = refl
  sum_both (x ∷ xs) =
      let a = sum_by-cons f x xs in
      let b = sum_by-cons g x xs in
      let k = sum_by-cons (λ x. f x + g x) x xs in
      let r = sum_both xs in
      omega arith

module _ {X : Type 0} (f : X → ℕ) where
  -- a sum over those that pass a test
  pub sum_filter : (p : X → Bool) (xs : List X) → sum_by f (filter p xs) ≡ sum_by (λ x. cond (p x) (f x) 0) xs
  sum_filter p [] = refl
  sum_filter p (x ∷ xs) =
      let b = sum_by-cons (λ x. cond (p x) (f x) 0) x xs in
      let r = sum_filter p xs in
      ⊎_elim
      (λ (t : p x ≡ true).
      let kept = ap (sum_by f) (cond-true (p x) (x ∷ filter p xs) (filter p xs) t) in
      let a = sum_by-cons f x (filter p xs) in
      let term = cond-true (p x) (f x) 0 t in
      omega arith)
      (λ (t : p x ≡ false).
      let left = ap (sum_by f) (cond-false (p x) (x ∷ filter p xs) (filter p xs) t) in
      let term = cond-false (p x) (f x) 0 t in
      omega arith)
      (cases_Bool (p x))

  -- a sum over the places of a list
  pub sum_places : (xs : List X) (d : X) (n : ℕ) → n ≤ length xs
      → sum_by (λ (i : ℕ). f (get_or xs i d)) (range_with_len 0 n) ≡ sum_by f (take n xs)
  sum_places xs d zero l = refl
  sum_places xs d (suc n) l =
      let z : n + 1 ≡ suc n = omega arith in
      let r = sum_places xs d n (omega arith) in
      let a = sum_push (λ (i : ℕ). f (get_or xs i d)) n (f (get_or xs n d)) refl in
      let b = sum_by_more f xs n d (omega arith) in
      let same = ap (λ k. sum_by (λ (i : ℕ). f (get_or xs i d)) (range_with_len 0 k)) z in
      let same' = ap (λ k. sum_by f (take k xs)) z in
      omega arith

module _ {A B : Type 0} (f : A → ℕ) (g : B → ℕ) (a : A) (b : B) where
  -- a sum of terms that are no larger than those at the same places of a list that is no shorter
  pub sum_le_places : (xs : List A) (ys : List B) → length xs ≤ length ys
      → ((i : ℕ) → i < length xs → f (get_or xs i a) ≤ g (get_or ys i b)) → sum_by f xs ≤ sum_by g ys
  sum_le_places [] ys l h = omega arith
  sum_le_places (x ∷ xs) [] l h = absurd (omega arith)
  sum_le_places (x ∷ xs) (y ∷ ys) l h =
      let p = sum_by-cons f x xs in
      let q = sum_by-cons g y ys in
      let r = sum_le_places xs ys (omega arith) (λ i m. h (suc i) (omega arith)) in
      let here = h 0 (omega arith) in
      omega arith
