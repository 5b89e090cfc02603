-- Lists that a test cuts in two.
use Rattle.std.proofs.Common.{ℕ, zero, suc, ◌≡◌, ◌≤◌, ◌<◌, Bool, true, false, cond, List, [], ◌∷◌, ◌++◌, length, get_or, refl, sym, ap, ◌∙◌, arith}
use Rattle.std.specs.Prelude.{◌||◌, filter}
use Rattle.std.specs.List.{All}
use Rattle.std.specs.List.Sorted.{IsPartitionPoint}
use Rattle.std.proofs.lemmas.Bool.{cond-true, cond-false, cond_both, false_from_ne_true}
use Rattle.std.proofs.lemmas.List.Elements.{All-cons, All-head, All-nil, All-tail}
use Rattle.round_table.specs.Cuts.{IsCut}

module _ {X : Type 0} (test : X → Bool) where
  pub filter_all : (xs : List X) → All (λ x. test x ≡ true) xs → filter test xs ≡ xs
  filter_all [] h = refl
  filter_all (x ∷ xs) h =
      cond-true (test x) _ _ (h 0 x (omega arith))
      ∙ ap (λ ys. x ∷ ys) (filter_all xs (All-tail (λ y. test y ≡ true) x xs h))

  pub filter_none : (xs : List X) → All (λ x. test x ≡ false) xs → filter test xs ≡ []
  filter_none [] h = refl
  filter_none (x ∷ xs) h =
      cond-false (test x) _ _ (h 0 x (omega arith)) ∙ filter_none xs (All-tail (λ y. test y ≡ false) x xs h)

  -- where nothing is kept, nothing passes
  pub filter_empty : (xs : List X) → filter test xs ≡ [] → All (λ x. test x ≡ false) xs
  filter_empty [] = λ none. All-nil (λ x. test x ≡ false)
  filter_empty (x ∷ xs) =
      cond_both (test x) (x ∷ filter test xs) (filter test xs) (λ ys. ys ≡ [] → All (λ y. test y ≡ false) (x ∷ xs))
      (λ _ none. cc) (λ e none. All-cons (λ y. test y ≡ false) x xs e (filter_empty xs none))

  pub cut_from : (xs : List X) (place : ℕ) → place ≤ length xs
      → IsPartitionPoint (λ x. test x ≡ true) (λ x. test x ≡ false) xs place → IsCut test xs place
  cut_from xs place within h =
      record { within = within; front = λ k d l. h.0 k d (omega arith) l; back = λ k d m l. h.1 k d m l }

  -- the place is the number of those that pass
  pub cut_length : (xs : List X) (place : ℕ) → IsCut test xs place → place ≡ length (filter test xs)
  cut_length [] place h = let w = h.within in omega arith
  cut_length (x ∷ xs) zero h =
      cut_length xs zero (record {
        within = omega arith;
        front = λ k d l. absurd (omega arith);
        back =
            λ k d m l. h.back (suc k) d (omega arith) (omega arith);
      })
      ∙ sym (ap length (cond-false (test x) (x ∷ filter test xs) (filter test xs)
      (h.back 0 x (omega arith) (omega arith))))
  cut_length (x ∷ xs) (suc place) h =
      ap suc
      (cut_length xs place
      (record {
        within = let w = h.within in omega arith;
        front = λ k d l. h.front (suc k) d (omega arith);
        back = λ k d m l. h.back (suc k) d (omega arith) (omega arith);
      }))
      ∙ sym (ap length (cond-true (test x) (x ∷ filter test xs) (filter test xs) (h.front 0 x (omega arith))))

-- the elements that pass one of two tests, where none that passes the first is at or after one that passes the second
module _ {X : Type 0} (p q : X → Bool) where
  abbrev pub IsApart : List X → Type 0
  IsApart xs = (i j : ℕ) (d : X) → i ≤ j → j < length xs → q (get_or xs i d) ≡ true → p (get_or xs j d) ≡ true → ⊥

  pub filter_split : (xs : List X) → IsApart xs → filter (λ x. p x || q x) xs ≡ filter p xs ++ filter q xs
  filter_split [] apart = refl
  filter_split (x ∷ xs) apart =
      at (p x) (q x) refl refl (filter_split xs (λ i j d le l. apart (suc i) (suc j) d (omega arith) (omega arith)))
    where
      at : (a b : Bool) → p x ≡ a → q x ≡ b → filter (λ y. p y || q y) xs ≡ filter p xs ++ filter q xs
          → cond (a || b) (x ∷ filter (λ y. p y || q y) xs) (filter (λ y. p y || q y) xs)
          ≡ cond a (x ∷ filter p xs) (filter p xs) ++ cond b (x ∷ filter q xs) (filter q xs)
      at true true first second rest = absurd (apart 0 0 x (omega arith) (omega arith) second first)
      at true false first second rest = ap (λ ys. x ∷ ys) rest
      at false true first second rest =
          let none : filter p xs ≡ [] =
          filter_none p xs (λ k d l. false_from_ne_true (p (get_or xs k d))
          (λ passes. apart 0 (suc k) d (omega arith) (omega arith) second passes)) in
          ap (λ ys. x ∷ ys) (rest ∙ ap (λ ys. ys ++ filter q xs) none) ∙ sym (ap (λ ys. ys ++ x ∷ filter q xs) none)
      at false false first second rest = rest

-- two tests that agree at the elements of a list keep the same of them
pub filter_alike : {X : Type 0} (p q : X → Bool) (xs : List X) → All (λ x. p x ≡ q x) xs → filter p xs ≡ filter q xs
filter_alike p q [] h = refl
filter_alike p q (x ∷ xs) h =
    ap (λ b. cond b (x ∷ filter p xs) (filter p xs)) (All-head (λ y. p y ≡ q y) x xs h)
    ∙ ap (λ ys. cond (q x) (x ∷ ys) ys) (filter_alike p q xs (All-tail (λ y. p y ≡ q y) x xs h))
