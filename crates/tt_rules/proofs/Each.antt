-- What holds of each element of a list, and of each element with each one after it.
use Rattle.std.proofs.Common.{◌≡◌, ℕ, ◌<◌, length, get_or, Bool, true, false, List, [], ◌∷◌, ◌++◌, map, refl}
use Rattle.std.specs.Prelude.{flat_map}
use Rattle.std.specs.List.{AllByRecursion as Each, list_all, list_any}
use Rattle.std.proofs.lemmas.Bool.{and_parts, and_from, or_parts, or_from}
use Rattle.std.proofs.lemmas.List.Elements.{All-from_recursion, All-get_or}

-- R holds of each element and each one after it
abbrev pub Pairs : {A : Type 0} → (A → A → Type 0) → List A → Type 0
Pairs R [] = Unit {0}
Pairs R (x ∷ xs) = Each (R x) xs × Pairs R xs

module _ {A : Type 0} (P : A → Type 0) where
  pub each_always : ((x : A) → P x) → (xs : List A) → Each P xs
  each_always always [] = tt
  each_always always (x ∷ xs) = (always x, each_always always xs)

  pub each_append : (xs ys : List A) → Each P xs → Each P ys → Each P (xs ++ ys)
  each_append [] ys h k = k
  each_append (x ∷ xs) ys h k = (h.0, each_append xs ys h.1 k)

  pub each_map : {B : Type 0} (f : B → A) (ys : List B) → Each (λ y. P (f y)) ys → Each P (map f ys)
  each_map f [] h = tt
  each_map f (y ∷ ys) h = (h.0, each_map f ys h.1)

module _ {A : Type 0} (P Q : A → Type 0) where
  pub each_weaker : ((x : A) → P x → Q x) → (xs : List A) → Each P xs → Each Q xs
  each_weaker weaker [] h = tt
  each_weaker weaker (x ∷ xs) h = (weaker x h.0, each_weaker weaker xs h.1)

  pub each_both : (xs : List A) → Each P xs → Each Q xs → Each (λ x. P x × Q x) xs
  each_both [] h k = tt
  each_both (x ∷ xs) h k = ((h.0, k.0), each_both xs h.1 k.1)

-- ---- tests

module _ {A : Type 0} (test : A → Bool) where
  pub each_from_all : (xs : List A) → list_all test xs ≡ true → Each (λ x. test x ≡ true) xs
  each_from_all [] is = tt
  each_from_all (x ∷ xs) is = ((and_parts (test x) _ is).0, each_from_all xs (and_parts (test x) _ is).1)

  pub all_from_each : (xs : List A) → Each (λ x. test x ≡ true) xs → list_all test xs ≡ true
  all_from_each [] h = refl
  all_from_each (x ∷ xs) h = and_from (test x) _ h.0 (all_from_each xs h.1)

  pub each_from_none : (xs : List A) → list_any test xs ≡ false → Each (λ x. test x ≡ false) xs
  each_from_none [] is = tt
  each_from_none (x ∷ xs) is = ((or_parts (test x) _ is).0, each_from_none xs (or_parts (test x) _ is).1)

  pub none_from_each : (xs : List A) → Each (λ x. test x ≡ false) xs → list_any test xs ≡ false
  none_from_each [] h = refl
  none_from_each (x ∷ xs) h = or_from (test x) _ h.0 (none_from_each xs h.1)

-- ---- pairs

module _ {A : Type 0} (R S : A → A → Type 0) where
  pub pairs_weaker : ((x y : A) → R x y → S x y) → (xs : List A) → Pairs R xs → Pairs S xs
  pairs_weaker weaker [] h = tt
  pairs_weaker weaker (x ∷ xs) h = (each_weaker (R x) (S x) (weaker x) xs h.0, pairs_weaker weaker xs h.1)

  pub pairs_both : (xs : List A) → Pairs R xs → Pairs S xs → Pairs (λ x y. R x y × S x y) xs
  pairs_both [] h k = tt
  pairs_both (x ∷ xs) h k = (each_both (R x) (S x) xs h.0 k.0, pairs_both xs h.1 k.1)

module _ {A : Type 0} (R : A → A → Type 0) where
  pub pairs_append : (xs ys : List A) → Pairs R xs → Pairs R ys → Each (λ x. Each (R x) ys) xs → Pairs R (xs ++ ys)
  pairs_append [] ys h k across = k
  pairs_append (x ∷ xs) ys h k across = (each_append (R x) xs ys h.0 across.0, pairs_append xs ys h.1 k across.1)

  -- what holds of each two elements, in either order
  pub pairs_of_all : (xs : List A) → Each (λ x. Each (R x) xs) xs → Pairs (λ x y. R x y × R y x) xs
  pairs_of_all [] h = tt
  pairs_of_all (x ∷ xs) h = (
    each_both (R x) (λ y. R y x) xs h.0.1 (each_weaker (λ y. Each (R y) (x ∷ xs)) (λ y. R y x) (λ y k. k.0) xs h.1),
    pairs_of_all xs (each_weaker (λ y. Each (R y) (x ∷ xs)) (λ y. Each (R y) xs) (λ y k. k.1) xs h.1),
  )

-- ---- what several lists joined have

module _ {X A : Type 0} (f : X → List A) where
  pub each_flat_map : (P : X → Type 0) (Q : A → Type 0) → ((x : X) → P x → Each Q (f x)) → (xs : List X) → Each P xs
      → Each Q (flat_map f xs)
  each_flat_map P Q gives [] h = tt
  each_flat_map P Q gives (x ∷ xs) h =
      each_append Q (f x) (flat_map f xs) (gives x h.0) (each_flat_map P Q gives xs h.1)

  -- what holds between the list of one element and the lists of the others
  across : (R : X → X → Type 0) (S : A → A → Type 0) → ((x y : X) → R x y → Each (λ a. Each (S a) (f y)) (f x))
      → (x : X) (xs : List X) → Each (R x) xs → Each (λ a. Each (S a) (flat_map f xs)) (f x)
  across R S gives x [] h = each_always (λ a. Each (S a) []) (λ a. tt) (f x)
  across R S gives x (y ∷ ys) h =
      each_weaker (λ a. Each (S a) (f y) × Each (S a) (flat_map f ys)) (λ a. Each (S a) (f y ++ flat_map f ys))
      (λ a k. each_append (S a) (f y) (flat_map f ys) k.0 k.1) (f x)
      (each_both (λ a. Each (S a) (f y)) (λ a. Each (S a) (flat_map f ys)) (f x) (gives x y h.0)
      (across R S gives x ys h.1))

  pub pairs_flat_map : (R : X → X → Type 0) (S : A → A → Type 0)
      → ((x y : X) → R x y → Each (λ a. Each (S a) (f y)) (f x))
      → ((x : X) → Pairs S (f x)) → (xs : List X) → Pairs R xs → Pairs S (flat_map f xs)
  pairs_flat_map R S gives inside [] h = tt
  pairs_flat_map R S gives inside (x ∷ xs) h =
      pairs_append S (f x) (flat_map f xs) (inside x) (pairs_flat_map R S gives inside xs h.1)
      (across R S gives x xs h.0)

-- what holds of each element holds of the one at a place
pub each_index : {A : Type 0} (P : A → Type 0) (xs : List A) (k : ℕ) (x : A) → k < length xs → Each P xs
    → P (get_or xs k x)
each_index P xs k x lt h = All-get_or P xs k x lt (All-from_recursion P xs h)
