-- Lists of pairs.
use Rattle.std.proofs.Common.{◌≡◌, List, [], ◌∷◌, ◌++◌, length, refl, ap, arith}
use Rattle.std.specs.Prelude.{All, AllPairs, map}
use Rattle.std.specs.List.{zip}
use Rattle.std.proofs.lemmas.List.Elements.{All-nil, All-cons, All-head, All-tail, All-map}
use Rattle.std.proofs.lemmas.List.Kept.{AllPairs-cons}
use Rattle.run_stack.proofs.Lists.{AllPairs-first, AllPairs-rest}

AllPairs-nil : {X : Type 0} (R : X → X → Type 0) → AllPairs R []
AllPairs-nil R i j d before within = absurd (omega arith)

module _ {A B : Type 0} where
  -- what holds of each first item holds of the first of each pair
  pub All-zip_first : (P : A → Type 0) (xs : List A) (ys : List B) → All P xs → All (λ (p : A × B). P p.0) (zip xs ys)
  All-zip_first P [] ys all = All-nil (λ (p : A × B). P p.0)
  All-zip_first P (x ∷ xs) [] all = All-nil (λ (p : A × B). P p.0)
  All-zip_first P (x ∷ xs) (y ∷ ys) all =
      All-cons (λ (p : A × B). P p.0) (x, y) (zip xs ys) (All-head P x xs all)
      (All-zip_first P xs ys (All-tail P x xs all))

  -- what holds of each second item holds of the second of each pair
  pub All-zip_second : (P : B → Type 0) (xs : List A) (ys : List B) → All P ys → All (λ (p : A × B). P p.1) (zip xs ys)
  All-zip_second P [] ys all = All-nil (λ (p : A × B). P p.1)
  All-zip_second P (x ∷ xs) [] all = All-nil (λ (p : A × B). P p.1)
  All-zip_second P (x ∷ xs) (y ∷ ys) all =
      All-cons (λ (p : A × B). P p.1) (x, y) (zip xs ys) (All-head P y ys all)
      (All-zip_second P xs ys (All-tail P y ys all))

  -- what holds between the first items holds between the firsts of the pairs
  pub AllPairs-zip : (R : A → A → Type 0) (xs : List A) (ys : List B) → AllPairs R xs
      → AllPairs (λ (p q : A × B). R p.0 q.0) (zip xs ys)
  AllPairs-zip R [] ys pairs = AllPairs-nil (λ (p q : A × B). R p.0 q.0)
  AllPairs-zip R (x ∷ xs) [] pairs = AllPairs-nil (λ (p q : A × B). R p.0 q.0)
  AllPairs-zip R (x ∷ xs) (y ∷ ys) pairs =
      AllPairs-cons (λ (p q : A × B). R p.0 q.0) (x, y) (zip xs ys)
      (All-zip_first (R x) xs ys (AllPairs-first R x xs pairs))
      (AllPairs-zip R xs ys (AllPairs-rest R x xs pairs))

  -- two lists of one length give as many pairs
  pub length-zip : (xs : List A) (ys : List B) → length xs ≡ length ys → length (zip xs ys) ≡ length ys
  length-zip [] [] same = refl
  length-zip [] (y ∷ ys) same = absurd (omega arith)
  length-zip (x ∷ xs) [] same = absurd (omega arith)
  length-zip (x ∷ xs) (y ∷ ys) same = let rest = length-zip xs ys (omega arith) in omega (arith, rest)

  -- one more item at the end of both lists is one more pair
  pub zip-push : (xs : List A) (x : A) (ys : List B) (y : B) → length xs ≡ length ys
      → zip (xs ++ x ∷ []) (ys ++ y ∷ []) ≡ zip xs ys ++ (x, y) ∷ []
  zip-push [] x [] y same = refl
  zip-push [] x (z ∷ ys) y same = absurd (omega arith)
  zip-push (z ∷ xs) x [] y same = absurd (omega arith)
  zip-push (z ∷ xs) x (w ∷ ys) y same = ap (λ (l : List (A × B)). (z, w) ∷ l) (zip-push xs x ys y (omega arith))

  -- what holds between the values at the items holds between the mapped items
  pub AllPairs-map : (f : A → B) (R : B → B → Type 0) (xs : List A) → AllPairs (λ (x y : A). R (f x) (f y)) xs
      → AllPairs R (map f xs)
  AllPairs-map f R [] pairs = AllPairs-nil R
  AllPairs-map f R (x ∷ xs) pairs =
      AllPairs-cons R (f x) (map f xs) (All-map (R (f x)) f xs (AllPairs-first (λ (x y : A). R (f x) (f y)) x xs pairs))
      (AllPairs-map f R xs (AllPairs-rest (λ (x y : A). R (f x) (f y)) x xs pairs))

  -- one more item at the end is mapped last
  pub map-push : (f : A → B) (xs : List A) (x : A) → map f (xs ++ x ∷ []) ≡ map f xs ++ f x ∷ []
  map-push f [] x = refl
  map-push f (y ∷ ys) x = ap (λ (l : List B). f y ∷ l) (map-push f ys x)

  -- what holds of each mapped item holds of the value at each item
  pub All-from_map : (f : A → B) (P : B → Type 0) (xs : List A) → All P (map f xs) → All (λ (x : A). P (f x)) xs
  All-from_map f P [] all = All-nil (λ (x : A). P (f x))
  All-from_map f P (x ∷ xs) all =
      All-cons (λ (x : A). P (f x)) x xs (All-head P (f x) (map f xs) all)
      (All-from_map f P xs (All-tail P (f x) (map f xs) all))

  -- what holds of the first of each pair holds of each first item, where the lists have one length
  pub All-from_zip : (P : A → Type 0) (xs : List A) (ys : List B) → length xs ≡ length ys
      → All (λ (p : A × B). P p.0) (zip xs ys) → All P xs
  All-from_zip P [] ys same all = All-nil P
  All-from_zip P (x ∷ xs) [] same all = absurd (omega arith)
  All-from_zip P (x ∷ xs) (y ∷ ys) same all =
      All-cons P x xs (All-head (λ (p : A × B). P p.0) (x, y) (zip xs ys) all)
      (All-from_zip P xs ys (omega arith) (All-tail (λ (p : A × B). P p.0) (x, y) (zip xs ys) all))
