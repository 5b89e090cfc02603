-- A stable sort gives the same list as inserting each element into those after it.
use Rattle.std.proofs.Common.{◌≡◌, ℕ, suc, ◌<◌, ◌≤◌, Bool, true, false, not, List, [], ◌∷◌, length, get_or, Ordering, refl, sym, ap, ◌∙◌, arith}
use Rattle.std.specs.Prelude.{◌&&◌, filter}
use Rattle.std.specs.Cmp.{IsStrictWeakOrder, IsTotalOrder}
use Rattle.std.specs.Ordering.{is_lt}
use Rattle.std.specs.List.Sorted.{IsSortedBy, IsSortedByKey, IsStableBy, IsStableByKey, ties}
use Rattle.std.proofs.lemmas.List.Elements.{All-filter, All-from_recursion, All-head, All-same, recursion_from_All}
use Rattle.std.proofs.lemmas.List.Sorted.{ranks_by, sorted_far}
use Rattle.tt_rules.specs.Order.{inserted, ascending}
use Rattle.tt_rules.proofs.Each.{Pairs}
use Rattle.tt_rules.proofs.Sorting.{InOrder, order_ascending}

module _ {X : Type 0} (lt : X → X → Bool) (o : IsStrictWeakOrder lt) where
  -- no element comes, by the order, before one that is before it in the list
  abbrev pub Ascends : List X → Type 0
  Ascends = Pairs (InOrder lt)

  irreflexive : (x : X) → lt x x ≡ false
  irreflexive x = grind (arith, o.one_way x x)

  ties_itself : (x : X) → ties lt x x ≡ true
  ties_itself x = ap (λ b. not b && not b) (irreflexive x)

  -- ---- all elements inserted

  filter_inserted : (z x : X) (ys : List X) → filter (ties lt z) (inserted lt x ys) ≡ filter (ties lt z) (x ∷ ys)
  filter_inserted z x [] = refl
  filter_inserted z x (y ∷ ys) = grind (arith, filter_inserted z x ys, o.chain y z x)

  filter_ascending : (z : X) (xs : List X) → filter (ties lt z) (ascending lt xs) ≡ filter (ties lt z) xs
  filter_ascending z [] = refl
  filter_ascending z (x ∷ xs) = grind (arith, filter_inserted z x (ascending lt xs), filter_ascending z xs)

  -- ---- one list that ascends

  -- the first of a list that ascends is not after the first of a list with the same elements that tie with that one
  not_after : (x : X) (xs : List X) (y : X) (ys : List X) → Ascends (x ∷ xs)
      → filter (ties lt y) (x ∷ xs) ≡ filter (ties lt y) (y ∷ ys) → lt y x ≡ false
  not_after x xs y ys up same =
      let P = λ (z : X). lt z x ≡ false in
      let here : filter (ties lt y) (x ∷ xs) ≡ y ∷ filter (ties lt y) ys = cc (same, ties_itself y) in
      All-head P y _ (All-same P _ _ (sym here)
      (All-filter (ties lt y) P (x ∷ xs) (All-from_recursion P (x ∷ xs) (irreflexive x, up.0))))

  one_ascending : (xs ys : List X) → Ascends xs → Ascends ys
      → ((z : X) → filter (ties lt z) xs ≡ filter (ties lt z) ys) → xs ≡ ys
  one_ascending [] [] up other same = refl
  one_ascending [] (y ∷ ys) up other same = cc (same y, ties_itself y)
  one_ascending (x ∷ xs) [] up other same = cc (same x, ties_itself x)
  one_ascending (x ∷ xs) (y ∷ ys) up other same =
      let after = not_after x xs y ys up (same y) in
      let before = not_after y ys x xs other (sym (same x)) in
      let one : x ≡ y = cc (same x, ties_itself x, after, before) in
      cc (one, one_ascending xs ys up.1 other.1 (λ z. grind (arith, one, same z)))

  -- ---- a sort

  ascends_sorted : (xs : List X)
      → ((i j : ℕ) (d : X) → i ≤ j → j < length xs → lt (get_or xs j d) (get_or xs i d) ≡ false) → Ascends xs
  ascends_sorted [] up = tt
  ascends_sorted (x ∷ xs) up = (
    recursion_from_All (λ y. lt y x ≡ false) xs (λ k d below. up 0 (suc k) d (omega arith) (omega arith)),
    ascends_sorted xs (λ i j d le below. up (suc i) (suc j) d (omega arith) (omega arith)),
  )

  stable_sort : (xs ys : List X) → IsSortedBy lt ys → IsStableBy lt xs ys → ys ≡ ascending lt xs
  stable_sort xs ys sorted stable =
      one_ascending ys (ascending lt xs) (ascends_sorted ys (sorted_far lt o ys sorted))
      (order_ascending lt o.one_way (λ x y z one other. o.chain z y x other one) xs)
      (λ z. stable z ∙ sym (filter_ascending z xs))

-- what a stable sort by a key gives, where a test is the order of the keys
pub sort_by_key : {X K : Type 0} {R : K → K → Ordering} → IsTotalOrder R → (key : X → K) (test : X → X → Bool)
    → ((x y : X) → is_lt (R (key x) (key y)) ≡ test x y) → (xs ys : List X) → IsSortedByKey key R ys
    → IsStableByKey key R xs ys → ys ≡ ascending test xs
sort_by_key total key test same xs ys sorted stable =
    stable_sort _ (ranks_by total key) xs ys sorted stable ∙ (λ i. ascending (λ x y. same x y i) xs)
