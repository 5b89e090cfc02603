-- A list put in order has the same elements, in order.
use Rattle.std.proofs.Common.{◌≡◌, suc, Bool, true, false, List, [], ◌∷◌, length, ap, refl, ◌∙◌}
use Rattle.std.specs.List.{AllByRecursion as Each}
use Rattle.std.proofs.lemmas.Bool.{cond_both}
use Rattle.tt_rules.specs.Order.{inserted, ascending}
use Rattle.tt_rules.proofs.Each.{Pairs, each_weaker}

module _ {A : Type 0} (is_before : A → A → Bool) where
  -- ---- the same elements

  length-inserted : (x : A) (ys : List A) → length (inserted is_before x ys) ≡ suc (length ys)
  length-inserted x [] = refl
  length-inserted x (y ∷ ys) = cond_both (is_before y x) _ _ (λ zs. length zs ≡ suc (suc (length ys)))
      (λ is. ap suc (length-inserted x ys)) (λ is. refl)

  pub length-ascending : (xs : List A) → length (ascending is_before xs) ≡ length xs
  length-ascending [] = refl
  length-ascending (x ∷ xs) = length-inserted x (ascending is_before xs) ∙ ap suc (length-ascending xs)

  each_inserted : (P : A → Type 0) (x : A) (ys : List A) → P x → Each P ys → Each P (inserted is_before x ys)
  each_inserted P x [] here h = (here, tt)
  each_inserted P x (y ∷ ys) here h = cond_both (is_before y x) _ _ (Each P)
      (λ is. (h.0, each_inserted P x ys here h.1)) (λ is. (here, h))

  pub each_ascending : (P : A → Type 0) (xs : List A) → Each P xs → Each P (ascending is_before xs)
  each_ascending P [] h = tt
  each_ascending P (x ∷ xs) h = each_inserted P x (ascending is_before xs) h.0 (each_ascending P xs h.1)

  -- what holds of two elements in either order
  pairs_inserted : (R : A → A → Type 0) → ((x y : A) → R x y → R y x) → (x : A) (ys : List A) → Each (R x) ys
      → Pairs R ys → Pairs R (inserted is_before x ys)
  pairs_inserted R turned x [] own h = (tt, tt)
  pairs_inserted R turned x (y ∷ ys) own h = cond_both (is_before y x) _ _ (Pairs R)
      (λ is. (each_inserted (R y) x ys (turned x y own.0) h.0, pairs_inserted R turned x ys own.1 h.1))
      (λ is. (own, h))

  pub pairs_ascending : (R : A → A → Type 0) → ((x y : A) → R x y → R y x) → (xs : List A) → Pairs R xs
      → Pairs R (ascending is_before xs)
  pairs_ascending R turned [] h = tt
  pairs_ascending R turned (x ∷ xs) h =
      pairs_inserted R turned x (ascending is_before xs) (each_ascending (R x) xs h.0) (pairs_ascending R turned xs h.1)

  -- ---- in order

  -- by the order, the second is not before the first
  abbrev pub InOrder : A → A → Type 0
  InOrder x y = is_before y x ≡ false

  module _ (one_way : (x y : A) → is_before x y ≡ true → is_before y x ≡ false)
      (through : (x y z : A) → InOrder x y → InOrder y z → InOrder x z) where
    order_inserted : (x : A) (ys : List A) → Pairs InOrder ys → Pairs InOrder (inserted is_before x ys)
    order_inserted x [] h = (tt, tt)
    order_inserted x (y ∷ ys) h = cond_both (is_before y x) _ _ (Pairs InOrder)
        (λ is. (each_inserted (InOrder y) x ys (one_way y x is) h.0, order_inserted x ys h.1))
        (λ is. ((is, each_weaker (InOrder y) (InOrder x) (λ z k. through x y z is k) ys h.0), h))

    pub order_ascending : (xs : List A) → Pairs InOrder (ascending is_before xs)
    order_ascending [] = tt
    order_ascending (x ∷ xs) = order_inserted x (ascending is_before xs) (order_ascending xs)
