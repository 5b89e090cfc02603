-- What rules on a list of parts say of each two parts.
use Rattle.std.proofs.Common.{◌≡◌, Bool, true, false, List, [], ◌∷◌}
use Rattle.std.specs.List.{AllByRecursion as Each, list_all, list_any}
use Rattle.std.proofs.lemmas.Bool.{and_parts, not-true}
use Rattle.tt_rules.specs.Shapes.{is_new, is_clear, differ_from}
use Rattle.tt_rules.proofs.Each.{Pairs, each_always, each_weaker, each_both, each_from_all, each_from_none, pairs_of_all}

module _ {A : Type 0} where
  differ-all : (same : A → A → Bool) (above xs : List A) → differ_from same above xs ≡ true
      → Each (λ o. Each (λ x. same o x ≡ false) xs) above × Pairs (λ a b. same a b ≡ false) xs
  differ-all same above [] is = (each_always (λ o. Each (λ x. same o x ≡ false) []) (λ o. tt) above, tt)
  differ-all same above (x ∷ xs) is =
      let both = and_parts (is_new same above x) (differ_from same (x ∷ above) xs) is in
      let rest = differ-all same (x ∷ above) xs both.1 in
      let here = each_from_none (λ o. same o x) above (not-true (list_any (λ o. same o x) above) both.0) in
      (each_both (λ o. same o x ≡ false) (λ o. Each (λ y. same o y ≡ false) xs) above here rest.0.1, (rest.0.0, rest.1))

  -- no part is the same as one above
  pub pairs_differ : (same : A → A → Bool) (xs : List A) → differ_from same [] xs ≡ true
      → Pairs (λ a b. same a b ≡ false) xs
  pairs_differ same xs is = (differ-all same [] xs is).1

  -- no part clashes with another, in either order
  pub pairs_clear : (clash : A → A → Bool) (xs : List A) → list_all (is_clear clash xs) xs ≡ true
      → Pairs (λ a b. (clash a b ≡ false) × (clash b a ≡ false)) xs
  pairs_clear clash xs is =
      pairs_of_all (λ a b. clash a b ≡ false) xs
      (each_weaker (λ a. is_clear clash xs a ≡ true) (λ a. Each (λ b. clash a b ≡ false) xs)
      (λ a k. each_from_none (clash a) xs (not-true (list_any (clash a) xs) k)) xs
      (each_from_all (is_clear clash xs) xs is))
