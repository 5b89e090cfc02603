-- Lists that are kept in reverse, with another item at their front.
use Rattle.std.proofs.Common.{◌≡◌, ℕ, ◌-◌, ◌<◌, ◌↔◌, List, [], ◌∷◌, ◌++◌, Option, Some, None, IsSome, IfSome, length, reverse, slice_set, slice_get, slice_index_or, refl, sym, ap, ◌∙◌, arith}
use Rattle.std.proofs.lemmas.List.{reverse-append, reverse-reverse, length-append, set_at, get_or_at}
use Rattle.std.proofs.lemmas.Bool.{false≢true}
use Rattle.std.specs.Borrow.{MutBor}
use Rattle.std.specs.Option.{option_copied_mut}
use Rattle.tt_parts.specs.FrontLends.{with_front}

module _ {A : Type 0} (w : A) where
  last_set : (p : List A) (y : A)
      → reverse (slice_set (p ++ y ∷ []) (length (p ++ y ∷ []) - 1) w) ≡ with_front (reverse (p ++ y ∷ [])) w
  last_set p y =
      ap reverse (set_at p y [] w (length (p ++ y ∷ []) - 1) (omega (arith, length-append p (y ∷ []))))
      ∙ reverse-append p (w ∷ []) ∙ sym (ap (λ l. with_front l w) (reverse-append p (y ∷ [])))

  of_front : (ys xs : List A) → xs ≡ reverse ys
      → reverse (slice_set xs (length xs - 1) w) ≡ with_front (reverse xs) w
  of_front [] xs is = rw is refl
  of_front (y ∷ zs) xs is =
      let ends : xs ≡ reverse zs ++ y ∷ [] = is ∙ reverse-append (y ∷ []) zs in
      rw ends (last_set (reverse zs) y)

  -- with its last item changed, a list is in reverse with its front one changed
  pub front_set : (xs : List A) (n : ℕ) → n ≡ length xs
      → reverse (slice_set xs (n - 1) w) ≡ with_front (reverse xs) w
  front_set xs n is = rw is (of_front (reverse xs) xs (sym (reverse-reverse xs)))

module _ {A : Type 0} where
  first_of : (ys xs : List A) (n : ℕ) (now : A) → xs ≡ reverse ys → n ≡ length xs → 0 < n
      → now ≡ slice_index_or xs (n - 1) now → Some now ≡ slice_get ys 0
  first_of [] xs n now is len some value = absurd (omega (arith, len, ap length is))
  first_of (y ∷ zs) xs n now is len some value =
      let ends : xs ≡ reverse zs ++ y ∷ [] = is ∙ reverse-append (y ∷ []) zs in
      let before : length (reverse zs) ≡ n - 1 =
      omega (arith, ap length ends, length-append (reverse zs) (y ∷ []), len) in
      ap Some (value ∙ ap (λ l. slice_index_or l (n - 1) now) ends ∙ get_or_at (reverse zs) y [] now (n - 1) before)

  -- the last item of a list, as a reference to it reads it, is the front one of the list in reverse
  pub front_read : (xs : List A) (n : ℕ) (r : Option (MutBor A)) → n ≡ length xs → IsSome r ↔ (0 < n)
      → IfSome r (λ x. x.now ≡ slice_index_or xs (n - 1) x.now) → option_copied_mut r ≡ slice_get (reverse xs) 0
  front_read [] n None is some value = refl
  front_read (x ∷ rest) n None is some value = absurd (false≢true (some.1 (omega (arith, is))))
  front_read xs n (Some x) is some value =
      first_of (reverse xs) xs n x.now (sym (reverse-reverse xs)) is (some.0 refl) value
