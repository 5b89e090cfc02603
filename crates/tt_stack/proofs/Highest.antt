-- The highest level among those that have something left.
use Rattle.std.proofs.Common.{◌≡◌, ◌≢◌, ℕ, zero, suc, ◌+◌, ◌<◌, ◌≤◌, ⊎_elim, Bool, true, false, cond, List, [], ◌∷◌, Option, None, Some, refl, sym, ap, ◌∙◌, subst, arith, nat_lt, IfSome}
use Rattle.std.specs.Prelude.{filter, slice_index_or}
use Rattle.std.specs.List.{range_with_len}
use Rattle.std.proofs.lemmas.Bool.{cases_eq}
use Rattle.std.proofs.lemmas.Bool.Decides.{nat_tests}
use Rattle.tt_world.specs.Runners.{higher, highest}

abbrev level_of : List ℕ → ℕ → ℕ
level_of levels n = slice_index_or levels n 0

abbrev IsAtMost : List ℕ → ℕ → Option ℕ → Type 0
IsAtMost levels most o = IfSome o (λ n. level_of levels n ≤ most)

-- ---- of two

keeps : (levels : List ℕ) (n other : ℕ) (lower : Bool) → nat_lt (level_of levels n) (level_of levels other) ≡ lower
    → level_of levels other ≤ level_of levels n → cond lower other n ≡ n
keeps levels n other true is most = let less : level_of levels n < level_of levels other =
    grind (arith, nat_tests) in absurd (omega arith)
keeps levels n other false is most = refl

first_is_higher : (levels : List ℕ) (n : ℕ) (o : Option ℕ) → IsAtMost levels (level_of levels n) o → higher levels n o
    ≡ n
first_is_higher levels n None most = refl
first_is_higher levels n (Some other) most =
    keeps levels n other (nat_lt (level_of levels n) (level_of levels other)) refl most

gives : (levels : List ℕ) (n other : ℕ) (lower : Bool) → nat_lt (level_of levels n) (level_of levels other) ≡ lower
    → level_of levels n < level_of levels other → cond lower other n ≡ other
gives levels n other true is less = refl
gives levels n other false is less = let most : level_of levels other ≤ level_of levels n =
    grind (arith, nat_tests) in absurd (omega arith)

other_is_higher : (levels : List ℕ) (n other : ℕ) → level_of levels n < level_of levels other
    → higher levels n (Some other) ≡ other
other_is_higher levels n other less =
    gives levels n other (nat_lt (level_of levels n) (level_of levels other)) refl less

either_at_most : (levels : List ℕ) (most n other : ℕ) (lower : Bool) → level_of levels n ≤ most
    → level_of levels other ≤ most
    → level_of levels (cond lower other n) ≤ most
either_at_most levels most n other true a b = b
either_at_most levels most n other false a b = a

higher_at_most : (levels : List ℕ) (most n : ℕ) (o : Option ℕ) → level_of levels n ≤ most → IsAtMost levels most o
    → level_of levels (higher levels n o) ≤ most
higher_at_most levels most n None a b = a
higher_at_most levels most n (Some other) a b =
    either_at_most levels most n other (nat_lt (level_of levels n) (level_of levels other)) a b

-- ---- of those that pass a test

module _ (levels : List ℕ) (passes : ℕ → Bool) where
  none_step : (n : ℕ) (ns : List ℕ) (b : Bool) → b ≡ false → highest levels (filter passes ns) ≡ None
      → highest levels (cond b (n ∷ filter passes ns) (filter passes ns)) ≡ None
  none_step n ns true fails none = absurd cc
  none_step n ns false fails none = none

  -- where no number passes, none is the highest
  pub none_of : ((n : ℕ) → passes n ≡ false) → (ns : List ℕ) → highest levels (filter passes ns) ≡ None
  unfolding highest
  none_of fails [] = refl
  none_of fails (n ∷ ns) = none_step n ns (passes n) (fails n) (none_of fails ns)

  most_step : (most n : ℕ) (ns : List ℕ) (b : Bool) → (b ≡ true → level_of levels n ≤ most)
      → IsAtMost levels most (highest levels (filter passes ns))
      → IsAtMost levels most (highest levels (cond b (n ∷ filter passes ns) (filter passes ns)))
  unfolding highest
  most_step most n ns true a rest = higher_at_most levels most n (highest levels (filter passes ns)) (a refl) rest
  most_step most n ns false a rest = rest

  most_of : (most : ℕ) → ((n : ℕ) → passes n ≡ true → level_of levels n ≤ most) → (ns : List ℕ)
      → IsAtMost levels most (highest levels (filter passes ns))
  unfolding highest
  most_of most all [] = tt
  most_of most all (n ∷ ns) = most_step most n ns (passes n) (all n) (most_of most all ns)

  module _ (top : ℕ) (here : passes top ≡ true)
      (others : (n : ℕ) → passes n ≡ true → n ≢ top → level_of levels n < level_of levels top) where
    all_at_most : (n : ℕ) → passes n ≡ true → level_of levels n ≤ level_of levels top
    all_at_most n p =
        ⊎_elim (λ (e : n ≡ top). rw e (omega arith)) (λ (e : n ≢ top). let less = others n p e in omega (arith, less))
        (cases_eq n top)

    here_step : (ns : List ℕ) (b : Bool) → b ≡ true
        → highest levels (cond b (top ∷ filter passes ns) (filter passes ns)) ≡ Some top
    unfolding highest
    here_step ns true is =
        ap Some (first_is_higher levels top (highest levels (filter passes ns))
        (most_of (level_of levels top) all_at_most ns))
    here_step ns false is = absurd cc

    other_step : (n : ℕ) (ns : List ℕ) (b : Bool) → passes n ≡ b → n ≢ top → highest levels (filter passes ns)
        ≡ Some top
        → highest levels (cond b (n ∷ filter passes ns) (filter passes ns)) ≡ Some top
    unfolding highest
    other_step n ns true p apart rest =
        ap (λ o. Some (higher levels n o)) rest ∙ ap Some (other_is_higher levels n top (others n p apart))
    other_step n ns false p apart rest = rest

    -- the highest of the numbers that pass is the one whose level is above those of all others
    pub top_of : (from count : ℕ) → from ≤ top → top < from + count
        → highest levels (filter passes (range_with_len from count)) ≡ Some top
    top_of from zero least within = absurd (omega arith)
    top_of from (suc count) least within =
        ⊎_elim
        (λ (e : from ≡ top). subst
        (λ n. highest levels
        (cond (passes n) (n ∷ filter passes (range_with_len (from + 1) count))
        (filter passes (range_with_len (from + 1) count))) ≡ Some top)
        (sym e) (here_step (range_with_len (from + 1) count) (passes top) here))
        (λ (e : from ≢ top). other_step from (range_with_len (from + 1) count) (passes from) refl e
        (top_of (from + 1) count (omega (arith, e)) (omega arith)))
        (cases_eq from top)
