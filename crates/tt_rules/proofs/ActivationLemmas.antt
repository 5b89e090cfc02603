-- A set of the keys of activations has one in a range exactly where an activation comes between offset and deadline.
use Rattle.std.proofs.Common.{◌≡◌, ℕ, ◌+◌, ◌<◌, ◌≤◌, Bool, true, false, not, List, [], ◌∷◌, length, Option, Some, None, refl, ap, sym, ◌∙◌, arith}
use Rattle.std.specs.Prelude.{◌&&◌, ◌==◌, nat_lt, filter, is_some, MatchOption}
use Rattle.std.specs.List.{list_any}
use Rattle.std.specs.declared.ops.Bound.TheVariants.{Included, Excluded}
use Rattle.std.specs.Ordering.{eq_by_cmp, is_gt}
use Rattle.std.specs.BTreeSet.{BTreeSet}
use Rattle.std.specs.BTreeMap.Range.{range_contains}
use Rattle.std.proofs.lemmas.Bool.{or_from}
use Rattle.std.proofs.lemmas.Bool.Decides.{nat_tests}
use Rattle.std.proofs.lemmas.List.Folds.{Any-from_list_any, list_any-from_Any}
use Rattle.tt_base.specs.declared.number.ModeNo.{ModeNo}
use Rattle.tt_world.specs.declared.config.Activation.{Activation}
use Rattle.tt_parts.specs.declared.located.At.{At}
use Rattle.tt_parts.specs.declared.entries.Entry.{Entry}
use Rattle.tt_parts.specs.declared.entries.Entry.TheVariants as entry
use Rattle.tt_rules.specs.ActivationKeys.{Key, key_of, key_cmp, HasKeys, comes_between_key, is_apart}
use Rattle.tt_rules.specs.Shapes.{is_key, passes_key, parts, is_clear}
use Rattle.tt_rules.specs.TableRules.{comes_between}

-- ---- keys

abbrev same : Key → Key → Bool
same = eq_by_cmp key_cmp

itself : (a b c : ℕ) → same (a, b, c) (a, b, c) ≡ true
itself a b c = grind (arith, nat_tests)

-- keys that compare equal are equal
numbers : (a b c d e f : ℕ) → same (a, b, c) (d, e, f) ≡ true → (a ≡ d) × (b ≡ e) × (c ≡ f)
numbers a b c d e f is = (grind (arith, nat_tests), grind (arith, nat_tests), grind (arith, nat_tests))

exact : (x y : Key) → same x y ≡ true → x ≡ y
exact x y is =
    let n = numbers x.0 x.1 x.2 y.0 y.1 y.2 is in
    ap (λ (a : ℕ). (a, x.1, x.2)) n.0 ∙ ap (λ (b : ℕ). (y.0, b, x.2)) n.1 ∙ ap (λ (c : ℕ). (y.0, y.1, c)) n.2

-- There is a key, and it is this one, exactly where it passes the test for this one.
pub key-turned : (q : Key) (key : Option Key) → is_key same q key ≡ passes_key (same q) key
key-turned q None = refl
key-turned q (Some k) = grind (arith, nat_tests)

-- ---- the range of keys after an activation

-- The range after an offset and before a deadline has the keys that come between them.
pub range-between : (mode task offset deadline : ℕ) (other : Key)
    → range_contains key_cmp (Included (mode, task, offset + 1)) (Excluded (mode, task, deadline)) other
    ≡ comes_between_key (mode, task, offset) deadline other
range-between mode task offset deadline other = grind (arith, nat_tests)

-- The range that begins after an offset and ends at a later one is one.
pub key-upto : (mode task offset deadline : ℕ) → offset < deadline
    → is_gt (key_cmp (mode, task, offset + 1) (mode, task, deadline)) ≡ false
key-upto mode task offset deadline lt = grind (arith, nat_tests)

-- An iterator over a list in order has a first item where the list has one.
pub first-some : {A B : Type 0} (shown : B → A) (next : Option B) (all rest : List A)
    → MatchOption next ((all ≡ []) × (rest ≡ [])) (λ b. all ≡ shown b ∷ rest) → is_some next ≡ nat_lt 0 (length all)
first-some shown None all rest steps = rw steps.0 refl
first-some shown (Some b) all rest steps = rw steps (grind (arith, nat_tests))

-- Where two tests agree, some item passes the one exactly where the other leaves an item.
pub some-filter : {A : Type 0} (p q : A → Bool) (xs : List A) → ((x : A) → p x ≡ q x)
    → list_any q xs ≡ nat_lt 0 (length (filter p xs))
some-filter p q [] agree = refl
some-filter p q (x ∷ xs) agree = grind (arith, nat_tests, agree x, some-filter p q xs agree)

-- Where no item passes a test, none of a list does.
pub none_passes : {A : Type 0} (p : A → Bool) (xs : List A) → ((x : A) → p x ≡ false) → list_any p xs ≡ false
none_passes p [] none = refl
none_passes p (x ∷ xs) none = or_from (p x) _ (none x) (none_passes p xs none)

-- Nothing comes between where the deadline is not above the offset.
pub comes_between-none : (mode task offset deadline : ℕ) (other : Key) → deadline ≤ offset
    → comes_between_key (mode, task, offset) deadline other ≡ false
comes_between-none mode task offset deadline other le = grind (arith, nat_tests)

-- ---- tests of keys

module _ {X : Type 0} (key_in : X → Option Key) (xs : List X) where
  -- some item has a key that passes
  abbrev any : (Key → Bool) → Bool
  any p = list_any (λ x. passes_key p (key_in x)) xs

  found : (p : Key → Bool) → any p ≡ true → (key : Key) × (p key ≡ true) × (any (same key) ≡ true)
  found p is =
      let w = Any-from_list_any (λ x. passes_key p (key_in x)) xs is in
      by (key_in w.1) (λ key of. list_any-from_Any (λ x. passes_key (same key) (key_in x)) xs
      (w.0, w.1, w.2, w.3, ap (passes_key (same key)) of ∙ itself key.0 key.1 key.2)) w.4 where
        by : (o : Option Key) → ((key : Key) → o ≡ Some key → any (same key) ≡ true) → passes_key p o ≡ true
            → (key : Key) × (p key ≡ true) × (any (same key) ≡ true)
        by None at here = cc
        by (Some key) at here = (key, here, at key refl)

  passes : (p : Key → Bool) (key : Key) → p key ≡ true → any (same key) ≡ true → any p ≡ true
  passes p key here is =
      let w = Any-from_list_any (λ x. passes_key (same key) (key_in x)) xs is in
      list_any-from_Any (λ x. passes_key p (key_in x)) xs (w.0, w.1, w.2, w.3, by (key_in w.1) w.4) where
        by : (other : Option Key) → passes_key (same key) other ≡ true → passes_key p other ≡ true
        by None is = cc
        by (Some other) is = ap p (sym (exact key other is)) ∙ here

alike : (a b : Bool) → (a ≡ true → b ≡ true) → (b ≡ true → a ≡ true) → a ≡ b
alike true b to from = sym (to refl)
alike false true to from = from refl
alike false false to from = refl

-- in a set that has the keys of entries, some key passes a test where one of the entries' keys does
has_passing : (set : BTreeSet Key) (xs : List (At Entry)) (p : Key → Bool) → HasKeys set xs
    → list_any p set.keys ≡ any (λ (x : At Entry). key_of x.part) xs p
has_passing set xs p keys =
    let key_in = λ (x : At Entry). key_of x.part in
    alike (list_any p set.keys) (any key_in xs p)
    (λ some. let one = found Some set.keys p some in passes key_in xs p one.0 one.1 (sym (keys one.0) ∙ one.2))
    (λ some. let one = found key_in xs p some in passes Some set.keys p one.0 one.1 (keys one.0 ∙ one.2))

and-assoc : (a b c : Bool) → ((a && b) && c) ≡ (a && (b && c))
and-assoc true b c = refl
and-assoc false b c = refl

any-between : (mode : ModeNo) (a : Activation) (xs : List (At Entry))
    → any (λ (x : At Entry). key_of x.part) xs (comes_between_key (mode.0, a.task.0, a.offset) a.deadline)
    ≡ list_any (comes_between (entry.Activates mode a)) (parts xs)
any-between mode a [] = refl
any-between mode a (x ∷ xs) = cc (one x.part, any-between mode a xs) where
  one : (other : Entry)
      → passes_key (comes_between_key (mode.0, a.task.0, a.offset) a.deadline) (key_of other)
      ≡ comes_between (entry.Activates mode a) other
  one (entry.Activates m b) = and-assoc (mode.0 == m.0) (a.task.0 == b.task.0) _
  one (entry.Enables m e) = refl

-- By a set of the keys of entries, an activation is apart exactly where it clashes with none of the entries.
pub apart-exactly : (set : BTreeSet Key) (xs : List (At Entry)) → HasKeys set xs → (x : Entry)
    → is_apart set.keys x ≡ is_clear comes_between (parts xs) x
apart-exactly set xs keys (entry.Activates mode a) =
    ap not (has_passing set xs (comes_between_key (mode.0, a.task.0, a.offset) a.deadline) keys ∙ any-between mode a xs)
apart-exactly set xs keys (entry.Enables mode e) =
    sym (ap not (none_passes (comes_between (entry.Enables mode e)) (parts xs) (λ x. refl)))
