-- The number of a name that is declared as a kind is below the count of that kind.
use Rattle.std.proofs.Common.{◌≡◌, ℕ, zero, suc, ◌<◌, Bool, true, false, List, [], ◌∷◌, length, map, filter, take, Option, Some, None, refl, ap, sym, ◌∙◌, arith}
use Rattle.std.specs.Prelude.{◌==◌, nat_lt, slice_get, option_and_then, option_map, unwrap_or}
use Rattle.std.proofs.lemmas.Bool.{lt-ltb}
use Rattle.std.proofs.lemmas.Bool.Decides.{nat_tests}
use Rattle.std.proofs.lemmas.Grind.{common_steps}
use Rattle.tt_base.specs.declared.names.Declared.{Declared}
use Rattle.tt_base.specs.declared.names.NameKind.{NameKind}
use Rattle.tt_base.specs.declared.names.NameKind.TheVariants as Kind
use Rattle.tt_base.specs.declared.names.NameEntry.{NameEntry}
use Rattle.tt_base.specs.Names.{count_of, declared, declared_at, find_name, index_of, is_same_kind, kind_of, number_of, place_of}
use Rattle.tt_parts.specs.Names.{number_named}
use Rattle.tt_rules.specs.BodyRules.{uses, has_kind, is_declared}

-- one more, where a test says so
abbrev pub more : Bool → ℕ → ℕ
more true n = suc n
more false n = n

-- one more name
pub count-cons : (kind : NameKind) (first : NameEntry) (names : List NameEntry)
    → count_of kind (first ∷ names) ≡ more (is_same_kind kind first.kind) (count_of kind names)
count-cons kind first names = grind (arith, common_steps, nat_tests)

kind_of-declared : (kind : NameKind) (number : ℕ) → kind_of (declared kind number) ≡ kind
kind_of-declared Kind.Mode number = refl
kind_of-declared kind number = refl

number_of-declared : (kind : NameKind) (number : ℕ) → number_of (declared kind number) ≡ number
number_of-declared Kind.Mode number = refl
number_of-declared kind number = refl

-- the number of an entry is below the count of its kind
below : (names : List NameEntry) (place : ℕ) (entry : NameEntry) → slice_get names place ≡ Some entry
    → count_of entry.kind (take place names) < count_of entry.kind names
below [] place entry is = cc
below (first ∷ names) zero entry is = grind (arith, common_steps, nat_tests)
below (first ∷ names) (suc place) entry is = grind (arith, common_steps, nat_tests, below names place entry is)

-- how many names have a kind at a place among the kinds
abbrev count_at : ℕ → List NameEntry → ℕ
count_at place names = length
    (map (λ (entry : NameEntry). entry.name) (filter (λ (entry : NameEntry). place == index_of entry.kind) names))

module _ (names : List NameEntry) (kind : NameKind) (name : List ℕ) where
  -- where a name is declared as a kind, the number of what it declares is below the count of that kind
  abbrev IsBelow : Option Declared → Type 0
  IsBelow which = has_kind (uses kind name) (option_map kind_of which) ≡ true
      → unwrap_or (option_map number_of which) 0 < count_of kind names

  at_entry : (place : ℕ) (e : Option NameEntry) → slice_get names place ≡ e
      → IsBelow (option_map (λ (entry : NameEntry). declared entry.kind (count_of entry.kind (take place names))) e)
  at_entry place None is has = cc
  at_entry place (Some e) is has =
      let number = count_of e.kind (take place names) in
      let same : index_of (kind_of (declared e.kind number)) ≡ index_of kind = grind (arith, nat_tests) in
      let index : index_of e.kind ≡ index_of kind = sym (ap index_of (kind_of-declared e.kind number)) ∙ same in
      omega (arith, number_of-declared e.kind number, below names place e is, ap (λ n. count_at n names) index)

  at_place : (place : Option ℕ) → IsBelow (option_and_then (declared_at names) place)
  at_place None has = cc
  at_place (Some place) has = at_entry place (slice_get names place) refl has

  pub number_below : is_declared names (uses kind name) ≡ true
      → nat_lt (number_named names name) (count_of kind names) ≡ true
  unfolding find_name
  number_below has = lt-ltb _ _ (at_place (place_of name names) has)
