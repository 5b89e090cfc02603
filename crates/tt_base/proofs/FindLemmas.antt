-- What a name declares, as the names grow.
use Rattle.std.proofs.Common.{◌≡◌, ℕ, ◌≤◌, ◌<◌, Bool, true, false, eqb, List, [], ◌∷◌, ◌++◌, length, Option, Some, None}
use Rattle.std.proofs.Common.{arith, ap, sym, ◌∙◌, refl, ⊎_elim, if◌then◌else◌, not}
use Rattle.std.specs.Prelude.{position, option_and_then}
use Rattle.std.specs.List.{position_or_len}
use Rattle.std.specs.Str.{bytes_eq}
use Rattle.std.proofs.lemmas.Grind.{common_steps}
use Rattle.std.proofs.lemmas.List.{take-append-le, take_all}
use Rattle.std.proofs.lemmas.List.Folds.{position_or_len_push}
use Rattle.std.proofs.lemmas.List.Sums.{prefix_len-le-length}
use Rattle.std.proofs.lemmas.Bool.{cases_lt}
use Rattle.std.proofs.lemmas.Bool.Decides.{nat_tests}
use Rattle.std.proofs.lemmas.Option.{gets}
use Rattle.std.proofs.lemmas.Slice.Eq.{bytes_eq-Decides}
use Rattle.tt_base.specs.Names.{count_of, declared, declared_at, find_name}
use Rattle.tt_base.specs.declared.names.NameEntry.{NameEntry}
use Rattle.tt_base.specs.declared.names.Declared.{Declared}
use Rattle.tt_base.proofs.NamesLemmas.{slice_get-append_left, slice_get-push}

-- bytes that compare equal are equal
pub same_bytes : (xs ys : List ℕ) → bytes_eq xs ys ≡ true → xs ≡ ys
same_bytes xs ys = (bytes_eq-Decides xs ys).0

-- in an empty list no name declares anything
pub find_name-nil : (name : List ℕ) → find_name [] name ≡ None
unfolding find_name
find_name-nil name = refl

-- what the name at a place declares, in a longer list
declared_at-push : (names : List NameEntry) (entry : NameEntry) (place : ℕ) → place < length names
    → declared_at (names ++ entry ∷ []) place ≡ declared_at names place
declared_at-push names entry place lt =
    let few : place ≤ length names = omega arith in
    rw (slice_get-append_left names (entry ∷ []) place lt, take-append-le place names (entry ∷ []) few)

-- what the name at the end of the list declares
declared_at-last : (names : List NameEntry) (entry : NameEntry)
    → declared_at (names ++ entry ∷ []) (length names) ≡ Some (declared entry.kind (count_of entry.kind names))
declared_at-last names entry =
    let all : length names ≤ length names = omega arith in
    rw (
      slice_get-push names entry,
      take-append-le (length names) names (entry ∷ []) all,
      take_all (length names) names all,
    )

-- whether an entry has this name
abbrev has : List ℕ → NameEntry → Bool
has name = λ entry. bytes_eq entry.name name

position-within : {X : Type 0} (p : X → Bool) (xs : List X) → position_or_len p xs < length xs
    → position p xs ≡ Some (position_or_len p xs)
position-within p xs lt = grind (arith, common_steps, nat_tests)

position-past : {X : Type 0} (p : X → Bool) (xs : List X) → length xs ≤ position_or_len p xs → position p xs ≡ None
position-past p xs le = grind (arith, common_steps, nat_tests)

-- the first place that passes a test, in a list with one item more
position-push : {X : Type 0} (p : X → Bool) (xs : List X) (x : X)
    → position p (xs ++ x ∷ []) ≡ (if eqb (position_or_len p xs) (length xs)
    then (if p x then Some (length xs) else None) else position p xs)
position-push p xs x =
    grind (arith, common_steps, nat_tests, position_or_len_push p xs x, prefix_len-le-length (λ y. not (p y)) xs)

position-push_within : {X : Type 0} (p : X → Bool) (xs : List X) (x : X) → position_or_len p xs < length xs
    → position p (xs ++ x ∷ []) ≡ Some (position_or_len p xs)
position-push_within p xs x lt = grind (arith, nat_tests, position-push p xs x, position-within p xs lt)

position-push_past : {X : Type 0} (p : X → Bool) (xs : List X) (x : X) → length xs ≤ position_or_len p xs
    → position p (xs ++ x ∷ []) ≡ (if p x then Some (length xs) else None)
position-push_past p xs x le =
    let all : position_or_len p xs ≡ length xs = omega (arith, prefix_len-le-length (λ y. not (p y)) xs) in
    grind (arith, nat_tests, position-push p xs x)

find_name-within : (names : List NameEntry) (name : List ℕ) → position_or_len (has name) names < length names
    → find_name names name ≡ declared_at names (position_or_len (has name) names)
unfolding find_name
find_name-within names name lt = ap (option_and_then (declared_at names)) (position-within (has name) names lt)

find_name-past : (names : List NameEntry) (name : List ℕ) → length names ≤ position_or_len (has name) names
    → find_name names name ≡ None
unfolding find_name
find_name-past names name le = ap (option_and_then (declared_at names)) (position-past (has name) names le)

-- a name that is among the names before the last
find_name-push_within : (names : List NameEntry) (entry : NameEntry) (name : List ℕ)
    → position_or_len (has name) names < length names
    → find_name (names ++ entry ∷ []) name ≡ find_name names name
unfolding find_name
find_name-push_within names entry name lt =
    ap (option_and_then (declared_at (names ++ entry ∷ []))) (position-push_within (has name) names entry lt)
    ∙ declared_at-push names entry (position_or_len (has name) names) lt
    ∙ sym (find_name-within names name lt)

-- the thing that the last entry declares, where it has this name
abbrev pub declared_last : List NameEntry → NameEntry → Bool → Option Declared
declared_last names entry same = if same then Some (declared entry.kind (count_of entry.kind names)) else None

-- a name that is not among them
find_name-push_past : (names : List NameEntry) (entry : NameEntry) (name : List ℕ)
    → length names ≤ position_or_len (has name) names
    → find_name (names ++ entry ∷ []) name ≡ declared_last names entry (bytes_eq entry.name name)
unfolding find_name
find_name-push_past names entry name le =
    ap (option_and_then (declared_at (names ++ entry ∷ []))) (position-push_past (has name) names entry le)
    ∙ at_last (bytes_eq entry.name name) where
      at_last : (same : Bool)
          → option_and_then (declared_at (names ++ entry ∷ [])) (if same then Some (length names) else None)
          ≡ declared_last names entry same
      at_last true = declared_at-last names entry
      at_last false = refl

declared_at-within : (names : List NameEntry) (place : ℕ) → place < length names → declared_at names place ≡ None → ⊥
declared_at-within names place lt = grind (arith, common_steps, gets)

-- a name that already declared something still declares the same
pub find_name-push_known : (names : List NameEntry) (entry : NameEntry) (name : List ℕ) (which : Declared)
    → find_name names name ≡ Some which → find_name (names ++ entry ∷ []) name ≡ Some which
find_name-push_known names entry name which known =
    ⊎_elim (λ lt. find_name-push_within names entry name lt ∙ known)
    (λ le. let unknown : find_name names name ≡ None = find_name-past names name le in cc)
    (cases_lt (position_or_len (has name) names) (length names))

-- a name that declared nothing declares the last thing, where the last entry has this name
pub find_name-push_unknown : (names : List NameEntry) (entry : NameEntry) (name : List ℕ) → find_name names name ≡ None
    → find_name (names ++ entry ∷ []) name ≡ declared_last names entry (bytes_eq entry.name name)
find_name-push_unknown names entry name unknown =
    ⊎_elim (λ lt. absurd (declared_at-within names (position_or_len (has name) names) lt
    (sym (find_name-within names name lt) ∙ unknown)))
    (λ le. find_name-push_past names entry name le)
    (cases_lt (position_or_len (has name) names) (length names))
