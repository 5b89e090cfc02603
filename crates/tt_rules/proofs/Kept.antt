-- Where no line breaks a rule, the parts keep it.
use Rattle.std.proofs.Common.{◌≡◌, ℕ, Bool, true, false, List, [], ◌∷◌, ◌++◌, length, refl, ap, arith, filter, length-drop}
use Rattle.std.specs.List.{AllByRecursion as Each, list_all}
use Rattle.std.proofs.lemmas.Bool.{and_from, le-leb}
use Rattle.std.proofs.lemmas.Bool.Decides.{nat_tests}
use Rattle.std.proofs.lemmas.List.{length-map}
use Rattle.tt_rows.specs.declared.row.Row.{Row}
use Rattle.tt_rows.specs.declared.row.NumberedRow.{NumberedRow}
use Rattle.tt_parts.specs.declared.located.At.{At}
use Rattle.tt_rules.specs.Document.{rows_at}
use Rattle.tt_rules.specs.Lines.{line_unless}
use Rattle.tt_rules.specs.Shapes.{Shape, Present, AtMost, Every, Differ, Clear, parts, lines, failing, is_new, repeating, is_clear, breaking, breaking_one, differ_from, filter_at, keeps, keeps_each}

-- Where a test adds no line, it passes.
pub none-here : (test : Bool) (line : ℕ) (lines : List ℕ) → line_unless test line lines ≡ []
    → (test ≡ true) × (lines ≡ [])
none-here true line lines is = (refl, is)
none-here false line lines is = cc

-- Where two lists together have no line, neither has one.
pub none_of_both : (lines others : List ℕ) → lines ++ others ≡ [] → (lines ≡ []) × (others ≡ [])
none_of_both [] others is = (refl, is)
none_of_both (line ∷ lines) others is = cc

module _ {A : Type 0} where
  failing-kept : (test : A → Bool) (xs : List (At A)) → failing test xs ≡ [] → list_all test (parts xs) ≡ true
  failing-kept test [] is = refl
  failing-kept test (x ∷ xs) is = let both = none-here (test x.part) x.line (failing test xs) is in
      and_from (test x.part) _ both.0 (failing-kept test xs both.1)

  repeating-kept : (same : A → A → Bool) (above : List A) (xs : List (At A)) → repeating same above xs ≡ []
      → differ_from same above (parts xs) ≡ true
  repeating-kept same above [] is = refl
  repeating-kept same above (x ∷ xs) is =
      let both = none-here (is_new same above x.part) x.line (repeating same (x.part ∷ above) xs) is in
      and_from (is_new same above x.part) _ both.0 (repeating-kept same (x.part ∷ above) xs both.1)

  -- Where no line breaks a rule, the parts keep it.
  pub kept_one : (first : ℕ) (rule : Shape A) (xs : List (At A)) → breaking first rule xs ≡ []
      → keeps rule (parts xs) ≡ true
  kept_one first Present [] is = cc
  kept_one first Present (x ∷ xs) is = le-leb 1 (length (parts (x ∷ xs))) (omega arith)
  kept_one first (AtMost n) xs is =
      le-leb (length (parts xs)) n (omega (
        arith,
        length-drop n (lines xs),
        length-map xs (λ (x : At A). x.line),
        length-map xs (λ (x : At A). x.part),
        ap length is,
      ))
  kept_one first (Every test) xs is = failing-kept test xs is
  kept_one first (Differ same) xs is = repeating-kept same [] xs is
  kept_one first (Clear clash) xs is = failing-kept (is_clear clash (parts xs)) xs is

  -- Where no line breaks some rules, the parts keep them.
  pub kept : (first : ℕ) (rules : List (Shape A)) (xs : List (At A)) → breaking_one first rules xs ≡ []
      → keeps_each rules (parts xs) ≡ true
  kept first [] xs is = refl
  kept first (rule ∷ rules) xs is = let both = none_of_both (breaking first rule xs) _ is in
      and_from (keeps rule (parts xs)) _ (kept_one first rule xs both.0) (kept first rules xs both.1)

-- The parts of the entries that pass a test are the parts that pass it.
pub filter_at-parts : {A : Type 0} (test : A → Bool) (xs : List (At A))
    → parts (filter_at test xs) ≡ filter test (parts xs)
filter_at-parts test [] = refl
filter_at-parts test (x ∷ xs) = grind (arith, nat_tests, filter_at-parts test xs)

-- ---- each part, and each row

-- Where no part breaks a test, each passes it.
pub each_kept : {A : Type 0} (test : A → Bool) (xs : List (At A)) → failing test xs ≡ []
    → Each (λ (x : At A). test x.part ≡ true) xs
each_kept test [] is = tt
each_kept test (x ∷ xs) is =
    let both = none-here (test x.part) x.line (failing test xs) is in (both.0, each_kept test xs both.1)

-- a fact for each row
abbrev pub EachRow : (Row → Type 0) → List NumberedRow → Type 0
EachRow P rows = Each (λ (row : NumberedRow). P row.row) rows

-- Where no row breaks a test, each passes it.
pub each_row : (test : Row → Bool) (rows : List NumberedRow) → failing test (rows_at rows) ≡ []
    → EachRow (λ row. test row ≡ true) rows
each_row test [] is = tt
each_row test (row ∷ rows) is =
    let both = none-here (test row.row) row.line (failing test (rows_at rows)) is in (both.0, each_row test rows both.1)
