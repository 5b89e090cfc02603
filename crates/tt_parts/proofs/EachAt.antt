-- What each row gives, with one more row.
use Rattle.std.proofs.Common.{◌≡◌, ℕ, List, [], ◌∷◌, ◌++◌, Option, Some, None, refl, ap, ◌∙◌}
use Rattle.std.specs.Prelude.{IfSome}
use Rattle.std.specs.List.{AllByRecursion as Each}
use Rattle.tt_base.specs.declared.names.NameEntry.{NameEntry}
use Rattle.tt_rows.specs.declared.row.Row.{Row}
use Rattle.tt_rows.specs.declared.row.NumberedRow.{NumberedRow}
use Rattle.tt_parts.specs.declared.located.At.{At}
use Rattle.tt_parts.specs.Located.{at_then, each_at}
use Rattle.tt_parts.specs.Names.{declared_in}
use Rattle.tt_parts.specs.Entries.{round_in, adjust_in, var_in, demand_in, entry_in, start_in, rounds_in, value_in, arrival_in, time_in}
use Rattle.tt_parts.specs.Parts.{declarations_of, declared_then, said_in, said_then}

module _ {A : Type 0} (part_of : Row → Option A) where
  then-append : (line : ℕ) (part : Option A) (xs ys : List (At A))
      → at_then line part (xs ++ ys) ≡ at_then line part xs ++ ys
  then-append line None xs ys = refl
  then-append line (Some part) xs ys = refl

  each_at-push : (rows : List NumberedRow) (row : NumberedRow)
      → each_at part_of (rows ++ row ∷ []) ≡ each_at part_of rows ++ at_then row.line (part_of row.row) []
  each_at-push [] row = refl
  each_at-push (first ∷ rows) row =
      ap (at_then first.line (part_of first.row)) (each_at-push rows row)
      ∙ then-append first.line (part_of first.row) (each_at part_of rows) (at_then row.line (part_of row.row) [])

-- One more row declares what it declares besides.
pub declarations_of-push : (first : ℕ) (rows : List NumberedRow) (row : NumberedRow)
    → record (declarations_of (rows ++ row ∷ [])) { first = first }
    ≡ declared_then row (record (declarations_of rows) { first = first })
declarations_of-push first rows row =
    cc (each_at-push round_in rows row, each_at-push adjust_in rows row, each_at-push declared_in rows row)

-- One more row says what it says besides.
pub said_in-push : (names : List NameEntry) (rows : List NumberedRow) (row : NumberedRow)
    → said_in names (rows ++ row ∷ []) ≡ said_then names row (said_in names rows)
said_in-push names rows row = cc (
  each_at-push var_in rows row,
  each_at-push demand_in rows row,
  each_at-push (entry_in names) rows row,
  each_at-push (start_in names) rows row,
  each_at-push rounds_in rows row,
  each_at-push (value_in names) rows row,
  each_at-push (arrival_in names) rows row,
  each_at-push time_in rows row,
)

-- what holds of a part, if there is one, and of others, holds of each
pub each_then : {A : Type 0} (P : A → Type 0) (line : ℕ) (part : Option A) (others : List (At A)) → IfSome part P
    → Each (λ (x : At A). P x.part) others
    → Each (λ (x : At A). P x.part) (at_then line part others)
each_then P line None others here there = there
each_then P line (Some part) others here there = (here, there)
