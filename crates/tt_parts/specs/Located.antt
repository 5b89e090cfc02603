-- Parts of a document, each with the line that says it.
use Rattle.std.specs.Prelude.{ℕ, List, [], ◌∷◌, Option, Some, None, map}
use Rattle.tt_rows.specs.declared.row.Row.{Row}
use Rattle.tt_rows.specs.declared.row.NumberedRow.{NumberedRow}
use Rattle.tt_parts.specs.declared.located.At.{At}

-- parts without their lines
abbrev pub parts : {A : Type 0} → List (At A) → List A
parts xs = map (λ x. x.part) xs

-- the lines alone
abbrev pub lines : {A : Type 0} → List (At A) → List ℕ
lines xs = map (λ x. x.line) xs

-- a part, if there is one, with its line, before others
abbrev pub at_then : {A : Type 0} → ℕ → Option A → List (At A) → List (At A)
at_then line None rest = rest
at_then line (Some part) rest = record { line = line; part = part } ∷ rest

-- what each row gives, in order
abbrev pub each_at : {A : Type 0} → (Row → Option A) → List NumberedRow → List (At A)
each_at part_of [] = []
each_at part_of (row ∷ rows) = at_then row.line (part_of row.row) (each_at part_of rows)
