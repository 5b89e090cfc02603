-- The rows of a document and their parts, as the rules read them.
use Rattle.std.specs.Prelude.{ℕ, ◌-◌, List, [], ◌∷◌, map}
use Rattle.tt_base.specs.declared.names.NameEntry.{NameEntry}
use Rattle.tt_rows.specs.declared.row.Row.{Row}
use Rattle.tt_rows.specs.declared.row.NumberedRow.{NumberedRow}
use Rattle.tt_parts.specs.declared.located.At.{At}
use Rattle.tt_parts.specs.declared.declared_parts.Declarations.{Declarations}
use Rattle.tt_parts.specs.declared.said.Said.{Said}
use Rattle.tt_parts.specs.declared.bodies.BodyPart.{BodyPart}
use Rattle.tt_parts.specs.Located.{parts}
use Rattle.tt_parts.specs.Names.{names_in}
use Rattle.tt_parts.specs.Bodies.{bodies_of}
use Rattle.tt_parts.specs.Parts.{declarations_of, said_in}

pub record Document : Type 0 where
  pub rows : List NumberedRow
  pub declared : Declarations
  pub said : Said
  pub bodies : List (At BodyPart)

abbrev pub document_of : List NumberedRow → Document
document_of rows = record {
  rows = rows;
  declared = declarations_of rows;
  said = said_in (names_in rows) rows;
  bodies = bodies_of (names_in rows) rows;
}

abbrev pub names_of : Document → List NameEntry
names_of d = parts d.declared.names

-- the rows, as parts
abbrev pub rows_at : List NumberedRow → List (At Row)
rows_at rows = map (λ (row : NumberedRow). record { line = row.line; part = row.row }) rows

-- the first of some numbers, 0 where there is none
abbrev pub first_or_zero : List ℕ → ℕ
first_or_zero [] = 0
first_or_zero (n ∷ ns) = n

-- the length of a round, and the greatest correction
abbrev pub round_of : Declarations → ℕ
round_of d = first_or_zero (parts d.rounds)

abbrev pub adjust_of : Declarations → ℕ
adjust_of d = first_or_zero (parts d.adjusts)

-- a table may use the offsets below this limit: the round's length minus the greatest correction
abbrev pub limit_of : Declarations → ℕ
limit_of d = round_of d - adjust_of d
