-- A document as it is read line by line.
use Rattle.std.proofs.Common.{◌≡◌, ℕ, suc, ◌+◌, ◌≤◌, Bool, true, false, cond, List, [], ◌∷◌, ◌++◌, length, drop, Option, Some, None, refl, ap, ◌∙◌, subst, arith}
use Rattle.std.specs.Prelude.{nat_le}
use Rattle.std.specs.List.{list_all}
use Rattle.std.proofs.lemmas.Bool.{and_from, le-leb}
use Rattle.std.proofs.lemmas.List.{append-nil, drop_all}
use Rattle.tt_doc.specs.Lines.{Line, lines_of}
use Rattle.tt_doc.specs.Words.{is_comment, words_of}
use Rattle.tt_rows.specs.declared.row.Row.{Row}
use Rattle.tt_rows.specs.declared.row.NumberedRow.{NumberedRow}
use Rattle.tt_rows.specs.Sound.{is_sound_row, ascend_from, AreSound}
use Rattle.tt_read.specs.Document.{row_of_words, Fault, first_fault, row_then, rows_of, Rows, document_by, document_of}
use Rattle.tt_read.specs.Reading.{row_of}
use Rattle.tt_read.specs.Spells.{Spells}
use Rattle.tt_read.proofs.Found.{row_of-spells}

-- n lines of a document were read; they have these rows and end at this place
pub record Passed (bytes : List ℕ) (lines at : ℕ) (rows : List NumberedRow) : Type 0 where
  pub read : rows_of 1 (lines_of bytes) ≡ rows ++ rows_of (lines + 1) (lines_of (drop at bytes))
  pub good : first_fault 1 (lines_of bytes) ≡ first_fault (lines + 1) (lines_of (drop at bytes))
  pub few : lines ≤ at
  pub inside : at ≤ length bytes

-- what a document gives is sound

rows_by : (fault : Option Fault) (rows found : List NumberedRow) → document_by fault rows ≡ Rows found → rows ≡ found
rows_by None rows found is = cc
rows_by (Some fault) rows found is = cc

spells_row : (comment : Bool) (words : List (List ℕ)) (row : Row) → cond comment None (row_of words) ≡ Some row
    → Spells words row
spells_row true words row is = cc
spells_row false words row is = row_of-spells words row is

-- the row of a line is spelled by its words
pub row_of_words-spells : (words : List (List ℕ)) (row : Row) → row_of_words words ≡ Some row → Spells words row
row_of_words-spells words row is = spells_row (is_comment words) words row is

sound_then : (line : ℕ) (words : List (List ℕ)) (o : Option Row) (rows : List NumberedRow) → row_of_words words ≡ o
    → list_all (λ (row : NumberedRow). is_sound_row row.row) rows ≡ true
    → list_all (λ (row : NumberedRow). is_sound_row row.row) (row_then line o rows) ≡ true
sound_then line words None rows is sound = sound
sound_then line words (Some row) rows is sound =
    and_from (is_sound_row row) (list_all (λ (row : NumberedRow). is_sound_row row.row) rows)
    (row_of_words-spells words row is).sound sound

sound_rows : (line : ℕ) (lines : List Line)
    → list_all (λ (row : NumberedRow). is_sound_row row.row) (rows_of line lines) ≡ true
sound_rows line [] = refl
sound_rows line (first ∷ rest) =
    sound_then line (words_of first.text) (row_of_words (words_of first.text)) (rows_of (line + 1) rest) refl
    (sound_rows (line + 1) rest)

-- rows that ascend from after a line still ascend with a row of that line before them, or with none
ascend_then : (least line : ℕ) (o : Option Row) (rows : List NumberedRow) → least ≤ line
    → ((low : ℕ) → low ≤ line + 1 → ascend_from low rows ≡ true) → ascend_from least (row_then line o rows) ≡ true
ascend_then least line None rows low later = later least (omega arith)
ascend_then least line (Some row) rows low later =
    and_from (nat_le least line) (ascend_from (suc line) rows) (le-leb least line low) (later (suc line) (omega arith))

ascending : (line : ℕ) (lines : List Line) (least : ℕ) → least ≤ line → ascend_from least (rows_of line lines) ≡ true
ascending line [] least low = refl
ascending line (first ∷ rest) least low =
    ascend_then least line (row_of_words (words_of first.text)) (rows_of (line + 1) rest) low
    (ascending (line + 1) rest)

-- the rows of a document are sound
pub document_of-sound : (bytes : List ℕ) (rows : List NumberedRow) → document_of bytes ≡ Rows rows → AreSound rows
document_of-sound bytes rows is =
    let same = rows_by (first_fault 1 (lines_of bytes)) (rows_of 1 (lines_of bytes)) rows is in
    subst AreSound same (record
    { ascending = ascending 1 (lines_of bytes) 1 (omega arith); sound = sound_rows 1 (lines_of bytes) })

-- where no line is left, the rows that were read are the document's, and sound
pub passed_all : {bytes : List ℕ} {lines at : ℕ} {rows : List NumberedRow} → Passed bytes lines at rows
    → at ≡ length bytes → document_of bytes ≡ Rows rows
passed_all {bytes} {lines} {at} {rows} passed end =
    let none : drop at bytes ≡ [] = drop_all at bytes (omega arith) in
    ap (λ fault. document_by fault (rows_of 1 (lines_of bytes)))
    (passed.good ∙ ap (λ text. first_fault (lines + 1) (lines_of text)) none)
    ∙ ap Rows (passed.read ∙ ap (λ text. rows ++ rows_of (lines + 1) (lines_of text)) none ∙ append-nil rows)

pub passed_sound : {bytes : List ℕ} {lines at : ℕ} {rows : List NumberedRow} → Passed bytes lines at rows
    → at ≡ length bytes → AreSound rows
passed_sound {bytes} {lines} {at} {rows} passed end = document_of-sound bytes rows (passed_all passed end)
