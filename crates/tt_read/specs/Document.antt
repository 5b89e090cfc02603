-- The rows of a document, or the first fault of its form.
use Rattle.std.specs.Prelude.{ℕ, ◌+◌, List, [], ◌∷◌, ◌++◌, flat_map, Option, Some, None, if◌then◌else◌, is_some}
use Rattle.tt_doc.specs.declared.lines.LineKind.{LineKind}
use Rattle.tt_doc.specs.Lines.{Line, lines_of, fault_of}
use Rattle.tt_doc.specs.Words.{is_comment, words_of}
use Rattle.tt_rows.specs.declared.row.Row.{Row}
use Rattle.tt_rows.specs.declared.row.NumberedRow.{NumberedRow}
use Rattle.tt_rows.specs.Spelling.{line_of_row}
use Rattle.tt_read.specs.declared.form.FormKind.{FormKind}
use Rattle.tt_read.specs.declared.form.FormKind.TheVariants as kind
use Rattle.tt_read.specs.FormKind.{kind_of}
use Rattle.tt_read.specs.Reading.{row_of}

-- a line's words as a row, if they are one
abbrev pub row_of_words : List (List ℕ) → Option Row
row_of_words words = if is_comment words then None else row_of words

-- a line whose bytes have no fault is faulty where its words are neither a row nor a comment
abbrev pub word_fault : List (List ℕ) → Option FormKind
word_fault words = if is_comment words then None else (if is_some (row_of words) then None else Some kind.Row)

abbrev pub fault_by : Option LineKind → List (List ℕ) → Option FormKind
fault_by (Some kind) words = Some (kind_of kind)
fault_by None words = word_fault words

-- the least kind of fault that a line has
abbrev pub fault_of_line : Line → Option FormKind
fault_of_line line = fault_by (fault_of line) (words_of line.text)

-- a fault at its line
pub record Fault : Type 0 where
  pub line : ℕ
  pub kind : FormKind

abbrev pub fault_or : ℕ → Option FormKind → Option Fault → Option Fault
fault_or n (Some k) later = Some (record { line = n; kind = k })
fault_or n None later = later

-- the first fault of lines that are numbered from this number on
abbrev pub first_fault : ℕ → List Line → Option Fault
first_fault n [] = None
first_fault n (line ∷ lines) = fault_or n (fault_of_line line) (first_fault (n + 1) lines)

abbrev pub row_then : ℕ → Option Row → List NumberedRow → List NumberedRow
row_then n None rows = rows
row_then n (Some row) rows = record { line = n; row = row } ∷ rows

-- the rows of lines that are numbered from this number on
abbrev pub rows_of : ℕ → List Line → List NumberedRow
rows_of n [] = []
rows_of n (line ∷ lines) = row_then n (row_of_words (words_of line.text)) (rows_of (n + 1) lines)

-- what a document is: rows, or a fault
pub data Document : Type 0 where
  Rows : List NumberedRow → Document
  Faulty : Fault → Document

abbrev pub document_by : Option Fault → List NumberedRow → Document
document_by None rows = Rows rows
document_by (Some fault) rows = Faulty fault

-- the document of a text: its first fault, or its rows where no line has a fault
abbrev pub document_of : List ℕ → Document
document_of bytes = document_by (first_fault 1 (lines_of bytes)) (rows_of 1 (lines_of bytes))

-- the canonical text of some rows: a line for each
abbrev pub canonical_text : List NumberedRow → List ℕ
canonical_text rows = flat_map (λ (row : NumberedRow). line_of_row row.row ++ 10 ∷ []) rows

-- the same rows, in consecutive lines from this number on
abbrev pub numbered_from : ℕ → List NumberedRow → List NumberedRow
numbered_from n [] = []
numbered_from n (row ∷ rows) = record { line = n; row = row.row } ∷ numbered_from (n + 1) rows
