-- What reading a document gives, for all its lines at once: which lines have a fault, and which rows its lines spell.
use Rattle.std.specs.Prelude.{◌≡◌, ◌↔◌, ℕ, ◌+◌, ◌<◌, true, false, List, Some, length, slice_get, Contains}
use Rattle.std.specs.List.{list_all}
use Rattle.tt_doc.specs.Lines.{Line, is_plain_byte}
use Rattle.tt_doc.specs.Words.{is_comment, words_of}
use Rattle.tt_rows.specs.declared.row.Row.{Row}
use Rattle.tt_rows.specs.declared.row.NumberedRow.{NumberedRow}
use Rattle.tt_rows.specs.Sound.{ascend_from}
use Rattle.tt_read.specs.declared.form.FormKind.{FormKind}
use Rattle.tt_read.specs.declared.form.FormKind.TheVariants as kind
use Rattle.tt_read.specs.Document.{Fault}
use Rattle.tt_read.specs.Spells.{Spells}

-- the faults by their numbers
abbrev pub number_of_kind : FormKind → ℕ
number_of_kind kind.Byte = 1
number_of_kind kind.Long = 2
number_of_kind kind.Cut = 3
number_of_kind kind.Row = 4

-- a line has this fault: a byte outside 0x20 to 0x7E; more than 200 bytes; no LF; or it has words, the first does not
-- begin with `#`, and they spell no row
abbrev pub HasFault : Line → FormKind → Type 0
HasFault line kind.Byte = list_all is_plain_byte line.text ≡ false
HasFault line kind.Long = 200 < length line.text
HasFault line kind.Cut = line.ended ≡ false
HasFault line kind.Row = (is_comment (words_of line.text) ≡ false) × ((row : Row) → Spells (words_of line.text) row → ⊥)

-- no fault
abbrev pub IsGood : Line → Type 0
IsGood line = (fault : FormKind) → HasFault line fault → ⊥

-- a line has this fault, and none with a smaller number
pub record HasLeastFault (line : Line) (fault : FormKind) : Type 0 where
  pub has : HasFault line fault
  pub least : (other : FormKind) → number_of_kind other < number_of_kind fault → HasFault line other → ⊥

-- a row is spelled by the line that has its number; the first line has the number `first`
pub record IsSpelledIn (first : ℕ) (lines : List Line) (row : NumberedRow) : Type 0 where
  pub place : ℕ
  pub line : Line
  pub numbered : row.line ≡ first + place
  pub there : slice_get lines place ≡ Some line
  pub spells : Spells (words_of line.text) row.row

-- no line has a fault, and the rows are those that the lines spell, in the order of the lines
pub record AreReadAs (lines : List Line) (rows : List NumberedRow) : Type 0 where
  pub good : (place : ℕ) (line : Line) → slice_get lines place ≡ Some line → IsGood line
  pub spelled : (row : NumberedRow) → Contains rows row ↔ IsSpelledIn 1 lines row
  pub in_order : ascend_from 1 rows ≡ true

-- the line with the fault's number has it as its least fault, and no line before it has a fault
pub record IsFirstFault (first : ℕ) (lines : List Line) (fault : Fault) : Type 0 where
  pub place : ℕ
  pub line : Line
  pub numbered : fault.line ≡ first + place
  pub there : slice_get lines place ≡ Some line
  pub least : HasLeastFault line fault.kind
  pub before : (earlier : ℕ) (other : Line) → earlier < place → slice_get lines earlier ≡ Some other → IsGood other
