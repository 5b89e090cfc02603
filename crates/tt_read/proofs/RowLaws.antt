-- What is read is what is spelled.
use Rattle.std.proofs.Common.{◌≡◌, ◌↔◌, ℕ, List, Some}
use Rattle.tt_rows.specs.declared.row.Row.{Row}
use Rattle.tt_read.specs.Reading.{row_of}
use Rattle.tt_read.specs.Spells.{Spells}
use Rattle.tt_read.proofs.Found.{row_of-spells}
use Rattle.tt_read.proofs.Complete.{row_of-spelled}

-- words are read as the row that they spell, and as no other
pub row_of-iff_spells : (words : List (List ℕ)) (row : Row) → (row_of words ≡ Some row) ↔ Spells words row
row_of-iff_spells words row = (row_of-spells words row, row_of-spelled words row)
