-- Which row the words of a line are.
use Rattle.std.specs.Prelude.{◌≡◌, ℕ, true, List}
use Rattle.tt_rows.specs.declared.row.Row.{Row}
use Rattle.tt_rows.specs.Spelling.{spelling_of}
use Rattle.tt_rows.specs.Sound.{is_sound_row}

-- these words are the row: they are its spelling, and a line can be the row
pub record Spells (words : List (List ℕ)) (row : Row) : Type 0 where
  pub spelled : spelling_of row ≡ words
  pub sound : is_sound_row row ≡ true
