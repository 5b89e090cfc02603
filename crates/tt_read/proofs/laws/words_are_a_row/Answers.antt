use Rattle.tt_read.proofs.RowLaws.{row_of-iff_spells}
use Rattle.tt_read.proofs.laws.words_are_a_row.Goals as goal

pub returns : goal.returns
returns c = row_of-iff_spells
