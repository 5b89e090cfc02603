use Rattle.tt_read.proofs.WhatIsReadLaws.{document_of-rows}
use Rattle.tt_read.proofs.laws.rows_are_what_lines_spell.Goals as goal

pub returns : goal.returns
returns c = document_of-rows
