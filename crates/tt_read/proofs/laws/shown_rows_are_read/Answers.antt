use Rattle.tt_read.proofs.CanonicalLaws.{document_of-canonical_text}
use Rattle.tt_read.proofs.laws.shown_rows_are_read.Goals as goal

pub returns : goal.returns
returns c = document_of-canonical_text
