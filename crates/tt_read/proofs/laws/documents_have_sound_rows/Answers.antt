use Rattle.tt_read.proofs.ReadLaws.{document_of-sound}
use Rattle.tt_read.proofs.laws.documents_have_sound_rows.Goals as goal

pub returns : goal.returns
returns c = document_of-sound
