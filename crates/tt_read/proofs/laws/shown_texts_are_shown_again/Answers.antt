use Rattle.tt_read.proofs.CanonicalLaws.{canonical_text-again}
use Rattle.tt_read.proofs.laws.shown_texts_are_shown_again.Goals as goal

pub returns : goal.returns
returns c = canonical_text-again
