use Rattle.tt_doc.proofs.NumberLaws.{integer_of-spelled}
use Rattle.tt_doc.proofs.laws.integers_are_spelled.Goals as goal

pub returns : goal.returns
returns c = integer_of-spelled
