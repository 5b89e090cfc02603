use Rattle.tt_doc.proofs.NumberLaws.{number_of-spelled}
use Rattle.tt_doc.proofs.laws.numbers_are_spelled.Goals as goal

pub returns : goal.returns
returns c = number_of-spelled
