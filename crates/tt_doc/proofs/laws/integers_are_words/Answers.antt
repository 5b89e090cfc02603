use Rattle.tt_doc.proofs.NumberLaws.{integer_is_word, integer_is_plain}
use Rattle.tt_doc.proofs.laws.integers_are_words.Goals as goal

pub returns : goal.returns
returns c = λ text z is. (integer_is_word text z is, integer_is_plain text z is)
