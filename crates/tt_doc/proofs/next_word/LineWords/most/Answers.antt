use Rattle.std.proofs.Common.{arith, ℕ, List, length, ap}
use Rattle.tt_doc.proofs.WordCuts.{words_by_spaces}
use Rattle.tt_doc.proofs.next_word.LineWords.most.Goals as goal

pub returns : goal.returns
returns c =
    omega (
      arith,
      words_by_spaces c.self.inside.rest.now,
      ap (length {A = List ℕ}) c.self.view_is,
      c.count_spaces.ensures,
    )
