use Rattle.std.proofs.Common.{◌≤◌, ◌*◌, ◌+◌, length, subst, sym, ℕ, List}
use Rattle.tt_doc.proofs.WordCuts.{few_words}
use Rattle.tt_doc.proofs.next_word.LineWords.new.Goals as goal

pub returns-clause-few : goal.returns-clause-few
returns-clause-few c =
    subst (λ (words : List (List ℕ)). 2 * length words ≤ length c.args.line.now + 1)
    (sym c.after_spaces.ensures.words) (few_words c.args.line.now)
