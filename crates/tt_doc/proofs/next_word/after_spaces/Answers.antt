use Rattle.std.proofs.Common.{ap, ◌∙◌, drop}
use Rattle.std.proofs.lemmas.List.{take_rest}
use Rattle.tt_doc.specs.Words.{words_of, begins_with_space}
use Rattle.tt_doc.proofs.WordCuts.{words_of-spaces, spaces-passed}
use Rattle.tt_doc.proofs.next_word.after_spaces.Goals as goal

pub returns-clause-words : goal.returns-clause-words
returns-clause-words c =
    ap words_of (take_rest c.args.text.now c.spaces.result)
    ∙ ap (λ n. words_of (drop n c.args.text.now)) c.spaces.ensures.value
    ∙ words_of-spaces c.args.text.now

pub returns-clause-next : goal.returns-clause-next
returns-clause-next c =
    ap begins_with_space (take_rest c.args.text.now c.spaces.result)
    ∙ ap (λ n. begins_with_space (drop n c.args.text.now)) c.spaces.ensures.value
    ∙ spaces-passed c.args.text.now
