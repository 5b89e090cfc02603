use Rattle.std.proofs.Common.{◌∷◌, ap, sym, ◌∙◌, take, drop}
use Rattle.tt_doc.specs.Words.{words_of}
use Rattle.tt_doc.proofs.WordCuts.{words_of-cut}
use Rattle.tt_doc.proofs.next_word.LineWords.word.Goals as goal

pub returns : goal.returns
returns c =
    let text = c.self.inside.rest.now in
    sym c.self.view_is
    ∙ words_of-cut text (sym c.if-is_empty.ensures) c.self.invariant
    ∙ ap (λ n. take n text ∷ words_of (drop n text)) (sym c.word_len-len.ensures.value)
    ∙ ap (λ word. word ∷ words_of (drop c.word_len-len.result text)) (sym c.split_at.ensures.front)
    ∙ ap (λ rest. c.split_at.result.0.now ∷ words_of rest) (sym c.split_at.ensures.back)
    ∙ ap (λ words. c.split_at.result.0.now ∷ words) (sym c.after_spaces-self-inside.ensures.words)
