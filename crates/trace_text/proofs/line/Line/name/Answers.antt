use Rattle.std.proofs.Common.{◌++◌, ◌∷◌, [], ap, sym, ◌∙◌}
use Rattle.std.specs.Prelude.{unwrap_or}
use Rattle.trace_text.proofs.NameTexts.{found}
use Rattle.trace_text.proofs.line.Line.name.Goals as goal

pub returns-in-Some-clause-text : goal.returns-in-Some-clause-text
returns-in-Some-clause-text c =
    c.word.ensures
    ∙ ap (λ word. c.args.self.now ++ 32 ∷ word)
    (c.as_bytes.ensures.text ∙ ap (λ o. unwrap_or o []) (sym c.in-Some.is)
    ∙ found c.args.names.now c.args.which _ c.get.ensures)

pub returns-in-None-clause-text : goal.returns-in-None-clause-text
returns-in-None-clause-text c =
    c.word-in-None.ensures
    ∙ ap (λ word. c.args.self.now ++ 32 ∷ word)
    (ap (λ o. unwrap_or o []) (sym c.in-None.is) ∙ found c.args.names.now c.args.which _ c.get.ensures)
