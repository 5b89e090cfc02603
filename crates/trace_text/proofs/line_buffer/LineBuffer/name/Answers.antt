-- The text of a name is a prefix of its sixteen bytes.
use Rattle.std.proofs.Common.{◌++◌, ◌∷◌, [], ap, sym, ◌∙◌, append_assoc, take}
use Rattle.std.specs.Prelude.{unwrap_or}
use Rattle.trace_text.proofs.NameTexts.{found}
use Rattle.trace_text.proofs.line_buffer.LineBuffer.name.Goals as goal

pub returns-in-Some-clause-text : goal.returns-in-Some-clause-text
returns-in-Some-clause-text c =
    let old = c.args.self.now in
    let padded = c.padded.result.now in
    c.front_of_name.ensures
    ∙ ap (λ t. t ++ take c.len.result padded) c.text.ensures
    ∙ append_assoc old (32 ∷ []) (take c.len.result padded)
    ∙ ap (λ n. old ++ 32 ∷ take n padded) c.len.ensures.value
    ∙ ap (λ word. old ++ 32 ∷ word)
    (c.padded.ensures.text ∙ ap (λ o. unwrap_or o []) (sym c.in-Some.is)
    ∙ found c.args.names.now c.args.which _ c.get.ensures)

pub returns-in-None-clause-text : goal.returns-in-None-clause-text
returns-in-None-clause-text c =
    c.text.ensures
    ∙ ap (λ word. c.args.self.now ++ 32 ∷ word)
    (ap (λ o. unwrap_or o []) (sym c.in-None.is) ∙ found c.args.names.now c.args.which _ c.get.ensures)
