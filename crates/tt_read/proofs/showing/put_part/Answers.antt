use Rattle.std.proofs.Common.{List, ℕ, subst, sym, ap, ◌∙◌}
use Rattle.tt_read.specs.Parts.{spaced_part}
use Rattle.tt_read.specs.Puts.{Puts}
use Rattle.tt_read.proofs.Pieces.{terms_are_item}
use Rattle.tt_read.proofs.showing.put_part.Goals as goal

pub returns-in-Expression-clause-text : goal.returns-in-Expression-clause-text
returns-in-Expression-clause-text g c =
    let P : List ℕ → Type 0 = Puts c.put_terms.result (g.O.Sink.written c.args.sink.now)
    (g.O.Sink.written c.put_terms.new.sink) c.args.buffer.now c.put_terms.new.buffer in
    subst P (terms_are_item c.in-Expression.terms.now ∙ ap spaced_part (sym c.in-Expression.is))
    c.put_terms.ensures.text
