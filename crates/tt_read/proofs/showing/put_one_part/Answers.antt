use Rattle.std.proofs.Common.{List, ℕ, subst, sym, append-nil}
use Rattle.tt_read.specs.Parts.{spaced_part}
use Rattle.tt_read.specs.Puts.{Puts}
use Rattle.tt_read.proofs.showing.put_one_part.Goals as goal

pub returns-clause-text : goal.returns-clause-text
returns-clause-text g c =
    let P : List ℕ → Type 0 = Puts c.put_part.result (g.O.Sink.written c.args.sink.now)
    (g.O.Sink.written c.put_part.new.sink) c.args.buffer.now c.put_part.new.buffer in
    subst P (sym (append-nil (spaced_part c.args.part.now))) c.put_part.ensures.text
