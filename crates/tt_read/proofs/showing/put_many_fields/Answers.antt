use Rattle.std.proofs.Common.{subst, sym, drop}
use Rattle.std.specs.List.{flat_map}
use Rattle.tt_rows.specs.declared.row.Row.{Row}
use Rattle.tt_rows.specs.Spelling.{items_of}
use Rattle.tt_read.specs.Parts.{spaced_item}
use Rattle.tt_read.specs.Puts.{Puts}
use Rattle.tt_read.proofs.showing.put_many_fields.Goals as goal

pub returns-in-AtNonstringent-clause-text : goal.returns-in-AtNonstringent-clause-text
returns-in-AtNonstringent-clause-text g c =
    let P : Row → Type 0 = λ row.
    Puts c.put_activation-in-AtNonstringent.result (g.O.Sink.written c.args.sink.now)
    (g.O.Sink.written c.put_activation-in-AtNonstringent.new.sink)
    c.args.buffer.now c.put_activation-in-AtNonstringent.new.buffer (flat_map spaced_item (drop 1 (items_of row))) in
    subst P (sym c.in-AtNonstringent.is) c.put_activation-in-AtNonstringent.ensures.text
