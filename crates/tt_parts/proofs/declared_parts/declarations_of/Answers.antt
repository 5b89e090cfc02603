use Rattle.std.proofs.Common.{take, ap, sym, ◌∙◌}
use Rattle.std.proofs.lemmas.List.{take_more}
use Rattle.tt_parts.specs.Parts.{declared_then, first_line}
use Rattle.tt_parts.proofs.EachAt.{declarations_of-push}
use Rattle.tt_parts.proofs.declared_parts.declarations_of.Goals as goal

pub loop-row-preserved : goal.loop-row-preserved
loop-row-preserved c =
    rw (take_more c.args.rows.now c.loop-row.row-index c.row-item.result c.loop-row-test.true, ← c.row-item.is)
    (c.in_ok-put_declared.ensures ∙ ap (declared_then c.row-item.result) c.loop-row.invariant
    ∙ sym (declarations_of-push (first_line c.args.rows.now) (take c.loop-row.row-index c.args.rows.now)
    c.row-item.result))
