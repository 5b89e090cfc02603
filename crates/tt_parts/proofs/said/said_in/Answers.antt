use Rattle.std.proofs.Common.{take, ap, sym, ◌∙◌}
use Rattle.std.proofs.lemmas.List.{take_more}
use Rattle.tt_parts.specs.Parts.{said_then}
use Rattle.tt_parts.proofs.EachAt.{said_in-push}
use Rattle.tt_parts.proofs.said.said_in.Goals as goal

pub loop-row-preserved : goal.loop-row-preserved
loop-row-preserved c =
    rw (take_more c.args.rows.now c.loop-row.row-index c.row-item.result c.loop-row-test.true, ← c.row-item.is)
    (c.in_ok-put_said.ensures ∙ ap (said_then c.args.names.now c.row-item.result) c.loop-row.invariant
    ∙ sym (said_in-push c.args.names.now (take c.loop-row.row-index c.args.rows.now) c.row-item.result))
