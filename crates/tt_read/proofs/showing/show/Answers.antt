use Rattle.std.proofs.Common.{ap, sym, ◌∙◌, ◌++◌}
use Rattle.tt_read.specs.Document.{canonical_text}
use Rattle.tt_read.proofs.Pieces.{sent_part}
use Rattle.tt_read.proofs.showing.show.Goals as goal

pub returns-clause-part : goal.returns-clause-part
returns-clause-part g c =
    sent_part c.in_ok-put_rows.ensures.text c.send.result (g.O.Sink.written c.send.new.sink)
    (canonical_text c.args.rows.now)
    (ap canonical_text (sym c.as_slice.ensures)
    ∙ ap (λ waited. waited ++ canonical_text c.as_slice.result.now) (sym c.new-buffer.ensures))
    c.send.ensures.part
