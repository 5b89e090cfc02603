use Rattle.osektime_core.specs.BulkText.{arrival_row}
use Rattle.osektime_core.proofs.BulkTexts.{row_more}
use Rattle.osektime_core.proofs.TableTexts.{texts_none}
use Rattle.osektime_core.proofs.bulk.put_arrivals.Goals as goal

pub loop-number-init : goal.loop-number-init
loop-number-init c = texts_none (arrival_row c.args.round) c.args.text.now.items

pub loop-number-preserved : goal.loop-number-preserved
loop-number-preserved c =
    row_more (arrival_row c.args.round) c.loop-number.number c.args.text.now.items _ _ c.loop-number.invariant
    c.in_ok-put_arrival.ensures
