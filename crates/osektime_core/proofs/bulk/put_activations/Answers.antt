use Rattle.osektime_core.specs.BulkText.{activation_row}
use Rattle.osektime_core.proofs.BulkTexts.{row_more}
use Rattle.osektime_core.proofs.TableTexts.{texts_none}
use Rattle.osektime_core.proofs.bulk.put_activations.Goals as goal

pub loop-task-init : goal.loop-task-init
loop-task-init c = texts_none (activation_row c.args.round) c.args.text.now.items

pub loop-task-preserved : goal.loop-task-preserved
loop-task-preserved c =
    row_more (activation_row c.args.round) c.loop-task.task c.args.text.now.items _ _ c.loop-task.invariant
    c.in_ok-put_activation.ensures
