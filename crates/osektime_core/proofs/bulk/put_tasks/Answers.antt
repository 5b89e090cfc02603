use Rattle.osektime_core.specs.BulkText.{task_rows}
use Rattle.osektime_core.proofs.BulkTexts.{row_more}
use Rattle.osektime_core.proofs.TableTexts.{texts_none}
use Rattle.osektime_core.proofs.bulk.put_tasks.Goals as goal

pub loop-task-init : goal.loop-task-init
loop-task-init c = texts_none task_rows c.args.text.now.items

pub loop-task-preserved : goal.loop-task-preserved
loop-task-preserved c =
    row_more task_rows c.loop-task.task c.args.text.now.items _ _ c.loop-task.invariant
    c.in_ok-put_task.ensures
