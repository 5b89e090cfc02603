use Rattle.std.proofs.Common.{◌≡◌, ◌++◌}
use Rattle.osektime_core.specs.BulkText.{task_rows}
use Rattle.osektime_core.specs.TableText.{texts_below}
use Rattle.osektime_core.proofs.bulk.put_tasks.Given as goal

-- the rows so far
abbrev pub invariant-loop-task : goal.invariant-loop-task
invariant-loop-task l = l.text.items ≡ l.fn.text.items ++ texts_below task_rows l.task
