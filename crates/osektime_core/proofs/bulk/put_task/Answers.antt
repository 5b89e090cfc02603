use Rattle.std.proofs.lemmas.Result.{on_ok_weaker}
use Rattle.osektime_core.proofs.BulkTexts.{task_put}
use Rattle.osektime_core.proofs.bulk.put_task.Goals as goal

pub returns : goal.returns
returns c =
    on_ok_weaker c.put_bytes-2.result
    (task_put c.args.task c.args.text.now.items _ _ _ c.in_ok-put_bytes.ensures c.in_ok-put_digits.ensures)
    c.put_bytes-2.ensures
