use Rattle.std.proofs.lemmas.Result.{on_ok_weaker}
use Rattle.osektime_core.proofs.BulkTexts.{activation_put}
use Rattle.osektime_core.proofs.bulk.put_activation.Goals as goal

pub returns : goal.returns
returns c =
    on_ok_weaker c.put_bytes-4.result
    (activation_put c.args.round c.args.task _ c.args.text.now.items _ _ _ _ _ _ _ c.from.ensures
    c.in_ok-put_bytes.ensures
    c.in_ok-put_digits.ensures c.in_ok-put_bytes-2.ensures c.in_ok-put_digits-2.ensures c.in_ok-put_bytes-3.ensures
    c.in_ok-put_digits-3.ensures)
    c.put_bytes-4.ensures
