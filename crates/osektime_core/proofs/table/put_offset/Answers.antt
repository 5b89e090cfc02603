use Rattle.std.proofs.lemmas.Result.{on_ok_weaker}
use Rattle.osektime_core.proofs.TableTexts.{lines_joined}
use Rattle.osektime_core.proofs.table.put_offset.Goals as goal

pub returns : goal.returns
returns c =
    on_ok_weaker c.put_activation.result
    (lines_joined c.args.names.now c.args.table.now.mode c.args.offset _ _ c.due-due.result.activation
    c.args.text.now.items _ _ _
    c.due-due.ensures.checks c.due-due.ensures.enables c.due-due.ensures.activation c.in_ok-put_checks.ensures
    c.in_ok-put_enables.ensures) c.put_activation.ensures
