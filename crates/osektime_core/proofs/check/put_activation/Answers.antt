use Rattle.std.proofs.Common.{ap}
use Rattle.std.proofs.lemmas.Result.{on_ok_weaker}
use Rattle.tt_world.specs.declared.config.ConfigParts.{ConfigParts}
use Rattle.osektime_core.proofs.CheckTexts.{activation_put}
use Rattle.osektime_core.proofs.check.put_activation.Goals as goal

pub returns : goal.returns
returns c =
    on_ok_weaker c.put_bytes-4.result
    (activation_put c.args.config.now c.args.mode c.args.table.now c.parts.result.now.names c.activation-row.result
    c.args.entry
    c.args.text.now.items _ _ _ _ _ _ _ _ _ (ap (λ (p : ConfigParts). p.names) c.parts.ensures.same) c.requires.table
    c.activation-row.ensures c.in_ok-put_name.ensures c.in_ok-put_bytes.ensures c.in_ok-put_digits.ensures
    c.in_ok-put_bytes-2.ensures c.in_ok-put_name-2.ensures c.in_ok-put_response.ensures c.in_ok-put_bytes-3.ensures
    c.in_ok-put_digits-2.ensures)
    c.put_bytes-4.ensures
