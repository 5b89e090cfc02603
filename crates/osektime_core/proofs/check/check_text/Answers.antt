use Rattle.std.proofs.Common.{◌≡◌, [], ◌∙◌, ap, length, arith}
use Rattle.tt_world.specs.declared.config.ConfigParts.{ConfigParts}
use Rattle.schedule_check.proofs.KeepsBounds.{bounds_are_decided}
use Rattle.schedule_check.specs.KeepsBounds.{keeps_bounds}
use Rattle.osektime_core.proofs.CheckTexts.{check_joined, responses_more, same_test}
use Rattle.osektime_core.proofs.TableTexts.{texts_none}
use Rattle.osektime_core.proofs.check.check_text.Goals as goal

pub loop-number-init : goal.loop-number-init
loop-number-init c = c.new-text.ensures.items ∙ texts_none _ []

pub loop-number-preserved : goal.loop-number-preserved
loop-number-preserved c =
    responses_more c.args.config.now c.loop-number.number _ _ c.loop-number.invariant c.in_ok-put_mode.ensures

pub returns : goal.returns
returns c =
    let config = c.args.config.now in
    let script = c.args.script.now in
    let modes = ap (λ (p : ConfigParts). length p.modes) c.parts.ensures.same in
    let count : c.loop-number.number ≡ length config.modes = omega (arith, c.len-number-end.ensures, modes) in
    check_joined config script c.loop-number.number c.kept.result c.args.answer _ _ _ _ _ count
    (same_test _ c.kept.result (keeps_bounds config script) c.kept.ensures (bounds_are_decided config script))
    c.requires.answer c.loop-number.invariant c.bounds_line.ensures c.answer_line.ensures
    c.in_ok-put_bytes.ensures c.in_ok-put_bytes-2.ensures
