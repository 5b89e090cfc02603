use Rattle.std.proofs.Common.{ap, arith}
use Rattle.std.specs.List.{list_any}
use Rattle.std.specs.Ordering.{eq_by_cmp}
use Rattle.std.proofs.lemmas.Grind.{common_steps}
use Rattle.tt_rules.specs.ActivationKeys.{key_cmp}
use Rattle.tt_rules.proofs.ActivationLemmas.{key-turned}
use Rattle.tt_rules.proofs.overtaken.keys_in.Goals as goal

pub loop-at-init : goal.loop-at-init
loop-at-init c = λ key. ap (list_any (eq_by_cmp key_cmp key)) c.new-keys.ensures.empty

pub loop-at-preserved : goal.loop-at-preserved
loop-at-preserved c = λ q.
    let turned = key-turned q c.key_of.result in
    grind (arith, common_steps, c.loop-at.invariant q, c.in_ok-put_key.ensures q, c.key_of.ensures)
