use Rattle.std.proofs.Common.{arith, rules}
use Rattle.std.specs.Cmp.{nat_cmp_total}
use Rattle.std.proofs.lemmas.Bool.Decides.{nat_tests}
use Rattle.std.proofs.lemmas.List.Sorted.{answers_always}
use Rattle.tt_world.specs.declared.config.Activation.{Activation}
use Rattle.tt_rules.specs.Tables.{is_earlier}
use Rattle.tt_config.proofs.StableSort.{sort_by_key}
use Rattle.tt_config.proofs.tables.sort_activations.Goals as goal

pub returns-in-Ok : goal.returns-in-Ok
returns-in-Ok c =
    let offset = λ (a : Activation). a.offset in
    sort_by_key nat_cmp_total offset is_earlier (λ a b. grind (arith, nat_tests)) c.args.rows.now.items _
    (c.in-Ok.ensures.sorted offset (answers_always _ _ _ (λ f a r g h. search rules)))
    (c.in-Ok.ensures.stable offset (answers_always _ _ _ (λ f a r g h. search rules)))
