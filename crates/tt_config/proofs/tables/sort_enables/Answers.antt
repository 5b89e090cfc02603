use Rattle.std.proofs.Common.{ℕ, arith, rules}
use Rattle.std.specs.Cmp.{nat_cmp_total, then_total, on_total}
use Rattle.std.proofs.lemmas.Bool.Decides.{nat_tests}
use Rattle.std.proofs.lemmas.List.Sorted.{answers_always}
use Rattle.tt_world.specs.declared.config.Enable.{Enable}
use Rattle.tt_rules.specs.Tables.{is_enabled_earlier}
use Rattle.tt_config.proofs.StableSort.{sort_by_key}
use Rattle.tt_config.proofs.tables.sort_enables.Goals as goal

abbrev place : Enable → ℕ × ℕ
place e = (e.offset, e.isr.0)

pub returns-in-Ok : goal.returns-in-Ok
returns-in-Ok c =
    sort_by_key
    (then_total (on_total (λ (t : ℕ × ℕ). t.0) nat_cmp_total) (on_total (λ (t : ℕ × ℕ). t.1) nat_cmp_total))
    place is_enabled_earlier (λ a b. grind (arith, nat_tests)) c.args.rows.now.items _
    (c.in-Ok.ensures.sorted place (answers_always _ _ _ (λ f a r g h. search rules)))
    (c.in-Ok.ensures.stable place (answers_always _ _ _ (λ f a r g h. search rules)))
