use Rattle.std.proofs.Common.{rules, ◌+◌, ◌-◌, ap, ◌∙◌, sym}
use Rattle.std.proofs.lemmas.Result.{on_ok_weaker}
use Rattle.tt_world.specs.declared.config.ConfigParts.{ConfigParts}
use Rattle.round_table.specs.TableRows.{TableRows}
use Rattle.osektime_core.proofs.TablePlaces.{checks_at_end}
use Rattle.osektime_core.proofs.TableTexts.{mode_joined}
use Rattle.osektime_core.proofs.table.put_mode.Goals as goal

pub returns : goal.returns
returns c =
    let config = c.args.config.now in
    let table = c.in_ok-table.table in
    let same = c.parts-parts.ensures.same in
    let end = c.end_checks-from in
    let past = ap (λ (p : ConfigParts). (p.round - p.adjust) + 1) same
    ∙ ap (λ (t : TableRows). t.limit + 1) (sym c.in_ok-table.ensures) in
    on_ok_weaker c.put_checks.result
    (mode_joined config c.args.mode table c.parts-parts.result.now.names _ c.args.text.now.items _ _ _
    (ap (λ (p : ConfigParts). p.names) same)
    c.in_ok-table.ensures (checks_at_end table _ _ _ past end.ensures.from end.ensures.to)
    (search rules) c.in_ok-put_offsets.ensures) c.put_checks.ensures
