use Rattle.std.proofs.Common.{◌<◌, List, length, get_or, sym, ap, ◌∙◌, subst}
use Rattle.tt_world.specs.declared.config.ModeDef.{ModeDef}
use Rattle.tt_world.specs.ConfigRules.{IsConfig}
use Rattle.round_table.proofs.RowOrder.{found_within}
use Rattle.round_table.proofs.tables.Tables.build.Goals as goal

pub of_mode-requires : goal.of_mode-requires
of_mode-requires c =
    let parts = c.parts-parts.result.now in
    let place = c.loop-mode.mode-index in
    let mode = c.mode-item.result in
    found_within parts place mode (subst IsConfig (sym c.parts-parts.ensures.same) c.parts-parts.ensures.rules)
    (subst (λ (modes : List ModeDef). place < length modes) c.as_slice-mode-items.ensures c.loop-mode-test.true)
    (c.mode-item.is ∙ ap (λ (modes : List ModeDef). get_or modes place mode) c.as_slice-mode-items.ensures)
