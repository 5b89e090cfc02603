use Rattle.std.proofs.Common.{◌<◌, List, length, get_or, sym, ap, ◌∙◌, subst}
use Rattle.tt_world.specs.declared.config.ModeDef.{ModeDef}
use Rattle.tt_world.specs.ConfigRules.{IsConfig}
use Rattle.round_table.proofs.RowOrder.{found_within}
use Rattle.round_table.proofs.table.Table.build.Goals as goal

pub of_mode-requires : goal.of_mode-requires
of_mode-requires c =
    let parts = c.parts-parts.result.now in
    let place = c.from.result in
    let mode = c.index-as_slice-from.result in
    let there : place < length parts.modes = rw (c.from.ensures, c.parts-parts.ensures.same) c.requires in
    found_within parts place mode (subst IsConfig (sym c.parts-parts.ensures.same) c.parts-parts.ensures.rules) there
    (c.index-as_slice-from.is ∙ ap (λ (modes : List ModeDef). get_or modes place mode) c.as_slice.ensures)
