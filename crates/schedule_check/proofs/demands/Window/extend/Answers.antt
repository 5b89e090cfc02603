use Rattle.std.proofs.Common.{List, sym, subst}
use Rattle.std.specs.List.Sorted.{IsNonDecreasingBy}
use Rattle.tt_world.specs.declared.config.Activation.{Activation}
use Rattle.tt_world.specs.declared.config.Enable.{Enable}
use Rattle.schedule_check.proofs.Rows.{offsets_rise, enable_offsets_rise}
use Rattle.schedule_check.proofs.demands.Window.extend.Goals as goal

pub extend-requires-clause-ascending : goal.extend-requires-clause-ascending
extend-requires-clause-ascending c =
    subst (λ (rows : List Activation). IsNonDecreasingBy (λ (row : Activation). row.offset) rows)
    (sym c.activations.ensures)
    (offsets_rise _ c.self.invariant.rules _ c.self.invariant.table_is)

pub extend-requires-2-clause-ascending : goal.extend-requires-2-clause-ascending
extend-requires-2-clause-ascending c =
    subst (λ (rows : List Enable). IsNonDecreasingBy (λ (row : Enable). row.offset) rows)
    (sym c.enables.ensures)
    (enable_offsets_rise _ c.self.invariant.rules _ c.self.invariant.table_is)
