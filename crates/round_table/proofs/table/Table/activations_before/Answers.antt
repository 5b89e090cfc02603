use Rattle.std.proofs.Common.{sym, subst}
use Rattle.std.specs.List.Sorted.{IsNonDecreasingBy}
use Rattle.tt_world.specs.declared.config.Activation.{Activation}
use Rattle.round_table.proofs.RowOrder.{activations_rise}
use Rattle.round_table.proofs.table.Table.activations_before.Goals as goal

pub before-requires : goal.before-requires
before-requires c =
    subst (IsNonDecreasingBy (λ (row : Activation). row.offset)) (sym c.deref.ensures.value)
    (activations_rise _ _ c.self.invariant.rows)
