use Rattle.std.proofs.Common.{sym, subst}
use Rattle.std.specs.List.Sorted.{IsNonDecreasingBy}
use Rattle.tt_world.specs.declared.config.Enable.{Enable}
use Rattle.round_table.proofs.RowOrder.{enables_rise}
use Rattle.round_table.proofs.table.Table.enables_before.Goals as goal

pub before-requires : goal.before-requires
before-requires c =
    subst (IsNonDecreasingBy (λ (row : Enable). row.offset)) (sym c.deref.ensures.value)
    (enables_rise _ _ c.self.invariant.rows)
