use Rattle.std.proofs.Common.{List, suc, sym, ◌∙◌, subst}
use Rattle.std.specs.Prelude.{nat_lt}
use Rattle.std.specs.List.Sorted.{IsNonDecreasingBy}
use Rattle.round_table.specs.declared.due.ExpiryPoint.{ExpiryPoint}
use Rattle.round_table.specs.Cuts.{IsCut}
use Rattle.round_table.proofs.Cursors.{cursor_at, points_rise}
use Rattle.round_table.proofs.Placing.{kept, past}
use Rattle.round_table.proofs.table.Table.place_after.Goals as goal

pub up_to-requires : goal.up_to-requires
up_to-requires c =
    let table = kept c.self.view_is c.self.invariant in
    subst (IsNonDecreasingBy (λ (point : ExpiryPoint). point.offset)) (sym (c.deref.ensures.value ∙ table.expiry_are))
    (points_rise c.args.self.now)

pub returns : goal.returns
returns c =
    let table = kept c.self.view_is c.self.invariant in
    cursor_at c.args.self.now (past c.args.self.now table.rows) c.up_to.result (suc c.args.offset)
    (subst (λ (points : List ExpiryPoint). IsCut
    (λ (point : ExpiryPoint). nat_lt point.offset (suc c.args.offset)) points c.up_to.result)
    (c.deref.ensures.value ∙ table.expiry_are) c.up_to.ensures)
