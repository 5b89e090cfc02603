use Rattle.std.proofs.Common.{List, ◌≡◌, ap, ◌∙◌}
use Rattle.std.specs.Prelude.{slice_get}
use Rattle.std.proofs.lemmas.Option.{IfSome_then}
use Rattle.round_table.specs.declared.due.ExpiryPoint.{ExpiryPoint}
use Rattle.round_table.specs.DueRows.{due_at}
use Rattle.round_table.specs.ExpiryPoints.{expiry_points}
use Rattle.round_table.proofs.Cursors.{cursor_next, if_found, points_due}
use Rattle.round_table.proofs.Placing.{is_due, kept, past}
use Rattle.round_table.proofs.table.Table.expiry_at.Goals as goal

pub returns-clause-due : goal.returns-clause-due
returns-clause-due c =
    let table = c.args.self.now in
    let own = kept c.self.view_is c.self.invariant in
    let there = c.item.ensures ∙ ap (λ (points : List ExpiryPoint). slice_get points c.args.place)
    (c.deref.ensures.value ∙ own.expiry_are) in
    IfSome_then c.item.result
    (if_found (λ (point : ExpiryPoint). point.due ≡ due_at point.offset table)
    (expiry_points table) c.args.place c.item.result there (points_due table))
    (λ point is. is_due table own.rows point.offset point.due is)

pub returns-clause-next : goal.returns-clause-next
returns-clause-next c offset cursor =
    let table = c.args.self.now in
    let own = kept c.self.view_is c.self.invariant in
    cursor_next table (past table own.rows) c.args.place offset cursor c.item.result
    (c.item.ensures ∙ ap (λ (points : List ExpiryPoint). slice_get points c.args.place)
    (c.deref.ensures.value ∙ own.expiry_are))
