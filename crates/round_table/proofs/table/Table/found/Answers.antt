use Rattle.std.proofs.Common.{◌≡◌, length, ◌∙◌, rules}
use Rattle.round_table.proofs.Placing.{is_due, kept, none_after, none_before}
use Rattle.round_table.proofs.table.Table.found.Goals as goal

pub returns-in-Some-2 : goal.returns-in-Some-2
returns-in-Some-2 c =
    let table = c.args.self.now in
    let rows = (kept c.self.view_is c.self.invariant).rows in
    is_due table rows c.args.offset c.nothing_before.result
    (c.nothing_before.ensures
    ∙ none_before table rows c.place_before.result c.args.offset c.in-Some.point
    (c.in-Some.ensures.next c.args.offset c.place_before.ensures) c.if-point-offset.false)

pub returns-in-None : goal.returns-in-None
returns-in-None c =
    let table = c.args.self.now in
    let own = kept c.self.view_is c.self.invariant in
    let long : c.len.result ≡ length table.mode.enables = search rules in
    is_due table own.rows c.args.offset c.nothing_before-in-None.result
    (c.nothing_before-in-None.ensures
    ∙ none_after table own.rows c.place_before.result c.args.offset c.self.inside.end c.len.result own.end_is
    long (c.in-None.ensures.next c.args.offset c.place_before.ensures))
