use Rattle.std.proofs.Common.{List, ℕ, get_or, ap, ◌∙◌, arith}
use Rattle.round_table.proofs.Placing.{entries_within, kept}
use Rattle.round_table.proofs.table.Table.check_at.Goals as goal

pub returns-clause-within : goal.returns-clause-within
returns-clause-within c =
    let table = kept c.self.view_is c.self.invariant in
    let entry = c.index.result.now in
    let within = entries_within c.args.self.now table.rows c.args.place entry c.requires in
    let same = c.index.ensures ∙ ap (λ (entries : List ℕ). get_or entries c.args.place entry) table.checks_are in
    omega arith
