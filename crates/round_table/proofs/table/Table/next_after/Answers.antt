use Rattle.std.proofs.Common.{◌≡◌, ℕ, ◌<◌, ◌≤◌, Option, sym, subst, rules}
use Rattle.std.specs.Prelude.{IfSome}
use Rattle.round_table.specs.ExpiryPoints.{next_after}
use Rattle.round_table.proofs.Placing.{free_between, kept, next_ahead}
use Rattle.round_table.proofs.table.Table.next_after.Goals as goal

pub returns-clause-ahead : goal.returns-clause-ahead
returns-clause-ahead c =
    let least : c.offset_at.result ≡ next_after c.args.offset c.args.self.now = search rules in
    subst (λ (found : Option ℕ). IfSome found (λ next. (c.args.offset < next) × (next ≤ c.args.self.now.limit)))
    (sym least)
    (next_ahead c.args.self.now (kept c.self.view_is c.self.invariant).rows c.args.offset)

pub returns-clause-free : goal.returns-clause-free
returns-clause-free c between after before =
    let least : c.offset_at.result ≡ next_after c.args.offset c.args.self.now = search rules in
    free_between c.args.self.now (kept c.self.view_is c.self.invariant).rows c.args.offset between after
    (subst (λ (found : Option ℕ). IfSome found (λ next. between < next)) least before)
