use Rattle.std.proofs.Common.{◌≡◌, length, ap, ◌∙◌, rules}
use Rattle.std.specs.Prelude.{slice_range}
use Rattle.round_table.specs.declared.due.Due.{Due}
use Rattle.round_table.specs.DueRows.{checks_below, checks_of}
use Rattle.round_table.proofs.Placing.{end_range, kept}
use Rattle.round_table.proofs.table.Table.end_checks.Goals as goal

pub returns-clause-checks : goal.returns-clause-checks
returns-clause-checks c =
    let table = c.args.self.now in
    let own = kept c.self.view_is c.self.invariant in
    let long : c.len.result ≡ length (checks_of table) = search rules in
    ap (λ n. slice_range (checks_of table) n c.len.result) (ap (λ (due : Due). due.checks_from) c.due.ensures.exact)
    ∙ ap (slice_range (checks_of table) (length (checks_below table.mode c.args.round_length))) long
    ∙ end_range table own.rows c.args.round_length c.requires
