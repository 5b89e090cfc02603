use Rattle.std.proofs.Common.{rules}
use Rattle.std.specs.Prelude.{Some}
use Rattle.tt_rules.proofs.LineLemmas.{least_line_append}
use Rattle.tt_rules.proofs.names.rule_7.Goals as goal

pub returns : goal.returns
returns c =
    let repeated = c.in_ok-repeated.ensures (λ entry. Some entry.name) (search rules) in
    simp least_line_append (search rules)
