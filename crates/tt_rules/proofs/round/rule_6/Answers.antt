use Rattle.std.proofs.Common.{rules}
use Rattle.tt_rules.proofs.LineLemmas.{least_line_append}
use Rattle.tt_rules.proofs.round.rule_6.Goals as goal

pub returns : goal.returns
returns c = simp least_line_append (search rules)
