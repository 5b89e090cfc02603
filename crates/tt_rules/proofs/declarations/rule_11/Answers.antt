use Rattle.std.proofs.Common.{rules}
use Rattle.tt_rules.specs.DeclarationRules.{osek_priority_of}
use Rattle.tt_rules.proofs.declarations.rule_11.Goals as goal

pub returns : goal.returns
returns c = c.in_ok-line.ensures (λ b. osek_priority_of b.owner) (search rules)
