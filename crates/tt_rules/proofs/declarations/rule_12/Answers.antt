use Rattle.std.proofs.Common.{rules}
use Rattle.tt_rules.specs.DeclarationRules.{oisr_priority_of}
use Rattle.tt_rules.proofs.declarations.rule_12.Goals as goal

pub returns : goal.returns
returns c = c.in_ok-line.ensures (λ b. oisr_priority_of b.owner) (search rules)
