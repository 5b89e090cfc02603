use Rattle.std.proofs.Common.{rules}
use Rattle.tt_rules.specs.DeclarationRules.{level_of}
use Rattle.tt_rules.proofs.declarations.rule_10.Goals as goal

pub returns : goal.returns
returns c = c.in_ok-line.ensures (λ b. level_of b.owner) (search rules)
