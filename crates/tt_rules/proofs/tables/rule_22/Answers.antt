use Rattle.std.proofs.Common.{rules}
use Rattle.tt_rules.specs.TableRules.{source_of}
use Rattle.tt_rules.proofs.tables.rule_22.Goals as goal

pub returns : goal.returns
returns c = c.in_ok-line.ensures source_of (search rules)
