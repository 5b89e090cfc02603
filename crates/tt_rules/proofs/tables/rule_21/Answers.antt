use Rattle.std.proofs.Common.{rules}
use Rattle.tt_rules.specs.TableRules.{place_of}
use Rattle.tt_rules.proofs.tables.rule_21.Goals as goal

pub returns : goal.returns
returns c = c.in_ok-line.ensures place_of (search rules)
