use Rattle.std.specs.HashMap.{get}
use Rattle.tt_rules.specs.TableRules.{same_pair}
use Rattle.tt_rules.proofs.ArrivalLemmas.{AreNoted}
use Rattle.tt_rules.proofs.inputs.rule_27.Given as goal

abbrev pub invariant-loop-at : goal.invariant-loop-at
invariant-loop-at l = AreNoted (get same_pair l.latest) l.least l.arrivals l.at-index
