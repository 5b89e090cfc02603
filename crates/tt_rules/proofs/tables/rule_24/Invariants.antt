use Rattle.std.proofs.Common.{◌≡◌}
use Rattle.std.specs.Prelude.{flat_map}
use Rattle.tt_rules.specs.Lines.{least_line}
use Rattle.tt_rules.specs.Order.{below}
use Rattle.tt_rules.specs.TableRules.{lines_of_mode}
use Rattle.tt_rules.proofs.tables.rule_24.Given as goal

-- the modes so far
abbrev pub invariant-loop-mode : goal.invariant-loop-mode
invariant-loop-mode l = l.found ≡ least_line (flat_map (lines_of_mode l.entries) (below l.mode))
