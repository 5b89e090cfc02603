use Rattle.std.proofs.Common.{◌≡◌, [], drop}
use Rattle.tt_rules.specs.StructureRules.{lines_2_from}
use Rattle.tt_rules.proofs.structure.rule_2.Given as goal

-- each row so far is allowed where it is
abbrev pub invariant-loop-row : goal.invariant-loop-row
invariant-loop-row l = lines_2_from l.stack l.last (drop l.row-index l.rows) ≡ lines_2_from [] 0 l.rows
