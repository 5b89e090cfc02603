use Rattle.std.proofs.Common.{[], refl, arith}
use Rattle.std.proofs.lemmas.Grind.{common_steps}
use Rattle.tt_rules.proofs.structure.rule_3.Goals as goal

pub loop-row-init : goal.loop-row-init
loop-row-init c = ([], refl, omega arith, refl)

pub returns : goal.returns
returns c = grind (arith, common_steps, c.loop-row.invariant.3)
