use Rattle.std.proofs.Common.{refl, arith}
use Rattle.std.proofs.lemmas.Fn.{says_at}
use Rattle.std.proofs.lemmas.Grind.{common_steps}
use Rattle.tt_rules.proofs.shapes.failing_row.Goals as goal

pub loop-row-preserved : goal.loop-row-preserved
loop-row-preserved g c = λ passes answers.
    let passed = answers c.row-item.result.row c.test.result (says_at g.F.Fn c.test.ensures refl) in
    grind (arith, common_steps, passed, c.loop-row.invariant passes answers)
