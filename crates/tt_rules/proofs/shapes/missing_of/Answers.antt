use Rattle.std.proofs.Common.{refl, arith}
use Rattle.std.proofs.lemmas.Fn.{says_at}
use Rattle.std.proofs.lemmas.Grind.{common_steps}
use Rattle.tt_rules.proofs.shapes.missing_of.Goals as goal

pub loop-at-preserved : goal.loop-at-preserved
loop-at-preserved g c = λ passes answers.
    let passed = answers c.at-item.result.part c.test.result (says_at g.F.Fn c.test.ensures refl) in
    grind (arith, common_steps, passed, c.loop-at.invariant passes answers)

pub returns-then-test : goal.returns-then-test
returns-then-test g c = λ passes answers.
    let passed = answers c.at-item.result.part c.test.result (says_at g.F.Fn c.test.ensures refl) in
    grind (arith, common_steps, passed, c.loop-at.invariant passes answers)

pub returns : goal.returns
returns g c = λ passes answers. grind (arith, common_steps, c.loop-at.invariant passes answers)
