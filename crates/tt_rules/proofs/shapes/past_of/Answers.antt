use Rattle.std.proofs.Common.{◌+◌, drop, refl, arith}
use Rattle.std.proofs.lemmas.Fn.{says_at}
use Rattle.std.proofs.lemmas.Grind.{common_steps}
use Rattle.tt_rules.specs.Shapes.{filter_at}
use Rattle.tt_rules.proofs.LineLemmas.{past-first}
use Rattle.tt_rules.proofs.shapes.past_of.Goals as goal
use Rattle.tt_rules.proofs.shapes.past_of.Goals.{then-test+then-left-gt0, then-test+else-left-gt0, else-test}

pub loop-at-preserved : goal.loop-at-preserved
loop-at-preserved g c = λ passes answers.
    let passed = answers c.at-item.result.part c.test.result (says_at g.F.Fn c.test.ensures refl) in
    let before = c.loop-at.invariant passes answers in
    elim c.if-test.branch [
      | then-test+then-left-gt0 w ↦
          let rest = filter_at passes (drop (c.loop-at.at-index + 1) c.args.parts.now) in
          let first = past-first c.loop-at.left c.at-item.result rest w.if-left-gt0.true in
          rw (w.least-is, w.left-is) (grind (arith, common_steps, passed, before, w.if-test.true, first))
      | then-test+else-left-gt0 w ↦
          rw (w.least-is, w.left-is, w.lesser-least.ensures)
          (grind (arith, common_steps, passed, before, w.if-test.true, w.if-left-gt0.false))
      | else-test w ↦ rw (w.least-is, w.left-is) (grind (arith, common_steps, passed, before, w.if-test.false))
    ]
