use Rattle.std.proofs.Common.{◌<◌, arith}
use Rattle.tt_read.proofs.ExpressionLaws.{parsed_more}
use Rattle.tt_read.proofs.expression.expression.Goals as goal

pub loop-word-preserved : goal.loop-word-preserved
loop-word-preserved c =
    let some : 0 < c.loop-word.expected = omega (arith, c.if-expected-eq0.false) in
    parsed_more c.loop-word.invariant some c.in-Some.word.now c.word.new.self c.in-Some-term.term c.in-Some.ensures
    c.in-Some-term.ensures
    c.push.new.self c.expected_after-expected.result c.in_ok-push.ensures.ok c.expected_after-expected.ensures
