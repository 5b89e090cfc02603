use Rattle.std.proofs.Common.{arith, sym, ◌∙◌}
use Rattle.tt_doc.proofs.LineLaws.{plain_len_further}
use Rattle.tt_doc.proofs.lines.plain_len.Goals as goal

pub loop-n-preserved : goal.loop-n-preserved
loop-n-preserved c = record {
  inside = omega (arith, c.loop-n.invariant.inside, c.loop-n-test.true);
  passed = plain_len_further c.args.text.now c.loop-n.n 16
      (omega (arith, c.loop-n.invariant.inside, c.loop-n-test.true))
      (sym c.is_plain_chunk.ensures ∙ c.if-is_plain_chunk.true) c.loop-n.invariant.passed;
}
