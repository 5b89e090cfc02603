use Rattle.std.proofs.Common.{arith}
use Rattle.tt_read.proofs.Pieces.{put_more, put_part, puts_err}
use Rattle.tt_read.proofs.showing.put_parts.Goals as goal

pub loop-part-preserved : goal.loop-part-preserved
loop-part-preserved g c = record {
  put = put_more c.loop-part.invariant.put c.loop-part-test.true
      (g.O.Sink.written c.put_part.new.sink) c.put_part.new.buffer c.part-item.result c.part-item.is
      c.in_ok-put_part.ensures.text;
  never_falls = omega (arith, c.loop-part.invariant.never_falls, c.in_ok-put_part.ensures.never_falls);
}

pub returns-in_err-put_part-clause-text : goal.returns-in_err-put_part-clause-text
returns-in_err-put_part-clause-text g c =
    puts_err c.from_residual.result (g.O.Sink.written c.args.sink.now)
    (g.O.Sink.written c.put_part.new.sink) c.args.buffer.now c.put_part.new.buffer _ c.from_residual.ensures.0
    (put_part c.loop-part.invariant.put c.loop-part-test.true
    (g.O.Sink.written c.put_part.new.sink) c.part-item.result c.part-item.is c.in_err-put_part.ensures.text)
