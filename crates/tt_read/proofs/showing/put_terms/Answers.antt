use Rattle.std.proofs.Common.{arith}
use Rattle.tt_read.proofs.Pieces.{put_more, put_part, puts_err}
use Rattle.tt_read.proofs.showing.put_terms.Goals as goal

pub loop-term-preserved : goal.loop-term-preserved
loop-term-preserved g c = record {
  put = put_more c.loop-term.invariant.put c.loop-term-test.true
      (g.O.Sink.written c.put_term.new.sink) c.put_term.new.buffer c.term-item.result c.term-item.is
      c.in_ok-put_term.ensures.text;
  never_falls = omega (arith, c.loop-term.invariant.never_falls, c.in_ok-put_term.ensures.never_falls);
}

pub returns-in_err-put_term-clause-text : goal.returns-in_err-put_term-clause-text
returns-in_err-put_term-clause-text g c =
    puts_err c.from_residual.result (g.O.Sink.written c.args.sink.now)
    (g.O.Sink.written c.put_term.new.sink) c.args.buffer.now c.put_term.new.buffer _ c.from_residual.ensures.0
    (put_part c.loop-term.invariant.put c.loop-term-test.true
    (g.O.Sink.written c.put_term.new.sink) c.term-item.result c.term-item.is c.in_err-put_term.ensures.text)
