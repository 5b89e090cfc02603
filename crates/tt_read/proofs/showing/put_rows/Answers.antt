use Rattle.std.proofs.Common.{arith}
use Rattle.tt_read.proofs.Pieces.{put_more, put_part, puts_err}
use Rattle.tt_read.proofs.showing.put_rows.Goals as goal

pub loop-row-preserved : goal.loop-row-preserved
loop-row-preserved g c = record {
  put = put_more c.loop-row.invariant.put c.loop-row-test.true
      (g.O.Sink.written c.put_row.new.sink) c.put_row.new.buffer c.row-item.result c.row-item.is
      c.in_ok-put_row.ensures.text;
  never_falls = omega (arith, c.loop-row.invariant.never_falls, c.in_ok-put_row.ensures.never_falls);
}

pub returns-in_err-put_row-clause-text : goal.returns-in_err-put_row-clause-text
returns-in_err-put_row-clause-text g c =
    puts_err c.from_residual.result (g.O.Sink.written c.args.sink.now)
    (g.O.Sink.written c.put_row.new.sink) c.args.buffer.now c.put_row.new.buffer _ c.from_residual.ensures.0
    (put_part c.loop-row.invariant.put c.loop-row-test.true
    (g.O.Sink.written c.put_row.new.sink) c.row-item.result c.row-item.is c.in_err-put_row.ensures.text)
