use Rattle.std.proofs.Common.{rules, refl}
use Rattle.std.proofs.lemmas.Result.{on_err_weaker, on_ok_weaker}
use Rattle.tt_io.proofs.Passing.{part_after, passes_all}
use Rattle.tt_io.proofs.buffer.Buffer.put_beyond.Goals as goal

-- the piece went to the sink at once, after what waited
pub returns-clause-ok : goal.returns-clause-ok
returns-clause-ok g c =
    on_ok_weaker c.put_all.result
    (passes_all (g.O.Sink.written c.args.sink.now) (g.O.Sink.written c.send.new.sink)
    (g.O.Sink.written c.put_all.new.sink) c.args.self.now c.args.piece.now _ _ refl (search rules) (search rules))
    c.put_all.ensures.ok

pub returns-clause-part : goal.returns-clause-part
returns-clause-part g c =
    on_err_weaker c.put_all.result
    (part_after (g.O.Sink.written c.args.sink.now) (g.O.Sink.written c.send.new.sink)
    (g.O.Sink.written c.put_all.new.sink) c.args.self.now c.args.piece.now _ refl (search rules))
    c.put_all.ensures.part
