use Rattle.std.proofs.Common.{ap, rules}
use Rattle.std.specs.Io.KnownBytes.{Appends}
use Rattle.tt_io.specs.Known.{AppendsPart}
use Rattle.trace_text.specs.Lines.{text_of}
use Rattle.tt_world.specs.Schedule.{schedule}
use Rattle.osektime_core.proofs.Traces.{sent_some, sent_whole}
use Rattle.osektime_core.proofs.trace.write_run.Goals as goal

pub returns-in-Ok-clause-ok : goal.returns-in-Ok-clause-ok
returns-in-Ok-clause-ok g c =
    let written = g.O.Sink.written in
    let sent : Appends (written c.args.output.now) (written c.finish.new.self.0)
    (text_of c.args.bench.config.names (schedule c.args.bench.config c.args.bench.script)) =
    sent_whole written c.new-recorder.result c.put_run.new.recorder
    (text_of c.args.bench.config.names (schedule c.args.bench.config c.args.bench.script))
    (written c.args.output.now) (written c.finish.new.self.0) c.new-recorder.ensures.none_waits
    (ap written c.new-recorder.ensures.sink) c.in-Ended.ensures.text.0 c.in-Ok.ensures.ok in
    search (rules, sent)

pub returns-in-Err-clause-part : goal.returns-in-Err-clause-part
returns-in-Err-clause-part g c =
    let written = g.O.Sink.written in
    let sent : AppendsPart (written c.args.output.now) (written c.finish.new.self.0)
    (text_of c.args.bench.config.names (schedule c.args.bench.config c.args.bench.script)) =
    sent_some written c.new-recorder.result c.put_run.new.recorder
    (text_of c.args.bench.config.names (schedule c.args.bench.config c.args.bench.script))
    (written c.args.output.now) (written c.finish.new.self.0) c.new-recorder.ensures.none_waits
    (ap written c.new-recorder.ensures.sink) c.in-Ended.ensures.text.0 c.in-Err.ensures.part in
    search (rules, sent)
