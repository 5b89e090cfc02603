use Rattle.osektime_core.proofs.Traces.{puts_run, run_cause, run_never_falls}
use Rattle.osektime_core.proofs.trace.put_run.Goals as goal

pub returns-clause-text : goal.returns-clause-text
returns-clause-text g c =
    puts_run g.O.Sink.written g.O.Sink.faults c.args.bench c.args.recorder.now c.run_trace.new.recorder
    c.run_trace.result c.run_trace.ensures.ran

pub returns-clause-cause : goal.returns-clause-cause
returns-clause-cause g c =
    run_cause g.O.Sink.written g.O.Sink.faults c.args.bench c.args.recorder.now c.run_trace.new.recorder
    c.run_trace.result c.run_trace.ensures.ran

pub returns-clause-never_falls : goal.returns-clause-never_falls
returns-clause-never_falls g c =
    run_never_falls g.O.Sink.written g.O.Sink.faults c.args.bench c.args.recorder.now c.run_trace.new.recorder
    c.run_trace.result c.run_trace.ensures.ran
