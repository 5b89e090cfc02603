-- the events so far were noted
use Rattle.std.proofs.Common.{take}
use Rattle.trace_text.specs.Records.{Notes}
use Rattle.trace_text.proofs.notes.note_all.Given as goal

abbrev pub invariant-loop-event : goal.invariant-loop-event
invariant-loop-event g l = Notes g.R.Recorder l.names l.fn.recorder (take l.event-index l.events) l.recorder
