use Rattle.std.proofs.Common.{◌≤◌}
use Rattle.tt_read.specs.Parts.{spaced_part}
use Rattle.tt_read.proofs.Pieces.{Put}
use Rattle.tt_read.proofs.showing.put_parts.Given as goal

abbrev pub invariant-loop-part : goal.invariant-loop-part
invariant-loop-part g l = record {
  put : Put spaced_part l.parts l.part-index (g.O.Sink.written l.fn.sink)
      (g.O.Sink.written l.sink) l.fn.buffer l.buffer;
  never_falls : g.O.Sink.faults l.fn.sink ≤ g.O.Sink.faults l.sink;
}
