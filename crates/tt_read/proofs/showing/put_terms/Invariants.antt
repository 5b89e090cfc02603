use Rattle.std.proofs.Common.{◌≤◌}
use Rattle.tt_read.specs.Parts.{spaced_term}
use Rattle.tt_read.proofs.Pieces.{Put}
use Rattle.tt_read.proofs.showing.put_terms.Given as goal

abbrev pub invariant-loop-term : goal.invariant-loop-term
invariant-loop-term g l = record {
  put : Put spaced_term l.terms l.term-index (g.O.Sink.written l.fn.sink)
      (g.O.Sink.written l.sink) l.fn.buffer l.buffer;
  never_falls : g.O.Sink.faults l.fn.sink ≤ g.O.Sink.faults l.sink;
}
