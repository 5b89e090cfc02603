-- What is gone from the rest of the piece was appended; an empty piece changes nothing in the sink.
use Rattle.std.proofs.Common.{◌≡◌, ◌≤◌, List, ℕ, [], ◌++◌, length}
use Rattle.std.specs.Io.KnownBytes.{Appends}
use Rattle.tt_io.proofs.whole.put_all.Given as goal

abbrev pub invariant-loop-rest : goal.invariant-loop-rest
invariant-loop-rest g l = record {
  done : List ℕ;
  split : l.piece ≡ done ++ l.rest;
  appended : Appends (g.O.Sink.written l.fn.sink) (g.O.Sink.written l.sink) done;
  empty : l.piece ≡ [] → l.sink ≡ l.fn.sink;
  never_falls : g.O.Sink.faults l.fn.sink ≤ g.O.Sink.faults l.sink;
}

abbrev pub decreases-loop-rest : goal.decreases-loop-rest
decreases-loop-rest g l = length l.rest
