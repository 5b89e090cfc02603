use Rattle.std.proofs.Common.{◌≤◌, ◌++◌, ◌∷◌, []}
use Rattle.tt_rows.specs.declared.row.NumberedRow.{NumberedRow}
use Rattle.tt_rows.specs.Spelling.{line_of_row}
use Rattle.tt_read.proofs.Pieces.{Put}
use Rattle.tt_read.proofs.showing.put_rows.Given as goal

abbrev pub invariant-loop-row : goal.invariant-loop-row
invariant-loop-row g l = record {
  put : Put (λ (row : NumberedRow). line_of_row row.row ++ 10 ∷ []) l.rows l.row-index (g.O.Sink.written l.fn.sink)
      (g.O.Sink.written l.sink) l.fn.buffer l.buffer;
  never_falls : g.O.Sink.faults l.fn.sink ≤ g.O.Sink.faults l.sink;
}
