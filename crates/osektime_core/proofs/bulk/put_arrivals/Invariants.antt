use Rattle.std.proofs.Common.{◌≡◌, ◌++◌}
use Rattle.osektime_core.specs.BulkText.{arrival_row}
use Rattle.osektime_core.specs.TableText.{texts_below}
use Rattle.osektime_core.proofs.bulk.put_arrivals.Given as goal

-- the rows so far
abbrev pub invariant-loop-number : goal.invariant-loop-number
invariant-loop-number l = l.text.items ≡ l.fn.text.items ++ texts_below (arrival_row l.fn.round) l.number
