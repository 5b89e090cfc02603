use Rattle.std.proofs.Common.{◌-◌, length}
use Rattle.tt_read.proofs.ReadLaws.{Passed}
use Rattle.tt_read.proofs.document.read.Given as goal

abbrev pub invariant-loop-rows : goal.invariant-loop-rows
invariant-loop-rows l = Passed l.bytes l.line l.at l.rows

abbrev pub decreases-loop-rows : goal.decreases-loop-rows
decreases-loop-rows l = length l.bytes - l.at
