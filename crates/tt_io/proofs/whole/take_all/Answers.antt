-- A fault of the buffer's filling is one of the whole reading.
use Rattle.std.proofs.Common.{rules}
use Rattle.tt_io.proofs.whole.take_all.Goals as goal

pub returns-in-Broken-clause-read_fault_taken : goal.returns-in-Broken-clause-read_fault_taken
returns-in-Broken-clause-read_fault_taken g c =
    let taken = c.in-Broken.ensures.broken_taken in
    (taken.0, search rules, taken.2, taken.3)

pub returns-in-Broken-clause-read_fault_gave : goal.returns-in-Broken-clause-read_fault_gave
returns-in-Broken-clause-read_fault_gave g c =
    let gave = c.in-Broken.ensures.broken_gave in
    (gave.0, search rules, gave.2)
