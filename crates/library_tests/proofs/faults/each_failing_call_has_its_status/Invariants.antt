use Rattle.library_tests.proofs.faults.each_failing_call_has_its_status.Given as goal

-- the counter's ledger is the one that the blank was made for
abbrev pub ghosts-check_each_call : goal.ghosts-check_each_call
ghosts-check_each_call g a = record { name = a.blank.name; parts = a.blank.parts }
