use Rattle.library_tests.proofs.runs.runs_are_told_to_a_list.Given as goal

-- the counter's ledger is the one that the blank was made for
abbrev pub ghosts-check_runs : goal.ghosts-check_runs
ghosts-check_runs g a = record { name = a.blank.name; parts = a.blank.parts }
