use Rattle.library_tests.proofs.flat_code.bodies_take_their_ticks.Given as goal

-- the counter's ledger is the one that the blank was made for
abbrev pub ghosts-check_bodies : goal.ghosts-check_bodies
ghosts-check_bodies g a = record { name = a.blank.name; parts = a.blank.parts }
