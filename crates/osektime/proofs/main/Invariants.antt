use Rattle.osektime.proofs.main.Given as goal

-- the counter's ledger is the one that the blank was made for
abbrev pub ghosts-run : goal.ghosts-run
ghosts-run a = record { name = a.blank.name; parts = a.blank.parts }
