use Rattle.reactor_process.proofs.run_process.Given as goal

-- the ledger of the steps is the blank one
abbrev pub ghosts-run : goal.ghosts-run
ghosts-run a = record { name = a.blank.name; parts = a.blank.parts }
