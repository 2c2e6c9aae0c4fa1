use Rattle.reactor_tests.proofs.runs.run_counted.Given as goal

-- the ledger of the steps is the blank one
abbrev pub ghosts-run_on : goal.ghosts-run_on
ghosts-run_on a = record { name = a.blank.name; parts = a.blank.parts }
