use Rattle.history_tests.proofs.tests.marks_bound_the_steps.Given as goal

-- the ledger of the steps is the blank one
abbrev pub ghosts-rewinds : goal.ghosts-rewinds
ghosts-rewinds g a = record { name = a.blank.name; parts = a.blank.parts }
