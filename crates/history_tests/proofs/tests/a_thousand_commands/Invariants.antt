use Rattle.history_tests.proofs.tests.a_thousand_commands.Given as goal

-- the ledger of the steps is the blank one
abbrev pub ghosts-drive : goal.ghosts-drive
ghosts-drive g a = record { name = a.blank.name; parts = a.blank.parts }
