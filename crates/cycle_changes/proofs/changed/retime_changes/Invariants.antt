use Rattle.cycle_changes.proofs.changed.retime_changes.Given as goal

-- the counter is the blank's
abbrev pub ghosts-try_changes : goal.ghosts-try_changes
ghosts-try_changes g a = record { name = a.blank.name; parts = a.blank.parts }
