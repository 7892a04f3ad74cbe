use Rattle.sim_core.proofs.alone.finish_alone.Given as goal

-- the counter's own number
abbrev pub ghosts-finish : goal.ghosts-finish
ghosts-finish a = record { name = a.blank.name; parts = a.blank.parts }
