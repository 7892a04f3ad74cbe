use Rattle.leaf_tests.proofs.walks.a_walk_gives_the_steps_with_a_cycle.Given as goal

-- the counter's own number
abbrev pub ghosts-goes_over_a_step : goal.ghosts-goes_over_a_step
ghosts-goes_over_a_step g a = record { name = a.blank.name; parts = a.blank.parts }
