use Rattle.core_tests.proofs.ticks.moved_by.Given as goal

-- the counter's own number
abbrev pub ghosts-count_edit : goal.ghosts-count_edit
ghosts-count_edit g a = record { name = a.blank.name; parts = a.blank.parts }
