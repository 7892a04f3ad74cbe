use Rattle.core_tests.proofs.edits.moved_from.Given as goal

-- the counter's own number
abbrev pub ghosts-edit_on : goal.ghosts-edit_on
ghosts-edit_on g a = record { name = a.blank.name; parts = a.blank.parts }
