use Rattle.core_tests.proofs.actions.cause_after.Given as goal

-- the counter's own number
abbrev pub ghosts-answer_after : goal.ghosts-answer_after
ghosts-answer_after g a = record { name = a.blank.name; parts = a.blank.parts }
