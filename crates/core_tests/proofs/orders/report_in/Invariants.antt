use Rattle.core_tests.proofs.orders.report_in.Given as goal

-- the counter's own number
abbrev pub ghosts-act_all : goal.ghosts-act_all
ghosts-act_all g a = record { name = a.blank.name; parts = a.blank.parts }
