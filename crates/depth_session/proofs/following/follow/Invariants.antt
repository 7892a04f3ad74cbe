use Rattle.depth_session.proofs.following.follow.Given as goal

abbrev pub ghosts-edit_on : goal.ghosts-edit_on
ghosts-edit_on g a = record { name = a.blank.name; parts = 1 }
