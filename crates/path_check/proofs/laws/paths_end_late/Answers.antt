use Rattle.path_check.proofs.Late.{ends_late, ends_later, never_ends}
use Rattle.path_check.proofs.laws.paths_end_late.Goals as goal

pub returns-clause-late : goal.returns-clause-late
returns-clause-late c = ends_late

pub returns-clause-later : goal.returns-clause-later
returns-clause-later c = ends_later

pub returns-clause-never : goal.returns-clause-never
returns-clause-never c = never_ends
