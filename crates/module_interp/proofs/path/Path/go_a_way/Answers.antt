use Rattle.module_interp.proofs.{Keeping.still_path, Ways.then}
use Rattle.module_interp.proofs.path.Path.go_a_way.Goals as goal

pub stands_still-requires-clause-path : goal.stands_still-requires-clause-path
stands_still-requires-clause-path c = still_path c.args.self.now c.settle.new.self c.requires.path c.settle.ensures.kept

pub returns-clause-kept : goal.returns-clause-kept
returns-clause-kept c = then c.args.self.now c.settle.new.self c.stands_still.new.self c.settle.ensures.kept c.stands_still.ensures.kept

pub returns-in_err-rests-clause-kept : goal.returns-in_err-rests-clause-kept
returns-in_err-rests-clause-kept c =
    then c.args.self.now c.settle.new.self c.stands_still.new.self c.settle.ensures.kept c.stands_still.ensures.kept
