use Rattle.module_interp.proofs.{Keeping.still_path, Ways.looked_up, Ways.then}
use Rattle.module_interp.proofs.path.Path.stands_still.Goals as goal

pub returns-in_err-ask-clause-kept : goal.returns-in_err-ask-clause-kept
returns-in_err-ask-clause-kept c = looked_up c.args.self.now c.ask.new.self _ _ _ c.requires.begun c.ask.ensures.frame

pub returns-then-len-gt0-clause-kept : goal.returns-then-len-gt0-clause-kept
returns-then-len-gt0-clause-kept c = looked_up c.args.self.now c.ask.new.self _ _ _ c.requires.begun c.ask.ensures.frame

pub move_on-requires-clause-path : goal.move_on-requires-clause-path
move_on-requires-clause-path c =
    still_path c.args.self.now c.ask.new.self c.requires.path
    (looked_up c.args.self.now c.ask.new.self _ _ _ c.requires.begun c.ask.ensures.frame)

pub returns-clause-kept : goal.returns-clause-kept
returns-clause-kept c =
    then c.args.self.now c.ask.new.self c.move_on.new.self (looked_up c.args.self.now c.ask.new.self _ _ _ c.requires.begun
    c.ask.ensures.frame)
    c.move_on.ensures.kept
