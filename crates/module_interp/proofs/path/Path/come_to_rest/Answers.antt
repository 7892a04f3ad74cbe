use Rattle.module_interp.proofs.{Keeping.still_path, Ways.then}
use Rattle.module_interp.proofs.path.Path.come_to_rest.Goals as goal

pub returns-in_err-rests-clause-kept : goal.returns-in_err-rests-clause-kept
returns-in_err-rests-clause-kept c =
    then c.args.self.now c.loop-rests.self c.go_a_way.new.self c.loop-rests.invariant.kept c.go_a_way.ensures.kept

pub loop-rests-preserved : goal.loop-rests-preserved
loop-rests-preserved c = record {
  path = still_path c.loop-rests.self c.go_a_way.new.self c.loop-rests.invariant.path c.go_a_way.ensures.kept;
  kept = then c.args.self.now c.loop-rests.self c.go_a_way.new.self c.loop-rests.invariant.kept c.go_a_way.ensures.kept;
  unasked = c.go_a_way.ensures.unasked;
  rest = c.in_ok-rests.ensures.rest;
}
