use Rattle.std.proofs.Common.{◌≡◌, ◌≢◌, ◌+◌, ◌⊎◌, true, cond}
use Rattle.module_interp.specs.{declared.path.Stage.TheVariants.Asked, IsPath, KeepsRest, clocks_to_end, IsAtStep, IsAtEnd}
use Rattle.module_interp.proofs.path.Path.come_to_rest.Given as goal

-- it leads to the same rest, and stands there where the flag says so
abbrev pub invariant-loop-rests : goal.invariant-loop-rests
invariant-loop-rests l = record {
  path : IsPath l.self;
  kept : KeepsRest l.initial.self l.self;
  unasked : l.self.stage ≢ Asked;
  rest : l.rests ≡ true → IsAtStep l.self ⊎ IsAtEnd l.self;
}

abbrev pub decreases-loop-rests : goal.decreases-loop-rests
decreases-loop-rests l = clocks_to_end l.self + cond l.rests 0 1
