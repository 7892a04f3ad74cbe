use Rattle.std.specs.Prelude.{◌≡◌, take}
use Rattle.path_text.specs.{moving_end}
use Rattle.path_text.proofs.spans.moving_end.Given as goal

abbrev pub invariant-loop-span : goal.invariant-loop-span
invariant-loop-span l = l.end ≡ moving_end (take l.span-index l.spans)
