use Rattle.std.proofs.Common.{◌≡◌, take}
use Rattle.stall_text.specs.{is_moving, is_still, spans_clocks}
use Rattle.stall_text.proofs.causes.clocks_of.Given as goal

abbrev pub invariant-loop-span : goal.invariant-loop-span
invariant-loop-span l = record {
  moved : l.moved ≡ spans_clocks is_moving (take l.span-index l.spans);
  still : l.still ≡ spans_clocks is_still (take l.span-index l.spans);
}
