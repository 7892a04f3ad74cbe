use Rattle.std.proofs.{Common.refl, Common.arith, lemmas.List.Elements.All-map}
use Rattle.cycle_changes.specs.{held_in, Put, IsLookedAround}
use Rattle.cycle_changes.proofs.SoFar.{all_more, all_there}
use Rattle.cycle_changes.proofs.changed.are_found_right.Goals as goal

pub loop-put-preserved : goal.loop-put-preserved
loop-put-preserved c =
    all_more (λ (p : Put). IsLookedAround (held_in c.args.engine.now) c.args.limit p.place) c.args.puts.now c.loop-put.put-index _
    c.loop-put-test.true c.loop-put.invariant (c.is_right_around.ensures c.if-not-is_right_around.false)

pub returns : goal.returns
returns c = λ yes. record {
  looked = c.if-not-are_right.ensures refl;
  around = All-map (IsLookedAround (held_in c.args.engine.now) c.args.limit) (λ (p : Put). p.place) c.args.puts.now
      (all_there (λ (p : Put). IsLookedAround (held_in c.args.engine.now) c.args.limit p.place) c.args.puts.now c.loop-put.put-index
      (omega arith) c.loop-put.invariant);
  late = c.are_late.ensures yes;
}
