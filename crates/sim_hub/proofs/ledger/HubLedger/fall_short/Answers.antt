use Rattle.std.proofs.Common.{arith, refl, ap, length, true}
use Rattle.timing_bridge.specs.declared.turn.HubTurn.TheVariants.{Short}
use Rattle.sim_hub.specs.{after_short, led_to, spare}
use Rattle.sim_hub.proofs.{Lists.count_mapped, Keeping.kept_next, Keeping.short_matches}
use Rattle.sim_hub.proofs.ledger.HubLedger.fall_short.Goals as goal

pub invariant_of-self : goal.invariant_of-self
invariant_of-self c =
    let l = c.args.self.now in
    let at = led_to l.core.plan l.turns.items in
    let q = c.args.pass in
    let few = count_mapped q at.lent_to in
    let counted = l.kept.matches.counted in
    let spared = ap spare c.requires.memory in
    let room = l.kept.room in
    let longer = c.push_reserved.ensures in record {
      kept = kept_next l.core l.turns.items l.out l.short _ l.kept l.core _ l.out true _ (Short q) (after_short at q) refl longer.items
          c.requires.pass refl
          (short_matches l.core l.out l.short at l.kept.matches l.out q (omega arith))
          (omega (arith, ap length longer.items));
    }
