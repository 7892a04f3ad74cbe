use Rattle.std.proofs.Common.{arith, refl, sym, ap, subst, length, true, ◌≡◌, ◌+◌, ◌-◌, ◌≤◌, ◌∙◌, ◌++◌, ◌∷◌, [], Some, ℕ, eq-eqb}
use Rattle.timing_bridge.specs.declared.turn.HubTurn.TheVariants.{Short}
use Rattle.sim_hub.specs.{lent_at, after_short, history_of, led_to, lent_count}
use Rattle.sim_hub.proofs.{Lists.count_given_up, Lists.within_some, Answering.home_after_short}
use Rattle.sim_hub.proofs.Keeping.{adds_turn, kept_lent, kept_next, kept_some, short_matches}
use Rattle.sim_hub.proofs.ledger.HubLedger.give_up.Goals as goal

pub push_reserved-requires : goal.push_reserved-requires
push_reserved-requires c =
    let l = c.args.self.now in
    let some = kept_some l.core l.turns.items l.out l.short _ l.kept c.args.owner c.requires.out in
    let room = l.kept.room in
    omega arith

pub overflow_sub-self : goal.overflow_sub-self
overflow_sub-self c = let l = c.args.self.now in kept_some l.core l.turns.items l.out l.short _ l.kept c.args.owner c.requires.out

pub invariant_of-self : goal.invariant_of-self
invariant_of-self c =
    let l = c.args.self.now in
    let at = led_to l.core.plan l.turns.items in
    let m = c.args.owner in
    let q = c.args.pass in
    let lent = kept_lent l.core l.turns.items l.out l.short _ l.kept m c.requires.out in
    let some = kept_some l.core l.turns.items l.out l.short _ l.kept m c.requires.out in
    let less = count_given_up (m + 1) m at.lent_to lent (eq-eqb (m + 1) (m + 1) refl) in
    let counted = l.kept.matches.counted in
    let room = l.kept.room in
    let inside = within_some at.lent_to m (m + 1) lent in
    let places = l.kept.matches.places in
    let longer = c.push_reserved.ensures in record {
      kept = kept_next l.core l.turns.items l.out l.short _ l.kept l.core _ (l.out - 1) true _ (Short q)
          (after_short at q) refl longer.items
          (let pass = c.requires.pass in omega arith) refl
          (short_matches l.core l.out l.short at l.kept.matches (l.out - 1) q
          (subst (λ (n : ℕ). lent_count (after_short at n).lent_to ≤ l.out - 1) (sym c.requires.pass) (omega arith)))
          (omega (arith, ap length longer.items));
    }

pub returns-clause-home : goal.returns-clause-home
returns-clause-home c =
    let l = c.args.self.now in
    let m = c.args.owner in
    let added = c.push_reserved.ensures.items ∙ ap (λ (n : ℕ). l.turns.items ++ Short n ∷ []) c.requires.pass in
    home_after_short m (history_of l.core.plan l.turns.items) _ (λ p at. lent_at at m ≡ Some (m + 1)) c.requires.out
    (adds_turn l.core.plan l.core.plan l.turns.items _ (Short (m + 1)) refl added)
