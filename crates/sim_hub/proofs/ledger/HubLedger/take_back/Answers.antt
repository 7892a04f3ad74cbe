use Rattle.std.proofs.Common.{arith, refl, sym, ap, subst, length, ◌≡◌, ◌+◌, ◌∙◌, ◌++◌, ◌∷◌, [], ℕ, Some}
use Rattle.timing_bridge.specs.declared.turn.HubTurn.TheVariants.{Ran}
use Rattle.sim_hub.specs.{lent_at, led_to, HasDesk}
use Rattle.sim_hub.proofs.{Lists.within_some, Ledgers.burst_is, Ledgers.home_ran, Ledgers.kept_ran}
use Rattle.sim_hub.proofs.Keeping.{adds_turn, kept_after, kept_some, same_entries}
use Rattle.sim_hub.proofs.ledger.HubLedger.take_back.Goals as goal

pub give_up-requires-clause-out : goal.give_up-requires-clause-out
give_up-requires-clause-out c =
    let l = c.args.self.now in
    let m = c.args.owner in
    let b = burst_is l.core l.turns.items l.out l.short _ l.kept c.agrees.ensures.fits m c.args.burst c.requires.back in
    kept_after l.core l.turns.items l.out l.short _ l.kept (λ p at. lent_at at m ≡ Some (m + 1)) b.0

pub take_back-requires-clause-owner : goal.take_back-requires-clause-owner
take_back-requires-clause-owner c =
    let l = c.args.self.now in
    let m = c.args.owner in
    let b = burst_is l.core l.turns.items l.out l.short _ l.kept c.agrees.ensures.fits m c.args.burst c.requires.back in
    let inside = within_some (led_to l.core.plan l.turns.items).lent_to m (m + 1) b.0 in
    let places = l.kept.matches.places in
    omega arith

pub take_back-requires-clause-lent : goal.take_back-requires-clause-lent
take_back-requires-clause-lent c =
    let l = c.args.self.now in
    let m = c.args.owner in
    let b = burst_is l.core l.turns.items l.out l.short _ l.kept c.agrees.ensures.fits m c.args.burst c.requires.back in
    l.kept.matches.away m (m + 1) b.0

pub take_back-requires-clause-burst : goal.take_back-requires-clause-burst
take_back-requires-clause-burst c =
    let l = c.args.self.now in
    (burst_is l.core l.turns.items l.out l.short _ l.kept c.agrees.ensures.fits c.args.owner c.args.burst c.requires.back).1

pub push_reserved-requires : goal.push_reserved-requires
push_reserved-requires c =
    let l = c.args.self.now in
    let m = c.args.owner in
    let b = burst_is l.core l.turns.items l.out l.short _ l.kept c.agrees.ensures.fits m c.args.burst c.requires.back in
    let desk = kept_after l.core l.turns.items l.out l.short _ l.kept (λ p at. lent_at at m ≡ Some (m + 1)) b.0 in
    let some = kept_some l.core l.turns.items l.out l.short _ l.kept m desk in
    let room = l.kept.room in
    omega arith

pub overflow_sub-self : goal.overflow_sub-self
overflow_sub-self c =
    let l = c.args.self.now in
    let m = c.args.owner in
    let b = burst_is l.core l.turns.items l.out l.short _ l.kept c.agrees.ensures.fits m c.args.burst c.requires.back in
    kept_some l.core l.turns.items l.out l.short _ l.kept m
    (kept_after l.core l.turns.items l.out l.short _ l.kept (λ p at. lent_at at m ≡ Some (m + 1)) b.0)

pub invariant_of-self : goal.invariant_of-self
invariant_of-self c =
    let l = c.args.self.now in
    let m = c.args.owner in
    let b = burst_is l.core l.turns.items l.out l.short _ l.kept c.agrees.ensures.fits m c.args.burst c.requires.back in
    let desk = kept_after l.core l.turns.items l.out l.short _ l.kept (λ p at. lent_at at m ≡ Some (m + 1)) b.0 in
    let ok = c.in-Ok.ensures in
    let longer = c.push_reserved.ensures in
    let added = longer.items ∙ ap (λ (n : ℕ). l.turns.items ++ Ran c.args.pass m n ∷ []) c.len-made.ensures in
    record {
      kept = kept_ran l.core l.turns.items l.out l.short _ l.kept c.take_back.new.self _ _ c.args.pass m (length c.args.burst.emitted)
          c.requires.pass ok.plan ok.lent b.0 (b.2 c.if-burst.false) ok.acts added
          (kept_some l.core l.turns.items l.out l.short _ l.kept m desk) (omega arith);
    }

pub give_up-requires-in-Err-clause-out : goal.give_up-requires-in-Err-clause-out
give_up-requires-in-Err-clause-out c =
    let l = c.args.self.now in
    let m = c.args.owner in
    let b = burst_is l.core l.turns.items l.out l.short _ l.kept c.agrees.ensures.fits m c.args.burst c.requires.back in
    subst (HasDesk m) (sym (same_entries l.core.plan _ l.turns.items _ (ap (λ v. v.plan) c.in-Err.ensures.no_memory) refl))
    (kept_after l.core l.turns.items l.out l.short _ l.kept (λ p at. lent_at at m ≡ Some (m + 1)) b.0)

pub returns-in-Ok-clause-home : goal.returns-in-Ok-clause-home
returns-in-Ok-clause-home c =
    let l = c.args.self.now in
    let m = c.args.owner in
    let b = burst_is l.core l.turns.items l.out l.short _ l.kept c.agrees.ensures.fits m c.args.burst c.requires.back in
    let ok = c.in-Ok.ensures in
    let added = c.push_reserved.ensures.items ∙ ap (λ (n : ℕ). l.turns.items ++ Ran c.args.pass m n ∷ []) c.len-made.ensures
    ∙ ap (λ (q : ℕ). l.turns.items ++ Ran q m (length c.args.burst.emitted) ∷ []) c.requires.pass in
    home_ran l.core l.turns.items l.out l.short _ l.kept c.take_back.new.self _ m (length c.args.burst.emitted) b.0
    (b.2 c.if-burst.false) ok.acts
    (adds_turn l.core.plan c.take_back.new.self.plan l.turns.items _ (Ran (m + 1) m (length c.args.burst.emitted)) ok.plan added)
