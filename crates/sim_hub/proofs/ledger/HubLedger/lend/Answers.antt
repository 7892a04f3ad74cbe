use Rattle.std.proofs.Common.{arith, rules, refl, sym, ap, subst, length, vec_capacity, ◌≡◌, ◌+◌, ◌≤◌, ◌∙◌, ◌++◌, ◌∷◌, [], ℕ, List, Some}
use Rattle.sim_hub.specs.{HubTurn, lent_at, history_of, theory_of, HasNoDesk}
use Rattle.timing_bridge.specs.declared.turn.HubTurn.TheVariants.{Lent}
use Rattle.sim_hub.proofs.{Keeping.adds_turn, Keeping.kept_same, Keeping.same_entries, Answering.home_after_short, Answering.short_added}
use Rattle.sim_hub.proofs.Ledgers.{owner_inside, owner_home, desk_here, kept_lending, out_lending, is_finished, is_held}
use Rattle.sim_hub.proofs.ledger.HubLedger.lend.Goals as goal

pub returns-then-self-clause-out : goal.returns-then-self-clause-out
returns-then-self-clause-out c =
    let l = c.args.self.now in
    owner_home l.core l.turns.items l.out l.short _ l.kept c.agrees.ensures.fits c.args.owner c.requires.home

pub fall_short-requires-clause-pass : goal.fall_short-requires-clause-pass
fall_short-requires-clause-pass c =
    let l = c.args.self.now in
    let inside = owner_inside l.core l.turns.items l.out l.short _ l.kept c.args.owner c.requires.home in
    let pass = c.requires.pass in
    omega arith

pub returns-then-is_err-clause-out : goal.returns-then-is_err-clause-out
returns-then-is_err-clause-out c =
    let l = c.args.self.now in
    let m = c.args.owner in
    let home = owner_home l.core l.turns.items l.out l.short _ l.kept c.agrees.ensures.fits m c.requires.home in
    home_after_short m (history_of l.core.plan l.turns.items) _ (λ p at. lent_at at m ≡ Some (m + 1) → ⊥) home
    (short_added l.core.plan l.core.plan l.turns.items _ _ c.args.pass m refl c.reserve.ensures.items c.requires.pass c.fall_short.ensures)

pub lend-requires : goal.lend-requires
lend-requires c = let l = c.args.self.now in owner_inside l.core l.turns.items l.out l.short _ l.kept c.args.owner c.requires.home

pub invariant_of-self-in-Ok-Some : goal.invariant_of-self-in-Ok-Some
invariant_of-self-in-Ok-Some c =
    let l = c.args.self.now in
    let a = c.in-Ok-Some in
    let gone = rw a.field-0-is at a.ensures.lent in
    let task = rw a.field-0-is at a.ensures.task in
    let here = rw a.field-0-is at a.ensures.here in
    let inside = owner_inside l.core l.turns.items l.out l.short _ l.kept c.args.owner c.requires.home in
    let added = c.push_reserved.ensures.items ∙ ap (λ (ts : List HubTurn). ts ++ Lent c.args.pass c.args.owner ∷ [])
    c.reserve.ensures.items in
    let longer = c.push_reserved.ensures in
    let room : length l.turns.items + (l.out + 3) ≤ vec_capacity c.reserve.new.self = search rules in
    record {
      kept = kept_lending l.core l.turns.items l.out l.short _ l.kept c.lend.new.self _ _ c.args.pass c.args.owner c.requires.pass gone
          inside
          c.if-self.false task.may here added (omega arith);
    }

pub invariant_of-self-in-Ok-None : goal.invariant_of-self-in-Ok-None
invariant_of-self-in-Ok-None c =
    let l = c.args.self.now in
    let a = c.in-Ok-None in
    let same = (rw a.field-0-is at a.ensures.unchanged) refl in
    record {
      kept = kept_same l.core l.turns.items l.out l.short _ l.kept c.lend.new.self _ _ (ap (λ v. v.plan) same) (ap (λ v. v.lent) same)
          (ap theory_of same) c.reserve.ensures.items c.reserve.ensures.capacity;
    }

pub invariant_of-self-in-Err : goal.invariant_of-self-in-Err
invariant_of-self-in-Err c =
    let l = c.args.self.now in
    let same = c.in-Err.ensures.no_memory in
    record {
      kept = kept_same l.core l.turns.items l.out l.short _ l.kept c.lend.new.self _ _ (ap (λ v. v.plan) same) (ap (λ v. v.lent) same)
          (ap theory_of same) c.reserve.ensures.items c.reserve.ensures.capacity;
    }

pub fall_short-requires-in-Err-clause-pass : goal.fall_short-requires-in-Err-clause-pass
fall_short-requires-in-Err-clause-pass c =
    let l = c.args.self.now in
    let inside = owner_inside l.core l.turns.items l.out l.short _ l.kept c.args.owner c.requires.home in
    let pass = c.requires.pass in
    let same = ap (λ v. length v.plan.design.modules) c.in-Err.ensures.no_memory in
    omega arith

pub returns-in-Ok-Some-clause-lending : goal.returns-in-Ok-Some-clause-lending
returns-in-Ok-Some-clause-lending c =
    let l = c.args.self.now in
    let a = c.in-Ok-Some in
    let gone = rw a.field-0-is at a.ensures.lent in
    let task = rw a.field-0-is at a.ensures.task in
    let added = c.push_reserved.ensures.items ∙ ap (λ (ts : List HubTurn). ts ++ Lent c.args.pass c.args.owner ∷ []) c.reserve.ensures.items
    ∙ ap (λ (n : ℕ). l.turns.items ++ Lent n c.args.owner ∷ []) c.requires.pass in (
      refl,
      adds_turn l.core.plan c.lend.new.self.plan l.turns.items _ (Lent (c.args.owner + 1) c.args.owner) (ap (λ v. v.plan) gone) added,
      desk_here l.core l.turns.items l.out l.short _ l.kept c.args.owner c.in-Ok-Some.task task,
    )

pub returns-in-Ok-Some-clause-out : goal.returns-in-Ok-Some-clause-out
returns-in-Ok-Some-clause-out c =
    let l = c.args.self.now in
    let a = c.in-Ok-Some in
    let gone = rw a.field-0-is at a.ensures.lent in
    let task = rw a.field-0-is at a.ensures.task in
    let here = rw a.field-0-is at a.ensures.here in
    let inside = owner_inside l.core l.turns.items l.out l.short _ l.kept c.args.owner c.requires.home in
    let added = c.push_reserved.ensures.items ∙ ap (λ (ts : List HubTurn). ts ++ Lent c.args.pass c.args.owner ∷ []) c.reserve.ensures.items
    ∙ ap (λ (n : ℕ). l.turns.items ++ Lent n c.args.owner ∷ []) c.requires.pass in
    out_lending l.core l.turns.items l.out l.short _ l.kept _ c.args.owner c.in-Ok-Some.task inside c.if-self.false task here
    (adds_turn l.core.plan c.lend.new.self.plan l.turns.items _ (Lent (c.args.owner + 1) c.args.owner) (ap (λ v. v.plan) gone) added)

pub returns-then-is_final-clause-lending : goal.returns-then-is_final-clause-lending
returns-then-is_final-clause-lending c =
    let l = c.args.self.now in
    let same = (rw c.in-Ok-None.field-0-is at c.in-Ok-None.ensures.unchanged) refl in (
      refl,
      same_entries l.core.plan _ l.turns.items _ (ap (λ v. v.plan) same) c.reserve.ensures.items,
      is_finished l.core l.turns.items l.out l.short _ l.kept c.lend.new.self (ap (λ v. v.plan) same) (ap theory_of same)
          (c.is_final.ensures.holds c.if-is_final.true) c.if-self.false,
    )

pub returns-then-is_final-clause-out : goal.returns-then-is_final-clause-out
returns-then-is_final-clause-out c =
    let l = c.args.self.now in
    let same = (rw c.in-Ok-None.field-0-is at c.in-Ok-None.ensures.unchanged) refl in
    subst (HasNoDesk c.args.owner) (sym (same_entries l.core.plan _ l.turns.items _ (ap (λ v. v.plan) same) c.reserve.ensures.items))
    (owner_home l.core l.turns.items l.out l.short _ l.kept c.agrees.ensures.fits c.args.owner c.requires.home)

pub returns-else-is_final-clause-lending : goal.returns-else-is_final-clause-lending
returns-else-is_final-clause-lending c =
    let l = c.args.self.now in
    let m = c.args.owner in
    let same = (rw c.in-Ok-None.field-0-is at c.in-Ok-None.ensures.unchanged) refl in
    let none = (rw c.in-Ok-None.field-0-is at c.in-Ok-None.ensures.none) refl in
    let entries = same_entries l.core.plan _ l.turns.items _ (ap (λ v. v.plan) same) c.reserve.ensures.items in
    let inside = owner_inside l.core l.turns.items l.out l.short _ l.kept m c.requires.home in
    let home = owner_home l.core l.turns.items l.out l.short _ l.kept c.agrees.ensures.fits m c.requires.home in (
      refl,
      entries,
      c.count.ensures ∙ ap length entries,
      is_held l.core l.turns.items l.out l.short _ l.kept c.lend.new.self (ap (λ v. v.plan) same) (ap theory_of same) m inside home
          c.if-self.false none (c.is_final.ensures.fails c.if-is_final.false),
    )

pub returns-else-is_final-clause-out : goal.returns-else-is_final-clause-out
returns-else-is_final-clause-out c =
    let l = c.args.self.now in
    let same = (rw c.in-Ok-None.field-0-is at c.in-Ok-None.ensures.unchanged) refl in
    subst (HasNoDesk c.args.owner) (sym (same_entries l.core.plan _ l.turns.items _ (ap (λ v. v.plan) same) c.reserve.ensures.items))
    (owner_home l.core l.turns.items l.out l.short _ l.kept c.agrees.ensures.fits c.args.owner c.requires.home)

pub returns-in-Err-clause-out : goal.returns-in-Err-clause-out
returns-in-Err-clause-out c =
    let l = c.args.self.now in
    let m = c.args.owner in
    let home = owner_home l.core l.turns.items l.out l.short _ l.kept c.agrees.ensures.fits m c.requires.home in
    let plan = ap (λ v. v.plan) c.in-Err.ensures.no_memory in
    home_after_short m (history_of l.core.plan l.turns.items) _ (λ p at. lent_at at m ≡ Some (m + 1) → ⊥) home
    (short_added l.core.plan c.lend.new.self.plan l.turns.items _ _ c.args.pass m plan c.reserve.ensures.items c.requires.pass
    c.fall_short-in-Err.ensures)
