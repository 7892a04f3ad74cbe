-- What two looks at one history say of each other.
use Rattle.std.proofs.Common.{◌≡◌, ℕ, zero, suc, ◌⊎◌, inl, inr, refl, sym, ap, ◌∙◌, subst, List, [], ◌∷◌, ◌++◌, Option, Some, None, Bool}
use Rattle.std.proofs.Common.{true, false, cond, eq-eqb, ne_eqb}
use Rattle.std.proofs.Math.ListN.{get_or-map}
use Rattle.std.specs.Prelude.{get_or, slice_set, map}
use mathlib.Core.List.{IsPrefix}
use Rattle.sim_hub.specs.{Plan, ModuleState, FitsEngine, Design, design, lockstep_run, HubTurn, HubEntry, then_on, turns_on, standing_of}
use Rattle.sim_hub.specs.{turned_by, bearer, history_of, Stands, IsTurnOf, TurnsOf, AreOfOthers, taker, lent_at, is_lent_to, not_to}
use Rattle.sim_hub.specs.{opening_turned, bears, entries_of, HoldsAfter}
use Rattle.timing_bridge.specs.declared.turn.HubTurn.TheVariants.{Lent, Ran, Timed, Short}
use Rattle.timing_bridge.specs.{declared.entry.HubEntry.TheVariants.Opened, declared.entry.HubEntry.TheVariants.Turn, Turned.Turned}
use Rattle.timing_bridge.proofs.{History.plan_is_design, History.run_is_history, Legal.turns_are, Turning.turns_join}
use Rattle.timing_bridge.proofs.Plans.{history_is, history_agrees, history_verified}
use Rattle.turn_lock.proofs.Histories.{prefix_self}
use Rattle.flow_word.proofs.Ranges.{some_is}

-- ---- turns as entries

abbrev turn_in : HubTurn → HubEntry → HubTurn
turn_in other (Opened p) = other
turn_in other (Turn turn) = turn

same_turn : (a b : HubTurn) → Turn a ≡ Turn b → a ≡ b
same_turn a b e = ap (turn_in a) e

abbrev plan_in : Plan → HubEntry → Plan
plan_in other (Opened p) = p
plan_in other (Turn turn) = other

abbrev first_in : HubEntry → List HubEntry → HubEntry
first_in other [] = other
first_in other (e ∷ es) = e

abbrev rest_in : List HubEntry → List HubEntry
rest_in [] = []
rest_in (e ∷ es) = es

-- what a list of turns as entries begins with is one too, and so is what follows
turns_after : (xs ys : List HubTurn) (more : List HubEntry) → map Turn xs ++ more ≡ map Turn ys
    → (later : List HubTurn) × (more ≡ map Turn later) × (ys ≡ xs ++ later)
turns_after [] ys more e = (ys, e, refl)
turns_after (x ∷ xs) [] more e = absurd (cc)
turns_after (x ∷ xs) (y ∷ ys) more e =
    let head : x ≡ y = same_turn x y (ap (first_in (Turn x)) e) in
    let t = turns_after xs ys more (ap rest_in e) in
    (t.0, t.1, ap (λ (z : HubTurn). z ∷ ys) (sym head) ∙ ap (λ (zs : List HubTurn). x ∷ zs) t.2)

-- ---- what stands after a history, and after a longer one

-- the plan is that of the longer one
pub plan_since : (p q : Plan) (seen log : List HubEntry) (v w : Turned ModuleState) → Stands p seen v → Stands q log w → IsPrefix seen log
    → p ≡ q
plan_since p q seen log v w s t begins =
    let e : history_of p s.turns ++ begins.0 ≡ history_of q t.turns =
    ap (λ (es : List HubEntry). es ++ begins.0) (sym s.entries) ∙ begins.1 ∙ t.entries in
    ap (plan_in p) (ap (first_in (Opened p)) e)

module _ (p : Plan) (seen log : List HubEntry) (v w : Turned ModuleState) (s : Stands p seen v) (t : Stands p log w) where
  -- the turns since
  later_turns : (more : List HubEntry) → seen ++ more ≡ log
      → (later : List HubTurn) × (more ≡ map Turn later) × (turns_on (design p) p.cycles v later ≡ Some w)
  later_turns more all =
      let e : history_of p s.turns ++ more ≡ history_of p t.turns =
      ap (λ (es : List HubEntry). es ++ more) (sym s.entries) ∙ all ∙ t.entries in
      let (later, are, joined) = turns_after s.turns t.turns more (ap rest_in e) in
      let opening : Turned ModuleState = opening_turned (design p) in (
        later,
        are,
        ap (λ (o : Option (Turned ModuleState)). then_on o (λ u. turns_on (design p) p.cycles u later)) (sym s.standing)
            ∙ sym (turns_join (design p) p.cycles opening s.turns later)
            ∙ ap (standing_of p) (sym joined)
            ∙ t.standing,
      )

  pub turns_since : FitsEngine p → (more : List HubEntry) → seen ++ more ≡ log
      → (later : List HubTurn) × (more ≡ map Turn later) × TurnsOf (design p) p.cycles v later w
  turns_since fits more all =
      let (later, are, on) = later_turns more all in
      let legal = history_is p fits s.turns v s.standing in (
        later,
        are,
        turns_are (design p) (lockstep_run p) (plan_is_design p fits) (run_is_history p fits) p.cycles v w
            (history_agrees p fits s.turns v legal) (history_verified p fits s.turns v legal) later on,
      )

-- what stands after a history is one
pub one_standing : (p : Plan) (seen : List HubEntry) (v w : Turned ModuleState) → Stands p seen v → Stands p seen w → v ≡ w
one_standing p seen v w s t = one_at s.turns t.turns (ap rest_in (sym s.entries ∙ t.entries)) s.standing t.standing
  where
    same_turns : (xs ys : List HubTurn) → map Turn xs ≡ map Turn ys → xs ≡ ys
    same_turns [] [] e = refl
    same_turns [] (y ∷ ys) e = absurd (cc)
    same_turns (x ∷ xs) [] e = absurd (cc)
    same_turns (x ∷ xs) (y ∷ ys) e =
        ap (λ (z : HubTurn). z ∷ xs) (same_turn x y (ap (first_in (Turn x)) e))
        ∙ ap (λ (zs : List HubTurn). y ∷ zs) (same_turns xs ys (ap rest_in e))

    one_at : (xs ys : List HubTurn) → map Turn xs ≡ map Turn ys → standing_of p xs ≡ Some v → standing_of p ys ≡ Some w → v ≡ w
    one_at xs ys e a b = some_is v w (sym a ∙ ap (standing_of p) (same_turns xs ys e) ∙ b)

-- what holds after a history holds of what stands there
pub after_at : (p : Plan) (log : List HubEntry) (v : Turned ModuleState) → Stands p log v → (P : Plan → Turned ModuleState → Type 0)
    → HoldsAfter log P → P p v
after_at p log v t P (q, at, s, holds) =
    let same : q ≡ p = plan_since q p log log at v s t (prefix_self log) in
    let one : at ≡ v = one_standing p log at v (subst (λ (r : Plan). Stands r log at) same s) t in
    subst (P p) one (subst (λ (r : Plan). P r at) same holds)

-- ---- turns of others

pub others_later : (q : ℕ) (turns : List HubTurn) → entries_of bearer q (map Turn turns) ≡ [] → AreOfOthers q turns
others_later q [] e = tt
others_later q (turn ∷ more) e = (differs, others_later q more (none_first (taker turn) differs e))
  where
    differs : taker turn ≡ q → ⊥
    differs is =
        let h = subst (λ (b : Bool). cond b (Turn turn ∷ entries_of bearer q (map Turn more)) (entries_of bearer q (map Turn more)) ≡ [])
        (eq-eqb (taker turn) q is) e in cc

    none_first : (k : ℕ) → (k ≡ q → ⊥)
        → cond (bears (Some k) q) (Turn turn ∷ entries_of bearer q (map Turn more)) (entries_of bearer q (map Turn more)) ≡ []
        → entries_of bearer q (map Turn more) ≡ []
    none_first k other g =
        subst (λ (b : Bool). cond b (Turn turn ∷ entries_of bearer q (map Turn more)) (entries_of bearer q (map Turn more)) ≡ [])
        (ne_eqb k q other) g

-- ---- what is lent, and whether memory was wanted

-- an item of a list of which one was set is that one, or was there
pub set_some : (os : List (Option ℕ)) (k m q : ℕ) (o : Option ℕ) → get_or (slice_set os k o) m None ≡ Some q
    → ((m ≡ k) × (o ≡ Some q)) ⊎ (get_or os m None ≡ Some q)
set_some [] k m q o e = inr e
set_some (x ∷ os) zero zero q o e = inl (refl, e)
set_some (x ∷ os) zero (suc m) q o e = inr e
set_some (x ∷ os) (suc k) zero q o e = inr e
set_some (x ∷ os) (suc k) (suc m) q o e = elim (set_some os k m q o e) [ inl (same, is) ↦ inl (ap suc same, is) | inr there ↦ inr there ]

-- what is not given back was there
pub not_to_some : (r q : ℕ) (o : Option ℕ) → not_to r o ≡ Some q → (o ≡ Some q) × (q ≡ r → ⊥)
not_to_some r q None e = absurd (cc)
not_to_some r q (Some k) e = either (is_lent_to (Some k) r) refl e
  where
    either : (b : Bool) → is_lent_to (Some k) r ≡ b → cond b None (Some k) ≡ Some q → (Some k ≡ Some q) × (q ≡ r → ⊥)
    either true h g = absurd (cc)
    either false h g =
        let same : k ≡ q = some_is k q g in
        (g, λ is. let both = eq-eqb r k (sym is ∙ sym same) in absurd (cc))

pub mapped_some : (r m q : ℕ) (os : List (Option ℕ)) → get_or (map (not_to r) os) m None ≡ Some q
    → (get_or os m None ≡ Some q) × (q ≡ r → ⊥)
mapped_some r m q os e = not_to_some r q (get_or os m None) (sym (get_or-map (not_to r) os m None) ∙ e)

module _ {S : Type 0} (d : Design S) (limit : ℕ) where
  lent_before : (v u : Turned S) (q m : ℕ) (turn : HubTurn) → (taker turn ≡ q → ⊥) → IsTurnOf d limit v turn u → lent_at u m ≡ Some q
      → lent_at v m ≡ Some q
  lent_before v u q m (Lent r k) other (short, may, free, same) lent =
      elim (set_some v.lent_to k m q (Some r) (ap (λ (x : Turned S). lent_at x m) (sym same) ∙ lent)) [
        | inl (here, is) ↦ absurd (other (some_is r q is))
        | inr there ↦ there
      ]
  lent_before v u q m (Ran r k n) other (holds, some, acts, same) lent =
      elim (set_some v.lent_to k m q None (ap (λ (x : Turned S). lent_at x m) (sym same) ∙ lent)) [
        | inl (here, is) ↦ absurd (cc)
        | inr there ↦ there
      ]
  lent_before v u q m (Timed r n) other (short, some, which, same) lent = ap (λ (x : Turned S). lent_at x m) (sym same) ∙ lent
  lent_before v u q m (Short r) other same lent = (mapped_some r m q v.lent_to (ap (λ (x : Turned S). lent_at x m) (sym same) ∙ lent)).0

  -- what is lent to a pass that took no turn was lent to it before
  pub lent_first : (v w : Turned S) (q m : ℕ) (turns : List HubTurn) → AreOfOthers q turns → TurnsOf d limit v turns w
      → lent_at w m ≡ Some q → lent_at v m ≡ Some q
  lent_first v w q m [] o e lent = ap (λ (x : Turned S). lent_at x m) (sym e) ∙ lent
  lent_first v w q m (turn ∷ more) (other, o) (u, t, rest) lent =
      lent_before v u q m turn other t (lent_first u w q m more o rest lent)

  short_after : (v u : Turned S) (turn : HubTurn) → IsTurnOf d limit v turn u → v.short ≡ true → u.short ≡ true
  short_after v u (Lent r k) (short, may, free, same) e = ap (λ (x : Turned S). x.short) same ∙ e
  short_after v u (Ran r k n) (holds, some, acts, same) e = ap (λ (x : Turned S). x.short) same ∙ e
  short_after v u (Timed r n) (short, some, which, same) e = ap (λ (x : Turned S). x.short) same ∙ e
  short_after v u (Short r) same e = ap (λ (x : Turned S). x.short) same

  -- that memory was wanted stays
  pub short_stays : (v w : Turned S) (turns : List HubTurn) → TurnsOf d limit v turns w → v.short ≡ true → w.short ≡ true
  short_stays v w [] e short = ap (λ (x : Turned S). x.short) e ∙ short
  short_stays v w (turn ∷ more) (u, t, rest) short = short_stays u w more rest (short_after v u turn t short)

-- ---- one turn more

pub stands_next : (p : Plan) (turns : List HubTurn) (v w : Turned ModuleState) (turn : HubTurn) → standing_of p turns ≡ Some v
    → turned_by p v turn ≡ Some w → standing_of p (turns ++ turn ∷ []) ≡ Some w
stands_next p turns v w turn s e =
    turns_join (design p) p.cycles (opening_turned (design p)) turns (turn ∷ [])
    ∙ ap (λ (o : Option (Turned ModuleState)). then_on o (λ u. turns_on (design p) p.cycles u (turn ∷ []))) s
    ∙ ap (λ (o : Option (Turned ModuleState)). then_on o (λ u. turns_on (design p) p.cycles u [])) e
