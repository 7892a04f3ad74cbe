-- While a module is lent to a pass, the turns of others do no Run of it; and nothing is done after a final core.
use Rattle.std.proofs.Common.{◌≡◌, ℕ, zero, suc, ◌≤◌, inl, inr, refl, sym, ap, ◌∙◌, subst, arith, Option, Some, None, List, [], ◌∷◌, ◌++◌}
use Rattle.std.proofs.Common.{length}
use Rattle.std.proofs.{lemmas.Bool.cond-false, lemmas.Bool.ne_eqb, lemmas.List.get_or-set_other, Math.ListN.get_or-map}
use Rattle.std.specs.Prelude.{get_or, slice_set, map}
use Rattle.timing_bridge.specs.{Design, Action, Acts, ActsAll, IsNoRunOf, IsFinal, runs, AreTimings, HubTurn, IsTurnOf, TurnsOf, taker}
use Rattle.timing_bridge.specs.{AreOfOthers, lent_at, is_lent_to, not_to, Turned.Turned}
use Rattle.timing_bridge.specs.declared.turn.HubTurn.TheVariants.{Lent, Ran, Timed, Short}
use Rattle.event_timing.specs.{Core.Core, Actions.Action.Run, Actions.Action.Assign, Actions.Action.Answer, Actions.Action.Earliest}

-- ---- lists of actions

pub acts_join : {S : Type 0} → (d : Design S) (limit : ℕ) (x y z : Core S) (actions more : List Action) → ActsAll d limit x actions y
    → ActsAll d limit y more z → ActsAll d limit x (actions ++ more) z
acts_join {S} d limit x y z [] more e b = subst (λ (q : Core S). ActsAll d limit q more z) e b
acts_join {S} d limit x y z (a ∷ actions) more (u, act, rest) b = (u, act, acts_join d limit u y z actions more rest b)

no_run_join : (m : ℕ) (actions more : List Action) → IsNoRunOf m actions → IsNoRunOf m more → IsNoRunOf m (actions ++ more)
no_run_join m [] more a b = b
no_run_join m (Run k ∷ actions) more (n, a) b = (n, no_run_join m actions more a b)
no_run_join m (Assign k ∷ actions) more a b = no_run_join m actions more a b
no_run_join m (Answer k ∷ actions) more a b = no_run_join m actions more a b
no_run_join m (Earliest k ∷ actions) more a b = no_run_join m actions more a b

pub timings_no_run : (m : ℕ) (actions : List Action) → AreTimings actions → IsNoRunOf m actions
timings_no_run m [] t = tt
timings_no_run m (Run k ∷ actions) t = absurd t
timings_no_run m (Assign k ∷ actions) t = timings_no_run m actions t
timings_no_run m (Answer k ∷ actions) t = timings_no_run m actions t
timings_no_run m (Earliest k ∷ actions) t = absurd t

others_runs : (m k n : ℕ) → (m ≡ k → ⊥) → IsNoRunOf m (runs n k)
others_runs m k zero other = tt
others_runs m k (suc n) other = (other, others_runs m k n other)

-- ---- one turn of another pass

-- the module stays lent, and what is done is no Run of it
pub data IsBeside {S : Type 0} (d : Design S) (limit : ℕ) (v w : Turned S) (q m : ℕ) : Type 0 where
  beside : lent_at w m ≡ Some q → (actions : List Action) → IsNoRunOf m actions → ActsAll d limit v.core actions w.core
      → IsBeside d limit v w q m

module _ {S : Type 0} (d : Design S) (limit : ℕ) (v : Turned S) (q m : ℕ) (lent : lent_at v m ≡ Some q) where
  lent_other : (k : ℕ) (o : Option ℕ) → (m ≡ k → ⊥) → get_or (slice_set v.lent_to k o) m None ≡ Some q
  lent_other k o other = get_or-set_other v.lent_to k m o None other ∙ lent

  kept_short : (r : ℕ) → (r ≡ q → ⊥) → get_or (map (not_to r) v.lent_to) m None ≡ Some q
  kept_short r other =
      get_or-map (not_to r) v.lent_to m None ∙ ap (not_to r) lent
      ∙ cond-false (is_lent_to (Some q) r) None (Some q) (ne_eqb r q other)

  pub turn_beside : (turn : HubTurn) (w : Turned S) → (taker turn ≡ q → ⊥) → IsTurnOf d limit v turn w → IsBeside d limit v w q m
  turn_beside (Lent r k) w other (short, may, free, same) =
      beside (ap (λ (u : Turned S). lent_at u m) same ∙ lent_other k (Some r) differ) [] tt (ap (λ (u : Turned S). u.core) same)
    where
      differ : m ≡ k → ⊥
      differ e = let z : None ≡ Some q = sym free ∙ ap (lent_at v) (sym e) ∙ lent in cc
  turn_beside (Ran r k n) w other (holds, some, acts, same) =
      beside (ap (λ (u : Turned S). lent_at u m) same ∙ lent_other k None differ) (runs n k) (others_runs m k n differ) acts
    where
      differ : m ≡ k → ⊥
      differ e = let z : Some r ≡ Some q = sym holds ∙ ap (lent_at v) (sym e) ∙ lent in other cc
  turn_beside (Timed r n) w other (short, some, inl t, same) =
      beside (ap (λ (u : Turned S). lent_at u m) same ∙ lent) t.actions (timings_no_run m t.actions t.timings) t.acts
  turn_beside (Timed r n) w other (short, some, inr (one, t), same) =
      beside (ap (λ (u : Turned S). lent_at u m) same ∙ lent) (Earliest t.owner ∷ []) tt t.acts
  turn_beside (Short r) w other same =
      beside (ap (λ (u : Turned S). lent_at u m) same ∙ kept_short r other) [] tt (ap (λ (u : Turned S). u.core) same)

pub turns_beside : {S : Type 0} → (d : Design S) (limit : ℕ) (v w : Turned S) (q m : ℕ) → lent_at v m ≡ Some q → (turns : List HubTurn)
    → AreOfOthers q turns → TurnsOf d limit v turns w
    → (lent_at w m ≡ Some q) × ((actions : List Action) × IsNoRunOf m actions × ActsAll d limit v.core actions w.core)
turns_beside {S} d limit v w q m lent [] o e =
    (ap (λ (u : Turned S). lent_at u m) e ∙ lent, ([], tt, ap (λ (u : Turned S). u.core) e))
turns_beside {S} d limit v w q m lent (turn ∷ more) (other, o) (u, t, rest) =
    elim (turn_beside d limit v q m lent turn u other t) [
      | beside still actions a b ↦
          let (last, (then, c, e)) = turns_beside d limit u w q m still more o rest in
          (last, (actions ++ then, no_run_join m actions then a c, acts_join d limit v.core u.core w.core actions then b e))
    ]

-- ---- a final core

module _ {S : Type 0} (d : Design S) (limit : ℕ) where
  nothing_acts : (x z : Core S) → IsFinal d limit x → (a : Action) → Acts d limit x a z → ⊥
  nothing_acts x z f (Run m) (may, e) = f.quiet.no_run m may
  nothing_acts x z f (Assign m) (c, may, e) = f.quiet.no_assign m c may
  nothing_acts x z f (Answer m) (c, may, e) = f.quiet.no_answer m c may
  nothing_acts x z f (Earliest m) (c, may, e) = f.no_earliest m c may

  none_act : (x z : Core S) → IsFinal d limit x → (actions : List Action) → 1 ≤ length actions → ActsAll d limit x actions z → ⊥
  none_act x z f [] l e = absurd (omega (arith, l))
  none_act x z f (a ∷ rest) l (u, act, e) = nothing_acts x u f a act

  runs_length : (n m : ℕ) → length (runs n m) ≡ n
  runs_length zero m = refl
  runs_length (suc n) m = ap suc (runs_length n m)

  -- after a final core there is no turn but a want of memory
  pub final_turn : (v w : Turned S) → IsFinal d limit v.core → (turn : HubTurn) → IsTurnOf d limit v turn w
      → (turn ≡ Short (taker turn)) × (w.core ≡ v.core)
  final_turn v w f (Lent q m) (short, may, free, same) = absurd (f.quiet.no_run m may)
  final_turn v w f (Ran q m n) (holds, some, acts, same) =
      absurd (none_act v.core w.core f (runs n m) (subst (λ (k : ℕ). 1 ≤ k) (sym (runs_length n m)) some) acts)
  final_turn v w f (Timed q n) (short, some, inl t, same) =
      absurd (none_act v.core w.core f t.actions (subst (λ (k : ℕ). 1 ≤ k) (sym t.count) some) t.acts)
  final_turn v w f (Timed q n) (short, some, inr (one, t), same) = absurd (f.no_earliest t.owner t.cycle t.may)
  final_turn v w f (Short q) same = (refl, ap (λ (u : Turned S). u.core) same)

  pub final_stays : (v w : Turned S) → IsFinal d limit v.core → (turns : List HubTurn) → TurnsOf d limit v turns w → w.core ≡ v.core
  final_stays v w f [] e = ap (λ (u : Turned S). u.core) e
  final_stays v w f (turn ∷ more) (u, t, rest) =
      let (short, same) = final_turn v u f turn t in
      final_stays u w (subst (IsFinal d limit) (sym same) f) more rest ∙ same
