-- Of a module that is not hinted no Assign and no Answer is permitted, whatever was done.
use Rattle.std.proofs.Common.{◌≡◌, ◌≢◌, refl, sym, ap, subst, ◌∙◌, ℕ, ◌+◌, ◌-◌, ◌<◌, inl, inr, true, false, arith, List, [], ◌∷◌, ◌++◌}
use Rattle.std.proofs.Common.{length, map, Some}
use Rattle.std.proofs.{lemmas.Bool.cases_eq, lemmas.Bool.cases_lt, lemmas.Option.slice_get_within}
use Rattle.std.proofs.lemmas.List.{get_or_append_left, get_or-append_right, length-append}
use Rattle.std.specs.{Prelude.◌↔◌, Prelude.slice_get, Prelude.slice_index_or, List.AllByRecursion}
use Rattle.flow_word.proofs.Ranges.{some_is}
use Rattle.sim_core.specs.{other_side, side_of, Side, Port, Plan, Request, with_depth, FitsEngine, ModuleState, Mask, Has, HasMask, IsAdded}
use Rattle.sim_core.specs.{capacity, requests_of, StandsAtPort, owner, Design, Each, IsAgreed, ActsAll, Acts, MayEarliest, after_answer}
use Rattle.sim_core.specs.{runs, design, lockstep_run, seen_request, AreApart, may_time, after_timing, Guard, is_progress, IsIdle, Timing}
use Rattle.sim_core.specs.{Lacks, SetHasRoom, AreAcross, AreAcrossTo, AreBeside, AreBesideTo, AreAsking, ports_to, HasTurned}
use Rattle.sim_core.specs.{HasAnsweredLeast, CoreView, theory_of}
use Rattle.flow_word.specs.declared.access.Side.TheVariants.{Pop, Push}
use Rattle.event_timing.specs.{Core.Core, Actions.Action.Assign, Actions.Action.Answer}
use Rattle.timing_bridge.proofs.{History.plan_is_design, History.run_is_history, Requests.stand, Apart.timing_apart, Apart.runs_apart}
use Rattle.timing_bridge.proofs.Onward.{assigned_is, answered_is, idle_is, opened_is}
use Rattle.sim_core.proofs.Ports.{all_there}
use Rattle.outcome_guard.specs.declared.guard.Guard.TheVariants as guard
use Rattle.engine_view.specs.declared.turn.Timing.TheVariants as turn

-- ---- the modules at the other ends

-- one port more
pub across_more : (p : Plan) (ports : List Port) (at : ℕ) (set now : List ℕ) → SetHasRoom p set → AreAcrossTo p ports at set → (port : Port)
    → slice_get ports at ≡ Some port → (other : ℕ) → other ≡ (design p).owner (other_side port.side) port.channel → IsAdded set other now
    → AreAcrossTo p ports (at + 1) now
across_more p ports at set now room are port here other is added i q l there n inside e =
    elim (cases_lt i at) [
      | inl u ↦ (added.has n).1 (inl (are i q u there n inside e))
      | inr u ↦
          let same : i ≡ at = omega arith in
          let port_is : port ≡ q = some_is port q (sym here ∙ ap (slice_get ports) (sym same) ∙ there) in
          let n_is : other ≡ n = is ∙ ap (λ (a : Port). (design p).owner (other_side a.side) a.channel) port_is ∙ e in
          (added.has n).1 (inr (sym n_is, (omega arith)))
    ]

pub still_room : (p : Plan) (set now : List ℕ) → length now ≡ length set → SetHasRoom p set → SetHasRoom p now
still_room p set now e room = omega arith

module _ (p : Plan) (fits : FitsEngine p) (m : ℕ) (inside : m < length p.design.modules) where
  -- a module that is left out asks for no channel with this one at its other end
  pub apart_of : (ports : List Port) (set : List ℕ) → ports ≡ ports_to p m (length p.design.channels) → AreAcross p ports set
      → (n : ℕ) → n < length p.design.modules → Lacks set n → AreApart (design p) m n
  apart_of ports set are across n low none s = each_away (requests_of p (n, s)) (stand p fits n s)
    where
      other_twice : (side : Side) → other_side (other_side side) ≡ side
      other_twice Pop = refl
      other_twice Push = refl

      away : (r : Request) → StandsAtPort p n r → (design p).owner (other_side (side_of r.kind)) r.channel ≡ m → ⊥
      away r e there =
          let port : Port = record { side = other_side (side_of r.kind); channel = r.channel } in
          let (i, at) = all_there p m (length p.design.channels) ports refl are port e.in_range there in
          none (across i port (slice_get_within ports i port at) at n low
          (ap (λ (side : Side). (design p).owner side r.channel) (other_twice (side_of r.kind)) ∙ e.owned))

      each_away : (rs : List Request) → AllByRecursion (StandsAtPort p n) rs
          → Each (λ a. (design p).owner (other_side a.side) a.channel ≡ m → ⊥) (map seen_request rs)
      each_away [] stands = tt
      each_away (r ∷ rs) (here, more) = (away r here, each_away rs more)

-- one module more
pub beside_more : (p : Plan) → FitsEngine p → (m : ℕ) → m < length p.design.modules → (beside more : List (List Mask)) (masks : List Mask)
    → AreBesideTo p m beside → more ≡ beside ++ masks ∷ [] → (ports : List Port) → ports ≡ ports_to p m (length p.design.channels)
    → (set : List ℕ) → AreAcross p ports set → ((n : ℕ) → HasMask masks n ↔ Has set n) → AreBesideTo p (m + 1) more
beside_more p fits m inside beside more masks are added ports own set across of = record {
  count = ap length added ∙ length-append beside (masks ∷ []) ∙ ap (λ (n : ℕ). n + 1) are.count;
  apart = λ k u n l none.
      elim (cases_lt k m) [
        | inl v ↦ are.apart k v n l (subst (λ (b : List Mask). HasMask b n → ⊥)
            (ap (λ (xs : List (List Mask)). slice_index_or xs k []) added
            ∙ get_or_append_left beside (masks ∷ []) [] k (let c = are.count in omega arith)) none)
        | inr v ↦
            let same : k ≡ m = omega arith in
            subst (λ (i : ℕ). AreApart (design p) i n) (sym same)
            (apart_of p fits m inside ports set own across n l (λ h.
            (subst (λ (b : List Mask). HasMask b n → ⊥) (ap (λ (xs : List (List Mask)). slice_index_or xs k []) added
            ∙ get_or-append_right beside (masks ∷ []) m k [] are.count (omega arith)
            ∙ ap (λ (i : ℕ). slice_index_or (masks ∷ []) i []) (let z : k - m ≡ 0 = omega arith in z)) none) ((of n).1 h)))
      ];
}

-- ---- what was done

module _ (p : Plan) (fits : FitsEngine p) (x : Core ModuleState) (asking : List ℕ) (are : AreAsking p x asking) where
  pub asking_ran : IsAgreed (design p) (lockstep_run p) p.cycles x → (m count : ℕ) (y : Core ModuleState)
      → ActsAll (design p) p.cycles x (runs count m) y → (now : List ℕ) → IsAdded asking m now → AreAsking p y now
  asking_ran agreed m count y acts now added = record {
    room = still_room p asking now added.room are.room;
    idle = λ n l none.
        let room = are.room in
        runs_apart (design p) (lockstep_run p) (plan_is_design p fits) (run_is_history p fits) p.cycles m n
        (λ e. none ((added.has n).1 (inr (e, (omega arith))))) x agreed count y acts
        ∙ are.idle n l (λ h. none ((added.has n).1 (inl h)));
  }

  module _ (beside : List (List Mask)) (besides : AreBeside p beside) (m : ℕ) (inside : m < length p.design.modules) (now : List ℕ)
      (roomed : length now ≡ length asking) (others : (n : ℕ) → n ≢ m → Lacks now n → Lacks asking n) where
    module _ (own : Has now m)
        (spread : (n : ℕ) → n < length p.design.modules → Lacks now n → HasMask (slice_index_or beside m []) n → ⊥) where
      other_than : (n : ℕ) → Lacks now n → n ≢ m
      other_than n none e = none (subst (Has now) (sym e) own)

      asking_after_one : AreAsking p (after_timing (design p) p.cycles x m) now
      asking_after_one = record {
        room = still_room p asking now roomed are.room;
        idle = λ n l none.
            timing_apart (design p) p.cycles x m n (other_than n none) (besides.apart m inside n l (spread n l none))
            ∙ are.idle n l (others n (other_than n none) none);
      }

      asking_still : AreAsking p x now
      asking_still = record {
        room = still_room p asking now roomed are.room;
        idle = λ n l none. are.idle n l (others n (other_than n none) none);
      }

      asking_assigned : (y : Core ModuleState) → Acts (design p) p.cycles x (Assign m) y → AreAsking p y now
      asking_assigned y (c, may, is) =
          rw (is, ← (assigned_is (design p) p.cycles x m c may).1) asking_after_one

      asking_answered : (y : Core ModuleState) → Acts (design p) p.cycles x (Answer m) y → AreAsking p y now
      asking_answered y (c, may, inl (same, is)) =
          rw (is, ← (answered_is (design p) p.cycles x m c may).1) asking_after_one
      asking_answered y (c, may, inr (different, is)) = rw is asking_still

    pub asking_idle : IsIdle (design p) p.cycles x m → AreAsking p x now
    asking_idle idle = record {
      room = still_room p asking now roomed are.room;
      idle = λ n l none.
          elim (cases_eq n m) [
            | inl e ↦ rw e (idle_is (design p) p.cycles x m idle.no_assign idle.no_answer)
            | inr other ↦ are.idle n l (others n other none)
          ];
    }

    asking_kept_by : (Lacks now m → Lacks asking m) → AreAsking p x now
    asking_kept_by kept = record {
      room = still_room p asking now roomed are.room;
      idle = λ n l none.
          are.idle n l (elim (cases_eq n m) [
            | inl e ↦ subst (Lacks asking) (sym e) (kept (subst (Lacks now) e none))
            | inr other ↦ others n other none
          ]);
    }

-- who shares a channel with whom doesn't depend on depths
pub beside_edited : (p : Plan) (channel depth : ℕ) (beside : List (List Mask)) → AreBeside p beside
    → AreBeside (with_depth p channel depth) beside
unfolding owner
beside_edited p channel depth beside b = record { count = b.count; apart = b.apart }

pub asking_all : (p : Plan) (x : Core ModuleState) (asking : List ℕ) → SetHasRoom p asking
    → ((n : ℕ) → n < capacity asking → Has asking n) → AreAsking p x asking
asking_all p x asking room all = record { room = room; idle = λ n l none. absurd (none (all n (omega arith))) }

-- what a turn at a module leaves
module _ (v w : CoreView) (fits : FitsEngine v.plan) (asking : List ℕ) (are : AreAsking v.plan (theory_of v) asking)
    (beside : List (List Mask)) (besides : AreBeside v.plan beside) (m : ℕ) (inside : m < length v.plan.design.modules) (now : List ℕ)
    (roomed : length now ≡ length asking) (others : (n : ℕ) → n ≢ m → Lacks now n → Lacks asking n) where
  pub asking_turned : (r : Timing) → HasTurned r v m w → (r ≢ turn.Nothing → Lacks now m → Lacks asking m)
      → (is_progress r ≡ true → Has now m)
      → (is_progress r ≡ true → (n : ℕ) → n < length v.plan.design.modules → Lacks now n → HasMask (slice_index_or beside m []) n → ⊥)
      → AreAsking v.plan (theory_of w) now
  asking_turned (turn.Assigned c) done kept own spread =
      asking_assigned v.plan fits (theory_of v) asking are beside besides m inside now roomed others (own refl) (spread refl) (theory_of w)
      done
  asking_turned (turn.Answered c) (done, changed, next) kept own spread =
      asking_answered v.plan fits (theory_of v) asking are beside besides m inside now roomed others (own refl) (spread refl) (theory_of w)
      done
  asking_turned (turn.Differs q) (same, different) kept own spread =
      rw same (asking_kept_by v.plan fits (theory_of v) asking are beside besides m inside now roomed others (kept (λ e. cc)))
  asking_turned turn.Nothing (same, idle) kept own spread =
      rw same (asking_idle v.plan fits (theory_of v) asking are beside besides m inside now roomed others idle)

-- where nothing was due, an Earliest at a module leaves nothing due but of itself and of those that share a channel with it
module _ (v w : CoreView) (fits : FitsEngine v.plan) (beside : List (List Mask)) (besides : AreBeside v.plan beside) (m : ℕ)
    (inside : m < length v.plan.design.modules) (now : List ℕ) (room : SetHasRoom v.plan now) (own : Has now m)
    (spread : (n : ℕ) → n < length v.plan.design.modules → Lacks now n → HasMask (slice_index_or beside m []) n → ⊥) (c : ℕ)
    (may : MayEarliest (design v.plan) v.plan.cycles (theory_of v) m c) where
  abbrev d : Design ModuleState
  d = design v.plan

  abbrev x : Core ModuleState
  x = theory_of v

  none_due : (n : ℕ) → may_time d v.plan.cycles x n ≡ false
  none_due n = idle_is d v.plan.cycles x n (may.quiet.no_assign n) (may.quiet.no_answer n)

  asking_open : (e : ℕ) → MayEarliest d v.plan.cycles x m e → AreAsking v.plan (after_answer d x m e) now
  asking_open e found = record {
    room = room;
    idle = λ n l none.
        let other : n ≢ m = λ same. none (subst (Has now) (sym same) own) in
        ap (λ (y : Core ModuleState). may_time d v.plan.cycles y n)
        (sym (opened_is d v.plan.cycles x m e found.open_step.determined.at found.open_step.open_query))
        ∙ timing_apart d v.plan.cycles x m n other (besides.apart m inside n l (spread n l none)) ∙ none_due n;
  }

  pub asking_least : (g : Guard) → HasAnsweredLeast (Some (m, g)) v w → AreAsking v.plan (theory_of w) now
  asking_least guard.Same ((e, found, inl (same, there)), changed) =
      rw there (asking_open e found)
  asking_least guard.Same ((e, found, inr (other, there)), changed) = absurd (changed there)
  asking_least (guard.Differs q) (same, found) =
      rw same (record { room = room; idle = λ n l none. none_due n })
