-- What came back unread stays the next values of its channel, whatever acts.
use Rattle.std.proofs.Common.{◌≡◌, refl, ap, subst, ℕ, zero, suc, ◌+◌, ◌<◌, ◌≤◌, List, [], ◌∷◌, ◌++◌, length, drop, get_or, set, inl, inr}
use Rattle.std.proofs.Common.{arith, sym, Option, ◌∙◌}
use Rattle.std.proofs.{lemmas.Bool.cases_lt, lemmas.Bool.Decides.eqb_tells}
use Rattle.std.proofs.lemmas.List.{get_or-set_same, get_or-set_other, get_or_past, length-set}
use Rattle.sim_core.specs.{Plan, ModuleState, place_in, ModuleRun, Mail, values_on, core_values, Begins, Action, Acts, ActsAll, IsNoRunOf}
use Rattle.sim_core.specs.{runs, design, lockstep_run, core_of, values_at, IsSound, Engine, core_in, IsCore, AreUnreadIn, none_unread}
use Rattle.sim_core.specs.{unread_at, IsUnread, AreUnread, declared.unread.Unread.Unread}
use Rattle.std.specs.List.Sorted.{IsStrictlyIncreasing}
use Rattle.module_interp.proofs.Places.{position_at}
use Rattle.run_ahead.proofs.Placed.{values_there}
use Rattle.event_timing.specs.Core.{Core}
use Rattle.event_timing.proofs.{Beside.others_grow, Values.begins_trans}
use Rattle.timing_bridge.proofs.History.{plan_is_design, run_is_history}
use Rattle.engine_view.specs.Held.{Held}
use Rattle.sim_core.proofs.Beginnings.{begins_drop}

-- ---- lists

pub none_is : (all : List ℕ) → IsUnread all none_unread
none_is all = (all, refl)

-- where nothing is there
pub unread_none : (all : ℕ → List ℕ) (n : ℕ) → AreUnread all n []
unread_none all n c l = subst (IsUnread (all c)) (sym (get_or_past [] c none_unread (omega arith))) (none_is (all c))

pub unread_set : (all : ℕ → List ℕ) (n : ℕ) (unread : List Unread) (c : ℕ) (new : Unread) → AreUnread all n unread
    → (c < n → IsUnread (all c) new) → AreUnread all n (set unread c new)
unread_set all n unread c new are is k l =
    elim (eqb_tells k c) [
      | inl e ↦ subst (λ (i : ℕ). IsUnread (all i) (unread_at (set unread c new) i)) (sym e.1)
          (here (subst (λ (i : ℕ). i < n) e.1 l))
      | inr e ↦ subst (IsUnread (all k)) (sym (get_or-set_other unread c k new none_unread e.1)) (are k l)
    ]
  where
    here : c < n → IsUnread (all c) (unread_at (set unread c new) c)
    here inside =
        elim (cases_lt c (length unread)) [
          | inl m ↦ subst (IsUnread (all c)) (sym (get_or-set_same unread c new none_unread m)) (is inside)
          | inr m ↦ subst (IsUnread (all c))
              (sym (get_or_past (set unread c new) c none_unread (let s = length-set unread c new in omega arith))) (none_is (all c))
        ]

-- one more of which nothing is unread
pub unread_push : (all : ℕ → List ℕ) (n : ℕ) (unread : List Unread) → AreUnread all n unread → AreUnread all n (unread ++ none_unread ∷ [])
unread_push all n unread are k l = subst (IsUnread (all k)) (sym (same unread k)) (are k l)
  where
    same : (us : List Unread) (i : ℕ) → get_or (us ++ none_unread ∷ []) i none_unread ≡ get_or us i none_unread
    same [] zero = refl
    same [] (suc i) = refl
    same (u ∷ us) zero = refl
    same (u ∷ us) (suc i) = same us i

unread_grow : (all more : ℕ → List ℕ) (n : ℕ) (unread : List Unread) → ((c : ℕ) → Begins (more c) (all c)) → AreUnread all n unread
    → AreUnread more n unread
unread_grow all more n unread grows are c l =
    let (rest, e) = grows c in
    let b = (unread_at unread c).skipped in
    begins_trans (drop b (more c)) (drop b (all c)) (unread_at unread c).values (begins_drop b (more c) (all c) rest e) (are c l)

-- ---- what a mail has left

-- a loop has kept what is left of the first channels, and taken it out
pub record IsKeeping (first : List Unread) (readers : List ℕ) (m : ℕ) (popped : ℕ → ℕ) (mail : Mail) (unread : List Unread) (now : Mail)
    (at : ℕ) : Type 0 where
  pub pops : now.channels ≡ mail.channels
  pub still : (i : ℕ) → at ≤ i → get_or now.values i [] ≡ get_or mail.values i []
  pub left : (all : ℕ → List ℕ) (n : ℕ) → AreUnread all n first
      → ((c : ℕ) → c < n → get_or readers c 0 ≡ m → Begins (drop (popped c) (all c)) (values_on mail c)) → AreUnread all n unread

pub keeping_more : (first : List Unread) (readers : List ℕ) (m : ℕ) (popped : ℕ → ℕ) (mail : Mail) (unread more : List Unread)
    (now rest : Mail) (at c : ℕ) → IsKeeping first readers m popped mail unread now at → IsStrictlyIncreasing now.channels
    → at < length now.channels → get_or now.channels at 0 ≡ c → get_or readers c 0 ≡ m
    → more ≡ set unread c (record { skipped = popped c; values = get_or now.values at [] }) → rest.channels ≡ now.channels
    → rest.values ≡ set now.values at [] → IsKeeping first readers m popped mail more rest (at + 1)
keeping_more first readers m popped mail unread more now rest at c k rise inside is mine e same taken = record {
  pops = same ∙ k.pops;
  still = λ i l.
      ap (λ (vs : List (List ℕ)). get_or vs i []) taken ∙ (get_or-set_other now.values at i [] [] (λ z. absurd (omega arith))
      ∙ k.still i (omega arith));
  left = λ all n are next.
      subst (AreUnread all n) (sym e)
      (unread_set all n unread c _ (k.left all n are next)
      (λ within. subst (Begins (drop (popped c) (all c))) here (next c within mine)));
}
  where
    place : place_in mail.channels c ≡ at
    place = rw (← k.pops) (position_at now.channels rise at c inside is)

    here : values_on mail c ≡ get_or now.values at []
    here =
        values_there mail c (rw (place, ← k.pops) inside)
        ∙ (ap (λ (i : ℕ). get_or mail.values i []) place ∙ sym (k.still at (omega arith)))

pub keeping_on : (first : List Unread) (readers : List ℕ) (m : ℕ) (popped : ℕ → ℕ) (mail : Mail) (unread : List Unread) (now : Mail)
    (at : ℕ) → IsKeeping first readers m popped mail unread now at → IsKeeping first readers m popped mail unread now (at + 1)
keeping_on first readers m popped mail unread now at k = record {
  pops = k.pops;
  still = λ i l. k.still i (omega arith);
  left = k.left;
}

-- ---- cores

pub unread_same : (p : Plan) (g h : Held) (unread : List Unread) → h ≡ g
    → AreUnread (core_values (design p) (core_of (design p) g)) (length p.design.channels) unread
    → AreUnread (core_values (design p) (core_of (design p) h)) (length p.design.channels) unread
unread_same p g h unread e are =
    subst (λ (q : Held). AreUnread (core_values (design p) (core_of (design p) q)) (length p.design.channels) unread) (sym e) are

-- the table's values are those of the core
pub unread_here : (p : Plan) (h : Held) → IsSound (design p) h → (n : ℕ) → n ≡ length h.channels → (unread : List Unread)
    → AreUnread (core_values (design p) (core_of (design p) h)) n unread → AreUnread (values_at h.channels) (length h.channels) unread
unread_here p h s n count unread are c l =
    subst (λ (all : List ℕ). IsUnread all (unread_at unread c)) (sym (s.values c l)) (are c (omega arith))

-- a module that the action does not run
idle : Action → ℕ
idle (Action.Run n) = suc n
idle (Action.Assign n) = 0
idle (Action.Answer n) = 0
idle (Action.Earliest n) = 0

no_run : (a : Action) → IsNoRunOf (idle a) (a ∷ [])
unfolding idle
no_run (Action.Run n) = ((λ e. let f : suc n ≡ n = e in absurd (omega arith)), tt)
no_run (Action.Assign n) = tt
no_run (Action.Answer n) = tt
no_run (Action.Earliest n) = tt

no_runs : (m n : ℕ) → IsNoRunOf (suc m) (runs n m)
no_runs m zero = tt
no_runs m (suc n) = ((λ e. absurd (omega arith)), no_runs m n)

module _ (p : Plan) (s : Engine) (modules : List (Option ModuleRun))
    (k : IsCore p s modules) (unread : List Unread) (are : AreUnreadIn p s unread) where
  pub grown : (m : ℕ) (actions : List Action) → IsNoRunOf m actions → (y : Core ModuleState)
      → ActsAll (design p) p.cycles (core_in p s) actions y → AreUnread (core_values (design p) y) (length p.design.channels) unread
  grown m actions o y acts =
      unread_grow (core_values (design p) (core_in p s)) (core_values (design p) y) (length p.design.channels) unread
      (others_grow (design p) (lockstep_run p) (plan_is_design p k.fits) (run_is_history p k.fits) p.cycles (core_in p s) k.agreed m
      actions o y acts).grows.values_up are

  pub unread_acted : (a : Action) (y : Core ModuleState) → Acts (design p) p.cycles (core_in p s) a y
      → AreUnread (core_values (design p) y) (length p.design.channels) unread
  unread_acted a y acts = grown (idle a) (a ∷ []) (no_run a) y (y, acts, refl)

  pub unread_ran : (m n : ℕ) (y : Core ModuleState) → ActsAll (design p) p.cycles (core_in p s) (runs n m) y
      → AreUnread (core_values (design p) y) (length p.design.channels) unread
  unread_ran m n y acts = grown (suc m) (runs n m) (no_runs m n) y acts
