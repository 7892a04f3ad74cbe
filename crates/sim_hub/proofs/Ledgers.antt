-- What each kind of turn leaves of a ledger.
use Rattle.std.proofs.Common.{◌≡◌, ℕ, ◌+◌, ◌-◌, ◌<◌, ◌≤◌, inl, inr, refl, sym, ap, ◌∙◌, subst, arith, List, [], ◌∷◌, ◌++◌, Option, Some}
use Rattle.std.proofs.Common.{◌⊎◌, None, Bool, true, false, length, length-append}
use Rattle.std.proofs.{lemmas.Bool.cases_Bool, lemmas.List.get_or-set_same}
use Rattle.std.specs.Prelude.{slice_index_or, slice_set}
use mathlib.Core.Logic.{∥∥₁_elim}
use Rattle.sim_hub.specs.{FitsEngine, Plan, ModuleState, ActsAll, MayEarliest, MayRun, IsFinal, runs, design, HubTurn, AreOfOthers}
use Rattle.sim_hub.specs.{NoTiming, turned_by, history_of, HubEntry, lent_at, after_lent, after_ran, after_timed, Task, Burst, IsBurst, Has}
use Rattle.sim_hub.specs.{capacity as room_for, CoreView, theory_of, IsReady, IsTaskOf, IsTaskFor, IsBurstOf, rest_of, KeepsTurns, led_to}
use Rattle.sim_hub.specs.{spare, HoldsAfter, HasNoDesk, HadMemory, IsDesk, IsHubDone, IsHeld, IsHubIdle, IsLendable, OutAt, TellsReady}
use Rattle.sim_hub.specs.{WasShort, Adds, ComesHome, ComesBack}
use Rattle.event_timing.specs.Core.{Core}
use Rattle.timing_bridge.specs.declared.turn.HubTurn.TheVariants.{Lent, Ran, Timed}
use Rattle.timing_bridge.proofs.{Plans.history_is, Plans.history_agrees, Lending.turns_beside, Turning.lent_fits, Turning.ran_fits}
use Rattle.sim_hub.proofs.{Lists.set_none, Lists.within_some, Histories.after_at, Desks.task_runs, Desks.burst_back, Desks.burst_marks}
use Rattle.sim_hub.proofs.Keeping.{lent_out, kept_stands, kept_after, kept_next, lent_matches, ran_matches, timed_matches}
use Rattle.sim_hub.proofs.Answering.{stands_more, module_inside, come_back, home_since}
use Rattle.sim_hub.specs.declared.answer.Desk.TheVariants as desk

module _ (core : CoreView) (turns : List HubTurn) (out : ℕ) (short : Bool) (capacity : ℕ)
    (k : KeepsTurns core turns out short capacity) where
  -- ---- a pass that has come home

  pub owner_inside : (m : ℕ) → ComesHome m (history_of core.plan turns) → m < length core.plan.design.modules
  owner_inside m c =
      module_inside core.plan (history_of core.plan turns) (led_to core.plan turns) (kept_stands core turns out short capacity k) m
      c.before.seen c.within c.continues.begins

  pub owner_home : FitsEngine core.plan → (m : ℕ) → ComesHome m (history_of core.plan turns) → HasNoDesk m (history_of core.plan turns)
  owner_home fits m c =
      home_since core.plan fits (history_of core.plan turns) (led_to core.plan turns) (kept_stands core turns out short capacity k) c.before
      c.continues m c.number c.home

  -- so until memory was wanted its run is in the core
  pub owner_own : FitsEngine core.plan → short ≡ false → (m : ℕ) → m < length core.plan.design.modules
      → ∥ ComesHome m (history_of core.plan turns) ∥₁ → slice_index_or core.lent m true ≡ false
  owner_own fits memory m inside home =
      elim (cases_Bool (slice_index_or core.lent m true)) [
        | inl gone ↦ absurd (∥∥₁_elim home (λ a b. absurd a) (λ c.
            after_at core.plan (history_of core.plan turns) (led_to core.plan turns) (kept_stands core turns out short capacity k)
            (λ p at. lent_at at m ≡ Some (m + 1) → ⊥) (owner_home fits m c) (k.matches.home memory m inside gone)))
        | inr here ↦ here
      ]

  -- ---- where nothing is added

  pub was_short : short ≡ true → HoldsAfter (history_of core.plan turns) WasShort
  was_short wanted = kept_after core turns out short capacity k WasShort (sym k.matches.short_is ∙ wanted)

  module _ (now : CoreView) (plan : now.plan ≡ core.plan) (theory : theory_of now ≡ theory_of core) where
    final_here : IsFinal (design now.plan) now.plan.cycles (theory_of now)
        → IsFinal (design core.plan) core.plan.cycles (led_to core.plan turns).core
    final_here f =
        subst (IsFinal (design core.plan) core.plan.cycles) (theory ∙ k.matches.core_is)
        (subst (λ (p : Plan). IsFinal (design p) p.cycles (theory_of now)) plan f)

    final_there : IsFinal (design core.plan) core.plan.cycles (led_to core.plan turns).core
        → IsFinal (design now.plan) now.plan.cycles (theory_of now)
    final_there f =
        subst (λ (p : Plan). IsFinal (design p) p.cycles (theory_of now)) (sym plan)
        (subst (IsFinal (design core.plan) core.plan.cycles) (sym (theory ∙ k.matches.core_is)) f)

    pub is_finished : IsFinal (design now.plan) now.plan.cycles (theory_of now) → short ≡ false
        → HoldsAfter (history_of core.plan turns) IsHubDone
    is_finished f memory =
        kept_after core turns out short capacity k IsHubDone (record { final = final_here f; memory = sym k.matches.short_is ∙ memory })

    pub is_idle : NoTiming (design now.plan) now.plan.cycles (theory_of now)
        → ((m c : ℕ) → MayEarliest (design now.plan) now.plan.cycles (theory_of now) m c → ⊥)
        → (IsFinal (design now.plan) now.plan.cycles (theory_of now) → ⊥) → short ≡ false
        → HoldsAfter (history_of core.plan turns) IsHubIdle
    is_idle none least more memory =
        let is = theory ∙ k.matches.core_is in
        kept_after core turns out short capacity k IsHubIdle (record {
          no_timing = subst (NoTiming (design core.plan) core.plan.cycles) is
              (subst (λ (p : Plan). NoTiming (design p) p.cycles (theory_of now)) plan none);
          no_earliest = subst (λ (x : Core ModuleState). (m c : ℕ) → MayEarliest (design core.plan) core.plan.cycles x m c → ⊥) is
              (subst (λ (p : Plan). (m c : ℕ) → MayEarliest (design p) p.cycles (theory_of now) m c → ⊥) plan least);
          more = λ f. more (final_there f);
          memory = sym k.matches.short_is ∙ memory;
        })

    -- where no run is lent
    pub is_held : (m : ℕ) → m < length core.plan.design.modules → HasNoDesk m (history_of core.plan turns) → short ≡ false
        → (MayRun (design core.plan) (theory_of core) m → slice_index_or core.lent m true ≡ true)
        → (IsFinal (design now.plan) now.plan.cycles (theory_of now) → ⊥) → HoldsAfter (history_of core.plan turns) (IsHeld m)
    is_held m inside home memory none more =
        kept_after core turns out short capacity k (IsHeld m) (record {
          no_run = λ may.
              let gone = none (subst (λ (x : Core ModuleState). MayRun (design core.plan) x m) (sym k.matches.core_is) may) in
              after_at core.plan (history_of core.plan turns) (led_to core.plan turns) (kept_stands core turns out short capacity k)
              (λ p at. lent_at at m ≡ Some (m + 1) → ⊥) home (k.matches.home memory m inside gone);
          more = λ f. more (final_there f);
          memory = sym k.matches.short_is ∙ memory;
        })

  -- ---- a lending

  pub desk_here : (m : ℕ) (task : Task) → IsTaskOf core.plan (theory_of core) m task → IsDesk m (history_of core.plan turns) task
  desk_here m task t =
      kept_after core turns out short capacity k (λ p at. IsTaskOf p at.core m task)
      (subst (λ (x : Core ModuleState). IsTaskOf core.plan x m task) k.matches.core_is t)

  free : (m : ℕ) → slice_index_or core.lent m true ≡ false → lent_at (led_to core.plan turns) m ≡ None
  free m here = either (lent_at (led_to core.plan turns) m) refl
    where
      either : (o : Option ℕ) → lent_at (led_to core.plan turns) m ≡ o → lent_at (led_to core.plan turns) m ≡ None
      either None e = e
      either (Some q) e = let z = sym here ∙ k.matches.away m q e in absurd (cc)

  -- ---- who is ready

  lendable_here : (m : ℕ) → IsReady core m → HoldsAfter (history_of core.plan turns) (IsLendable m)
  lendable_here m (may, here) =
      kept_after core turns out short capacity k (IsLendable m) (record {
        may_run = subst (λ (x : Core ModuleState). MayRun (design core.plan) x m) k.matches.core_is may;
        home = free m here;
      })

  -- a module whose desk can be lent is ready in the core
  ready_here : (m : ℕ) → HoldsAfter (history_of core.plan turns) (IsLendable m) → HoldsAfter (history_of core.plan turns) HadMemory → IsReady core m
  ready_here m lendable memory =
      let at = led_to core.plan turns in
      let stands = kept_stands core turns out short capacity k in
      let may = after_at core.plan (history_of core.plan turns) at stands (IsLendable m) lendable in
      let had = after_at core.plan (history_of core.plan turns) at stands HadMemory memory in (
        subst (λ (x : Core ModuleState). MayRun (design core.plan) x m) (sym k.matches.core_is) may.may_run,
        elim (cases_Bool (slice_index_or core.lent m true)) [
          | inl gone ↦ let z = sym may.home ∙ k.matches.home (k.matches.short_is ∙ had) m may.may_run.inside gone in absurd (cc)
          | inr here ↦ here
        ],
      )

  pub tells_ready : (now : CoreView) (before after : List ℕ) → now ≡ core
      → ((n : ℕ) → n < room_for before → IsReady core n → Has after n) → ((n : ℕ) → Has before n → Has after n)
      → ((n : ℕ) → Has after n → Has before n ⊎ IsReady core n) → length after ≡ length before
      → TellsReady (history_of now.plan turns) before after
  tells_ready now before after same ready kept only room =
      subst (λ (v : CoreView). TellsReady (history_of v.plan turns) before after) (sym same) (record {
        ready = λ m inside lendable memory. ready m inside (ready_here m lendable memory);
        only = λ m has. elim (only m has) [ inl old ↦ inl old | inr is ↦ inr (lendable_here m is) ];
        kept = kept;
        room = room;
      })

  lent_turn : (m : ℕ) → short ≡ false → MayRun (design core.plan) (theory_of core) m → slice_index_or core.lent m true ≡ false
      → turned_by core.plan (led_to core.plan turns) (Lent (m + 1) m) ≡ Some (after_lent (led_to core.plan turns) (m + 1) m)
  lent_turn m memory may here =
      let at = led_to core.plan turns in
      lent_fits (design core.plan) core.plan.cycles at (m + 1) m (after_lent at (m + 1) m) (
        sym k.matches.short_is ∙ memory,
        subst (λ (x : Core ModuleState). MayRun (design core.plan) x m) k.matches.core_is may,
        free m
            here,
        refl,
      )

  pub kept_lending : (now : CoreView) (more : List HubTurn) (room q m : ℕ) → q ≡ m + 1 → now ≡ lent_out core m
      → m < length core.plan.design.modules → short ≡ false → MayRun (design core.plan) (theory_of core) m
      → slice_index_or core.lent m true ≡ false → more ≡ turns ++ Lent q m ∷ [] → length turns + (out + 3) ≤ room
      → KeepsTurns now more (out + 1) short room
  kept_lending now more room q m pass gone inside memory may here added enough =
      let spared = ap spare memory in
      let longer = ap length added ∙ length-append turns (Lent q m ∷ []) in
      subst (λ (v : CoreView). KeepsTurns v more (out + 1) short room) (sym gone)
      (kept_next core turns out short capacity k (lent_out core m) more (out + 1) short room (Lent (m + 1) m)
      (after_lent (led_to core.plan turns) (m + 1) m) refl (added ∙ ap (λ n. turns ++ Lent n m ∷ []) pass) (omega arith)
      (lent_turn m memory may here) (lent_matches core out short (led_to core.plan turns) k.matches m inside) (omega arith))

  -- the desk is out after it
  pub out_lending : (log : List HubEntry) (m : ℕ) (task : Task) → m < length core.plan.design.modules → short ≡ false
      → IsTaskOf core.plan (theory_of core) m task → slice_index_or core.lent m true ≡ false
      → Adds (Lent (m + 1) m) (history_of core.plan turns) log → OutAt m log (desk.Run task)
  out_lending log m task inside memory t here added =
      let at = led_to core.plan turns in
      let stands = stands_more core.plan (history_of core.plan turns) log at (after_lent at (m + 1) m) (Lent (m + 1) m)
      (kept_stands core turns out short capacity k) (lent_turn m memory t.may here) added in (
        (
          core.plan,
          after_lent at (m + 1) m,
          stands,
          get_or-set_same at.lent_to m (Some (m + 1)) None (let places = k.matches.places in omega arith),
        ),
        (
          core.plan,
          after_lent at (m + 1) m,
          stands,
          subst (λ (x : Core ModuleState). IsTaskOf core.plan x m task) k.matches.core_is t,
        ),
        task_runs core.plan (theory_of core) m task t,
      )

  -- ---- a return

  module _ (fits : FitsEngine core.plan) (m : ℕ) (burst : Burst) (c : ComesBack m burst (history_of core.plan turns)) where
    -- the desk is still out, the burst is one on a task for the core, and it has marks
    pub burst_is : (lent_at (led_to core.plan turns) m ≡ Some (m + 1)) × IsBurstOf core m burst
        × (burst.short ≡ false → 0 < length burst.emitted)
    burst_is =
        let now = led_to core.plan turns in
        let (at, s, lent, (later, others, ts)) = come_back core.plan fits (history_of core.plan turns) now
        (kept_stands core turns out short capacity k) c.before c.continues (λ p u. lent_at u m ≡ Some (m + 1)) c.out in
        let mine = subst (λ (q : ℕ). AreOfOthers q later) c.number others in
        let (task, lent_task, on) = c.is_burst in
        let t = after_at core.plan c.before.seen at s (λ p u. IsTaskOf p u.core m task) lent_task in
        let g = history_agrees core.plan fits s.turns at (history_is core.plan fits s.turns at s.standing) in
        let back = burst_back core.plan fits at now m task burst g t on later mine ts lent in (
          (turns_beside (design core.plan) core.plan.cycles at now (m + 1) m lent later mine ts).0,
          (
            task,
            subst (λ (x : Core ModuleState). IsTaskFor core.plan x m task × IsBurst core.plan m (rest_of core.plan x m task) task burst)
                (sym k.matches.core_is) back,
          ),
          burst_marks core.plan fits at now m task burst g t on,
        )

  pub kept_ran : (now : CoreView) (more : List HubTurn) (room q m n : ℕ) → q ≡ m + 1 → now.plan ≡ core.plan
      → now.lent ≡ slice_set core.lent m false → lent_at (led_to core.plan turns) m ≡ Some (m + 1) → 0 < n
      → ActsAll (design core.plan) core.plan.cycles (theory_of core) (runs n m) (theory_of now) → more ≡ turns ++ Ran q m n ∷ []
      → 1 ≤ out → capacity ≤ room → KeepsTurns now more (out - 1) short room
  kept_ran now more room q m n pass plan runs_now lent some acts added one enough =
      let longer = ap length added ∙ length-append turns (Ran q m n ∷ []) in
      let before = k.room in
      let inside = within_some (led_to core.plan turns).lent_to m (m + 1) lent in
      let places = k.matches.places in
      kept_next core turns out short capacity k now more (out - 1) short room (Ran (m + 1) m n)
      (after_ran (led_to core.plan turns) m (theory_of now)) plan (added ∙ ap (λ i. turns ++ Ran i m n ∷ []) pass) (omega arith)
      (ran_turn now m n lent some acts) (ran_matches core out short (led_to core.plan turns) k.matches now m lent plan runs_now)
      (omega arith)
    where
      ran_turn : (now : CoreView) (m n : ℕ) → lent_at (led_to core.plan turns) m ≡ Some (m + 1) → 0 < n
          → ActsAll (design core.plan) core.plan.cycles (theory_of core) (runs n m) (theory_of now)
          → turned_by core.plan (led_to core.plan turns) (Ran (m + 1) m n) ≡ Some (after_ran (led_to core.plan turns) m (theory_of now))
      ran_turn now m n lent some acts =
          let at = led_to core.plan turns in
          ran_fits (design core.plan) core.plan.cycles at (m + 1) m n (after_ran at m (theory_of now)) (
            lent,
            some,
            subst (λ (x : Core ModuleState). ActsAll (design core.plan) core.plan.cycles x (runs n m) (theory_of now))
                k.matches.core_is acts,
            refl,
          )

  -- no desk is out after it
  pub home_ran : (now : CoreView) (log : List HubEntry) (m n : ℕ) → lent_at (led_to core.plan turns) m ≡ Some (m + 1) → 0 < n
      → ActsAll (design core.plan) core.plan.cycles (theory_of core) (runs n m) (theory_of now)
      → Adds (Ran (m + 1) m n) (history_of core.plan turns) log → HasNoDesk m log
  home_ran now log m n lent some acts added =
      let at = led_to core.plan turns in
      let next = ran_fits (design core.plan) core.plan.cycles at (m + 1) m n (after_ran at m (theory_of now)) (
        lent,
        some,
        subst (λ (x : Core ModuleState). ActsAll (design core.plan) core.plan.cycles x (runs n m) (theory_of now))
            k.matches.core_is acts,
        refl,
      ) in (
        core.plan,
        after_ran at m (theory_of now),
        stands_more core.plan (history_of core.plan turns) log at (after_ran at m (theory_of now)) (Ran (m + 1) m n)
            (kept_stands core turns out short capacity k) next added,
        λ still. let z = sym (set_none at.lent_to m) ∙ still in cc,
      )

  -- ---- a turn that times

  pub kept_timed : (now : CoreView) (more : List HubTurn) (room n : ℕ) → now.plan ≡ core.plan → now.lent ≡ core.lent
      → turned_by core.plan (led_to core.plan turns) (Timed 0 n) ≡ Some (after_timed (led_to core.plan turns) (theory_of now))
      → more ≡ turns ++ Timed 0 n ∷ [] → length turns + (out + 2) ≤ room → short ≡ false → KeepsTurns now more out short room
  kept_timed now more room n plan runs_now next added enough memory =
      let spared = ap spare memory in
      let longer = ap length added ∙ length-append turns (Timed 0 n ∷ []) in
      kept_next core turns out short capacity k now more out short room (Timed 0 n) (after_timed (led_to core.plan turns) (theory_of now))
      plan added (omega arith) next (timed_matches core out short (led_to core.plan turns) k.matches now plan runs_now) (omega arith)
