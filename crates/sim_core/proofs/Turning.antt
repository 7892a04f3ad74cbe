-- What the calls of an engine do to a core: cycles and answers.
use Rattle.std.proofs.Common.{◌≡◌, refl, sym, ap, ap₂, subst, ◌∙◌, ℕ, zero, suc, ◌+◌, ◌-◌, ◌*◌, ◌<◌, inl, inr, Bool, true, false, cond, ltb}
use Rattle.std.proofs.Common.{◌&&◌, List, length, get_or, Option, None, Some, arith}
use Rattle.std.proofs.lemmas.Bool.{cases_Bool, both_ways, lt-ltb}
use Rattle.std.proofs.{lemmas.List.get_or_past, lemmas.Bool.Decides.nat_tests}
use Rattle.std.proofs.lemmas.Option.{get_or_from_slice_get, slice_get-get_or, slice_get_within}
use Rattle.std.specs.Prelude.{slice_get}
use Rattle.sim_core.specs.{Plan, ModuleState, ModuleRun, lane_at, Candidate, log_at, determined_cycle, IsEarliest, Guard, determined}
use Rattle.sim_core.specs.{Design, IsDesign, first_accesses, view, sum_to, candidate, known_of, all_decided, Acts, MayAssign, MayAnswer}
use Rattle.sim_core.specs.{MayEarliest, IsOpen, IsQuiet, IsFinal, IsDetermined, design, Timing, IsKept, Engine, held_in, kinds_in, no_step}
use Rattle.sim_core.specs.{emitted_of, step_of, are_among, core_of, HasTimed, HasAnswered, KeepsRoom, HasUnsure, IsSomeCore, first_of}
use Rattle.sim_core.specs.{left_of, left, CoreView, AreUnreadIn, IsCore, HasTurned, HasAnsweredLeast, DueModules, SetHasRoom, AreCandidates}
use Rattle.sim_core.specs.{AreListed, IsCandidate, IsListed, declared.unread.Unread.Unread}
use Rattle.event_graph.specs.declared.candidate.Candidate.TheVariants.{At, Nothing}
use Rattle.event_timing.specs.{Core.Core, Actions.Action.Assign, Actions.Action.Answer, Actions.Action.Earliest}
use Rattle.event_timing.proofs.{Assigning.put_at_same, Answering.first_emitted, Deciding.determined_inside}
use Rattle.timing_bridge.proofs.{History.plan_is_design, Apart.answered_assigns}
use Rattle.engine_view.specs.declared.turn.Timing.TheVariants.{Assigned, Answered, Differs}
use Rattle.engine_view.specs.Held.{Held}
use Rattle.engine_view.proofs.Bounds.{candidate_is}
use Rattle.sim_core.proofs.{Keeping.core_acted, Keeping.kept_of, Keeping.same_end, Leaving.unread_acted}
use Rattle.outcome_guard.specs.declared.guard.Guard.TheVariants as guard
use Rattle.engine_view.specs.declared.turn.Timing.TheVariants as turn

-- ---- what is left to do is read off the core

left_by : {S : Type 0} → Core S → ℕ → ℕ
left_by {S} x m = 2 * (x.emitted m - x.timed m) + cond {A = ℕ} (ltb (x.timed m) (x.emitted m)) (cond {A = ℕ} (x.verified m (x.timed m)) 0 1)
    0

left_is : {S : Type 0} (d : Design S) (h : Held) (m : ℕ) → left_of h m ≡ left_by (core_of d h) m
unfolding left_of left_by
left_is {S} d h m =
    let past = get_or_past (lane_at h.lanes m).steps (first_of h m) no_step in grind (arith, nat_tests)

sum_same : (f g : ℕ → ℕ) (n : ℕ) → ((m : ℕ) → f m ≡ g m) → sum_to f n ≡ sum_to g n
unfolding sum_to
sum_same f g zero e = refl
sum_same f g (suc n) e = ap₂ (λ (a b : ℕ). a + b) (sum_same f g n e) (e n)

-- where less is left, the core is another
pub changed : {S : Type 0} (d : Design S) (s t : Engine) → length t.graph.lanes ≡ length s.graph.lanes → left t < left s
    → core_of d (held_in t) ≡ core_of d (held_in s) → ⊥
unfolding left
changed {S} d s t same less e =
    let each : (m : ℕ) → left_of (held_in t) m ≡ left_of (held_in s) m = λ m.
    left_is d (held_in t) m ∙ (ap (λ (x : Core S). left_by x m) e ∙ sym (left_is d (held_in s) m)) in
    let sums = sum_same (left_of (held_in t)) (left_of (held_in s)) (length t.graph.lanes) each in
    let counts = ap (sum_to (left_of (held_in s))) same in
    absurd (omega arith)

-- ---- what a call asks, and leaves

module _ {p : Plan} {s : Engine} {runs : List (Option ModuleRun)} (k : IsCore p s runs) where
  abbrev d : Design ModuleState
  d = design p

  is_design : IsDesign d
  is_design = plan_is_design p k.fits

  kept : IsKept d (held_in s)
  kept = kept_of k

  pub some_core : IsSomeCore s
  some_core = (d, is_design, kept, k.room)

  -- the lists that the view has
  abbrev seen : Engine → List Bool → CoreView
  seen u lent = record { plan = p; held = held_in u; lent = lent }

  -- ---- a turn

  module _ (t : Engine) where
    same_core : t ≡ s → IsCore p t runs
    same_core e = rw e k

    pub core_timed : (m : ℕ) (r : Timing) → HasTimed r p.cycles m s t → KeepsRoom s t
        → kinds_in t.fifos.channels ≡ kinds_in s.fifos.channels
        → IsCore p t runs
    core_timed m (Assigned c) done room kinds =
        let leads = (done d is_design kept).1 in
        core_acted k t (Assign m) leads.acts leads.kept.sound kinds (rw room.credits refl)
        (room.room d is_design kept k.room) (λ n run e. tt) (λ n mark e. inl (same_end s t room.ends n mark e))
    core_timed m (Answered c) done room kinds =
        let leads = (done d is_design kept).1 in
        core_acted k t (Answer m) leads.acts leads.kept.sound kinds (rw room.credits refl)
        (room.room d is_design kept k.room) (λ n run e. tt) (λ n mark e. inl (same_end s t room.ends n mark e))
    core_timed m (Differs q) (e, f) room kinds = same_core e
    core_timed m turn.Nothing (e, f) room kinds = same_core e

    pub unread_timed : (m : ℕ) (r : Timing) (unread : List Unread) → HasTimed r p.cycles m s t → AreUnreadIn p s unread
        → AreUnreadIn p t unread
    unread_timed m (Assigned c) unread done are =
        unread_acted p s runs k unread are (Assign m) (core_of d (held_in t)) (done d is_design kept).1.acts
    unread_timed m (Answered c) unread done are =
        unread_acted p s runs k unread are (Answer m) (core_of d (held_in t)) (done d is_design kept).1.acts
    unread_timed m (Differs q) unread (e, f) are = rw e are
    unread_timed m turn.Nothing unread (e, f) are = rw e are

    -- after an answer the step may be given its cycle
    next_assigns : (m c : ℕ) → MayAnswer d p.cycles (core_of d (held_in s)) m c
        → Acts d p.cycles (core_of d (held_in s)) (Answer m) (core_of d (held_in t))
        → (core_of d (held_in t) ≡ core_of d (held_in s) → ⊥) → MayAssign d p.cycles (core_of d (held_in t)) m c
    next_assigns m c may (e, found, inl (same, is)) changed =
        let there = may.determined.at in
        let there_too = found.determined.at in
        let one : e ≡ c = cc in
        rw (is, one) (answered_assigns d p.cycles (core_of d (held_in s)) m c may.determined)
    next_assigns m c may (e, found, inr (other, is)) changed = absurd (changed is)

    pub turned : (m : ℕ) (r : Timing) (lent : List Bool) → HasTimed r p.cycles m s t
        → ((c : ℕ) → r ≡ Answered c → core_of d (held_in t) ≡ core_of d (held_in s) → ⊥)
        → HasTurned r (seen s lent) m (seen t lent)
    turned m (Assigned c) lent done other = (done d is_design kept).1.acts
    turned m (Answered c) lent done other =
        let (may, leads) = done d is_design kept in
        (leads.acts, other c refl, next_assigns m c may leads.acts (other c refl))
    turned m (Differs q) lent (e, f) other = (ap (λ (u : Engine). seen u lent) e, f d is_design kept)
    turned m turn.Nothing lent (e, f) other = (ap (λ (u : Engine). seen u lent) e, f d is_design kept)

  -- ---- the least open step

  abbrev h : Held
  h = held_in s

  abbrev x : Core ModuleState
  x = core_of d h

  determined_is : (m c : ℕ) → determined h.lanes h.channels m ≡ Some c → candidate d (view d x) m ≡ Some c
  determined_is m c e = sym (candidate_is d is_design h k.sound m) ∙ e

  -- a candidate that is listed is what the engine would find
  pub listed_found : (due : DueModules) (candidates : List Candidate) → AreListed p x due candidates → (n : ℕ) → n < length h.lanes
      → IsListed due n → IsCandidate h.lanes h.channels p.cycles n (get_or candidates n Nothing)
  listed_found due candidates are n l listed cycle =
      let lanes = k.sound.lanes in
      let (to, from) = are.right n (omega arith) listed cycle in (
        λ e. let there = to e in (candidate_is d is_design h k.sound n ∙ there.at, there.below),
        λ (at, below). from (record { at = determined_is n cycle at; below = below }),
      )

  emitted_there : (m c : ℕ) → candidate d (view d x) m ≡ Some c → m < length h.lanes
  emitted_there m c e =
      let inside = determined_inside d x k.agreed.marks.inside m c e in
      let same = k.sound.lanes in omega arith

  module _ (quiet : IsQuiet d p.cycles x) where
    open_at : (m c : ℕ) → candidate d (view d x) m ≡ Some c → c < p.cycles → IsOpen d p.cycles x m c
    open_at m c e l =
        let now : IsDetermined d p.cycles x m c = record { at = e; below = l } in
        elim (cases_Bool (x.verified m (x.timed m))) [
          | inl v ↦ absurd (quiet.no_assign m c (record { determined = now; verified = v }))
          | inr v ↦ elim (cases_Bool (all_decided (known_of d (view d x) m) (first_accesses (view d x) m))) [
            | inl q ↦ absurd (quiet.no_answer m c (record { determined = now; open_query = v; decided = q }))
            | inr q ↦ record { determined = now; open_query = v; undecided = q }
          ]
        ]

    module _ (candidates : List Candidate) (count : length candidates ≡ length h.lanes)
        (all : AreCandidates h.lanes h.channels p.cycles (length h.lanes) candidates) where
      at_of : (m c : ℕ) → slice_get candidates m ≡ Some (At c) → m < length h.lanes → (candidate d (view d x) m ≡ Some c) × (c < p.cycles)
      at_of m c e l =
          let (is, below) = (all m c l).0 (get_or_from_slice_get candidates m (At c) Nothing e) in
          (determined_is m c is, below)

      none_open : ((m : ℕ) (c : Candidate) → m < length candidates → determined_cycle (get_or candidates m c) ≡ None) → (n e : ℕ)
          → IsOpen d p.cycles x n e → ⊥
      none_open none n e o =
          let inside = emitted_there n e o.determined.at in
          let at : get_or candidates n Nothing ≡ At e = (all n e inside).1
          (candidate_is d is_design h k.sound n ∙ o.determined.at, o.determined.below) in
          let no : determined_cycle (At e) ≡ None = ap determined_cycle (sym at) ∙ none n Nothing (omega arith) in
          cc

      pub final_if : ((m : ℕ) (c : Candidate) → m < length candidates → determined_cycle (get_or candidates m c) ≡ None)
          → IsFinal d p.cycles x
      final_if none = record { quiet = quiet; no_earliest = λ n e may. none_open none n e may.open_step }

      -- so each candidate that stands for its module is right
      pub listed_anew : (due : DueModules) → SetHasRoom p due.unlisted → AreListed p x due candidates
      listed_anew due room = record {
        count = count ∙ k.sound.lanes;
        room = room;
        right = λ n l listed cycle.
            let lanes = k.sound.lanes in
            let (to, from) = all n cycle (omega arith) in (
              λ e. let there = to e in record { at = determined_is n cycle there.0; below = there.1 },
              λ there. from (candidate_is d is_design h k.sound n ∙ there.at, there.below),
            );
      }

      -- the candidate of an open step
      open_there : (n e : ℕ) → IsOpen d p.cycles x n e → slice_get candidates n ≡ Some (At e)
      open_there n e o =
          let inside = emitted_there n e o.determined.at in
          slice_get-get_or candidates n Nothing (omega arith)
          ∙ ap Some ((all n e inside).1 (candidate_is d is_design h k.sound n ∙ o.determined.at, o.determined.below))

      module _ {m c : ℕ} (first : IsEarliest candidates m c) where
        least_inside : m < length h.lanes
        least_inside = let within = slice_get_within candidates m (At c) first.here in omega arith

        here_is : (candidate d (view d x) m ≡ Some c) × (c < p.cycles)
        here_is = at_of m c first.here least_inside

        pub least_may : MayEarliest d p.cycles x m c
        least_may = record {
          open_step = open_at m c here_is.0 here_is.1;
          quiet = quiet;
          least = λ n e o. first.least n e (open_there n e o);
        }

        pub least_first : (n : ℕ) → n < m → (e : ℕ) → MayEarliest d p.cycles x n e → ⊥
        least_first n l e may =
            let most = may.least m c least_may.open_step in
            let same : e ≡ c = let least = least_may.least n e may.open_step in omega arith in
            let m' = first.first n (subst (λ (q : ℕ). slice_get candidates n ≡ Some (At q)) same (open_there n e may.open_step)) in
            omega arith

  -- ---- the answer to an open step

  module _ {m c : ℕ} (may : MayEarliest d p.cycles x m c) where
    emitted : first_of h m < emitted_of h m
    emitted = first_emitted d x m c may.open_step.determined.at

    pub open_unsure : HasUnsure (held_in s) m
    open_unsure = record {
      inside = emitted_there m c may.open_step.determined.at;
      there = emitted;
      unsure = among_false (ltb (first_of h m) (emitted_of h m)) (are_among (step_of h m (first_of h m)) (log_at h.logs m).verified)
          (lt-ltb (first_of h m) (emitted_of h m) emitted) may.open_step.open_query;
    }
      where
        among_false : (a b : Bool) → a ≡ true → (a && b) ≡ false → b ≡ false
        among_false a b e f = cc

    module _ (t : Engine) where
      pub core_answered : (g : Guard) → HasAnswered g m c s t → KeepsRoom s t → kinds_in t.fifos.channels ≡ kinds_in s.fifos.channels
          → IsCore p t runs
      core_answered guard.Same done room kinds =
          let a = done d is_design kept in
          core_acted k t (Earliest m) (c, may, inl (a.same, a.now.core)) a.now.kept.sound kinds
          (rw room.credits refl) (room.room d is_design kept k.room) (λ n run e. tt) (λ n mark e. inl (same_end s t room.ends n mark e))
      core_answered (guard.Differs q) (e, f) room kinds = same_core t e

      pub unread_answered : (g : Guard) (unread : List Unread) → HasAnswered g m c s t → AreUnreadIn p s unread
          → AreUnreadIn p t unread
      unread_answered guard.Same unread done are =
          let a = done d is_design kept in
          unread_acted p s runs k unread are (Earliest m) (core_of d (held_in t)) (c, may, inl (a.same, a.now.core))
      unread_answered (guard.Differs q) unread (e, f) are = rw e are

      pub open_answered : (g : Guard) (lent : List Bool) → HasAnswered g m c s t
          → HasAnsweredLeast (Some (m, g)) (seen s lent) (seen t lent)
      open_answered guard.Same lent done =
          let a = done d is_design kept in (
            (c, may, inl (a.same, a.now.core)),
            λ e.
                let now : x.verified m (x.timed m) ≡ true = ap (λ (q : Core ModuleState). q.verified m (x.timed m)) (sym e ∙ a.now.core)
                ∙ put_at_same x.verified m (x.timed m) true in
                both_ways _ may.open_step.open_query now,
          )
      open_answered (guard.Differs q) lent (e, f) =
          (ap (λ (u : Engine). seen u lent) e, record { cycle = c; may = may; found = f d is_design kept })
