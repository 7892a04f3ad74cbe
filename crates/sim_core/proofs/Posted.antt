-- A mail that was made for a run that may go on is one of a task of the core.
use Rattle.std.proofs.Common.{length-drop, ◌≡◌, sym, ap, ap₂, ◌∙◌, ℕ, suc, ◌+◌, ◌<◌, ◌≤◌, Bool, true, false, eqb, leb, ltb, ◌&&◌, ◌||◌, inl}
use Rattle.std.proofs.Common.{inr, List, [], length, map, take, drop, arith}
use Rattle.std.proofs.lemmas.Bool.{cond-true, cond-false, lt-ltb, leb-true, le-ltb}
use Rattle.std.proofs.lemmas.Bool.Decides.{eqb_tells}
use Rattle.sim_core.specs.{Access, Plan, ModuleState, FitsEngine, requests_of, access_of, queries, ModuleRun, done_in, accesses_at}
use Rattle.sim_core.specs.{StandsAt, waits, log_at, MayRun, AreOwnMarks, design, emitted_of, step_of, queries_in, core_of, IsSound}
use Rattle.sim_core.specs.{kinds_in, Mail, IsMade, AreReaders, IsRunOf, rest_after, kinds_of, outcomes_at, requested_outcomes}
use Rattle.sim_core.specs.{values_to_come, steps_committed, IsTaskOf}
use Rattle.event_timing.specs.Core.{Core}
use Rattle.engine_view.specs.Held.{Held}
use Rattle.sim_core.proofs.{Committed.committed_waits, Committed.committed_goes, Resting.rest_is}
use Rattle.sim_core.proofs.Sending.{outcomes_read, asked_same, queries_are, mine, others, outside}

-- ---- the outcomes that are needed are there

left_after : (first q : ℕ) (os : List Bool) → first + q ≤ length os → q ≤ length (drop first os)
left_after first q os l = let long = length-drop first os in omega arith

room_left : (e j q f : ℕ) (os : List Bool) → (ltb j e && (eqb q 0 || leb (f + q) (length os))) ≡ true → q ≤ length (drop f os)
room_left e j q f os t =
    elim (eqb_tells q 0) [
      | inl z ↦ let y = z.1 in omega arith
      | inr z ↦ let apart = z.0 in left_after f q os (leb-true (f + q) (length os) (grind arith))
    ]

-- ---- the task

module _ (p : Plan) (f : FitsEngine p) (h : Held) (table : kinds_in h.channels ≡ kinds_of p) (s : IsSound (design p) h)
    (b : AreOwnMarks (design p) (core_of (design p) h)) (m : ℕ) (inside : m < length p.design.modules)
    (run : ModuleRun) (r : IsRunOf p (core_of (design p) h) m run) (readers : List ℕ)
    (rd : AreReaders p readers) (first : ℕ) (xs : List Access) (mail : Mail)
    (made : IsMade (log_at h.logs m).outcomes h.channels readers m first run xs mail) where
  abbrev x : Core ModuleState
  x = core_of (design p) h

  abbrev IsPosted : Type 0
  IsPosted = IsTaskOf p x m (record { run = run; mail = mail })

  -- what is left to say where it is known how many steps are committed
  posted_at : (n : ℕ) → n ≤ emitted_of h m → steps_committed x m run ≡ n → StandsAt p m (rest_after p x m n) run → MayRun (design p) x m
      → mail.outcomes ≡ outcomes_at p x m n → IsPosted
  posted_at n l e st may outs = record {
    may = may;
    run = r;
    outcomes = outs ∙ sym (ap (outcomes_at p x m) e);
    popped = λ c k y. mine p f h table s b m inside n l readers rd run st (log_at h.logs m).outcomes first xs mail made c k y
        ∙ sym (ap (λ (k : ℕ). values_to_come p x m k c) e);
    others = λ c y. others p f h table s b m inside n l readers rd run st (log_at h.logs m).outcomes first xs mail made c y;
    outside = λ c k. outside p f h table s b m inside n l readers rd run st (log_at h.logs m).outcomes first xs mail made c k;
  }

  -- a run that waits for nothing
  pub going_posted : waits run ≡ false → xs ≡ [] → StandsAt p m (rest_after p x m (x.emitted m)) run → MayRun (design p) x m → IsPosted
  going_posted w none st may =
      posted_at (x.emitted m) (omega arith) (committed_goes x m run w) st may
      (made.told ∙ (ap (λ (as' : List Access). take (queries_in as') (drop first (log_at h.logs m).outcomes)) none
      ∙ sym (cond-false (ltb (x.emitted m) (x.emitted m)) (requested_outcomes (requests_of p (m, x.state m (x.emitted m)))
      (x.flags m (x.emitted m))) [] (le-ltb (x.emitted m) (x.emitted m) (omega arith)))))

  -- a run that waits at the newest step
  module _ (w : waits run ≡ true) (j : ℕ) (ej : suc j ≡ emitted_of h m) (asked : xs ≡ accesses_at p m (rest_after p x m j))
      (fe : first ≡ length (queries (done_in (rest_after p x m j).steps)))
      (st : StandsAt p m (rest_after p x m j) run) where
    here : steps_committed x m run ≡ j
    here = committed_waits x m run w ∙ (omega arith)

    count_is : queries_in xs ≡ queries_in (step_of h m j).accesses
    count_is =
        let g = rest_is p f x b m inside j j (omega arith) (omega arith) in
        let state : (rest_after p x m j).state ≡ x.state m j = g.state ∙ sym (b.own_step m j (omega arith)) in
        let before = done_in (rest_after p x m j).steps in
        ap (λ (as' : List Access). queries_in as') asked
        ∙ (ap (λ (z : ModuleState). queries_in (map (access_of before) (requests_of p (m, z)))) state
        ∙ asked_same before (requests_of p (m, x.state m j)) (step_of h m j).accesses (s.accesses m j (omega arith)))

    first_is : first ≡ (step_of h m j).first_query
    first_is = fe ∙ (queries_are p f h table s b m inside j (omega arith) ∙ sym (s.first_query m j (omega arith)))

    outcomes_are : x.answered m j ≡ true → mail.outcomes ≡ outcomes_at p x m j
    outcomes_are t =
        let os = (log_at h.logs m).outcomes in
        let step = step_of h m j in
        let rs = requests_of p (m, x.state m j) in
        made.told
        ∙ (ap₂ (λ (q n : ℕ). take q (drop n os)) count_is first_is
        ∙ (outcomes_read rs step.accesses (drop step.first_query os) (s.accesses m j (omega arith))
        (room_left (emitted_of h m) j (queries_in step.accesses) step.first_query os t)
        ∙ sym (cond-true (ltb j (x.emitted m)) (requested_outcomes rs (x.flags m j)) [] (lt-ltb j (x.emitted m) (omega arith)))))

    pub waiting_posted : MayRun (design p) x m → IsPosted
    waiting_posted may = posted_at j (omega arith) here st may (outcomes_are (may.answered j ej))
