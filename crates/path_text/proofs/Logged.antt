-- What is known of each access of a plan's log.
use Rattle.std.proofs.Common.{◌≡◌, ℕ, zero, suc, ◌+◌, ◌<◌, ◌≤◌, List, [], ◌∷◌, map, length, Bool, true, false, not, cond, refl, sym, ◌∙◌}
use Rattle.std.proofs.Common.{ap, subst, arith, get_or, zero-add}
use Rattle.std.proofs.lemmas.List.Concat.{flat_map-append}
use Rattle.std.specs.List.{flat_map, filter, enumerate_from, AllByRecursion}
use Rattle.path_text.specs.{Kind, side_of, Plan, Request, Reply, FitsEngine, ModuleState, is_yes, nobody, HistoryStep, Exchange}
use Rattle.path_text.specs.{contents_of, is_empty, can_take, front, reply, reply_by, requests_of, answered, step_with, module_step}
use Rattle.path_text.specs.{steps_in, state, state_at, Act, acts_in, acts_before, acts, last_clock, log_of, LoggedAccess, is_missed, misses}
use Rattle.path_text.specs.{access_clocks, moves_at, seeks}
use Rattle.flow_word.specs.declared.access.Kind.TheVariants.{Read, Write, TryRead, TryWrite, Empty, Full}
use Rattle.lockstep_defs.proofs.Queue.{all-append}
use Rattle.timelines.proofs.Acts.{acts-zero, acts-suc, early}
use Rattle.stall_text.proofs.Accesses.{logged_act, log_is, ActStands, all_stand, Climbs, climbs}
use Rattle.stall_text.proofs.Uses.{Owns}

-- ---- the operations of the history

-- what holds of each request of a module holds of each operation
module _ (p : Plan) (P : ℕ → ℕ → Request → Type 0) (each : (c m : ℕ) → AllByRecursion (P c m) (requests_of p (m, state_at p c m))) where
  -- the operation's module asked for it and moves in its clock, and it got the reply of that clock
  pub record IsDone (a : Act) : Type 0 where
    pub asked : P (a.0).clock (a.0).«module» (a.1).request
    pub moves : moves_at p (a.0).clock (a.0).«module» ≡ true
    pub replied : (a.1).reply ≡ reply p (a.0).clock (state p (a.0).clock).contents (a.1).request

  done_requests : (s : HistoryStep) → moves_at p s.clock s.«module» ≡ true → (rs : List Request) → AllByRecursion (P s.clock s.«module») rs
      → AllByRecursion IsDone (map (λ x. (s, x)) (map (answered p s.clock (state p s.clock).contents) rs))
  done_requests s h [] k = tt
  done_requests s h (r ∷ rs) k = (record { asked = k.0; moves = h; replied = refl }, done_requests s h rs k.1)

  done_with : (c m : ℕ) → moves_at p c m ≡ true → (rs : List Request) → AllByRecursion (P c m) rs
      → AllByRecursion IsDone (acts_in (step_with c m (map (answered p c (state p c).contents) rs)))
  done_with c m h [] k = tt
  done_with c m h (r ∷ rs) k =
      let s : HistoryStep = record { clock = c; «module» = m; exchanges = map (answered p c (state p c).contents) (r ∷ rs) } in
      all-append IsDone (map (λ x. (s, x)) s.exchanges) [] (done_requests s h (r ∷ rs) k) tt

  done_step : (c m : ℕ) (s : ModuleState) → s ≡ state_at p c m
      → AllByRecursion IsDone (acts_in (module_step p c (state p c).contents (m, s)))
  done_step c m s e =
      subst (λ (x : ModuleState). AllByRecursion IsDone (acts_in (module_step p c (state p c).contents (m, x)))) (sym e)
      (by_test (moves_at p c m) refl)
    where
      by_test : (b : Bool) → moves_at p c m ≡ b
          → AllByRecursion IsDone (acts_in (cond b (step_with c m (map (answered p c (state p c).contents)
          (requests_of p (m, state_at p c m)))) []))
      by_test true h = done_with c m h (requests_of p (m, state_at p c m)) (each c m)
      by_test false h = tt

  done_steps : (c n : ℕ) (ms : List ModuleState) → ((k : ℕ) → k < length ms → get_or ms k nobody ≡ state_at p c (n + k))
      → AllByRecursion IsDone (acts_in (flat_map (module_step p c (state p c).contents) (enumerate_from n ms)))
  done_steps c n [] h = tt
  done_steps c n (s ∷ ms) h =
      let first = module_step p c (state p c).contents (n, s) in
      let rest = flat_map (module_step p c (state p c).contents) (enumerate_from (n + 1) ms) in
      let here : n + 0 ≡ n = omega arith in
      subst (AllByRecursion IsDone) (sym (flat_map-append _ first rest))
      (all-append IsDone (acts_in first) (acts_in rest) (done_step c n s (h 0 (omega arith) ∙ ap (state_at p c) here))
      (done_steps c (n + 1) ms (λ k l.
      let next : n + suc k ≡ (n + 1) + k = omega arith in
      h (suc k) (omega arith) ∙ ap (state_at p c) next)))

  pub all_done : (c : ℕ) → AllByRecursion IsDone (acts_before p c)
  unfolding steps_in
  all_done zero = subst (AllByRecursion IsDone) (sym (acts-zero p)) tt
  all_done (suc c) =
      subst (AllByRecursion IsDone) (sym (acts-suc p c))
      (all-append IsDone (acts_before p c) (acts_in (steps_in p c (state p c))) (all_done c)
      (done_steps c 0 (state p c).modules (λ k l. ap (state_at p c) (sym (zero-add k)))))

  pub all_logged : (Q : LoggedAccess → Type 0) → ((a : Act) → IsDone a → Q (logged_act a)) → AllByRecursion Q (log_of p)
  unfolding acts
  all_logged Q f = subst (AllByRecursion Q) (sym (log_is p)) (on_each (acts p) (all_done (last_clock p)))
    where
      on_each : (done : List Act) → AllByRecursion IsDone done → AllByRecursion Q (map logged_act done)
      on_each [] h = tt
      on_each (a ∷ done) h = (f a h.0, on_each done h.1)

-- ---- an access

pub record IsTold (p : Plan) (a : LoggedAccess) : Type 0 where
  pub moves : moves_at p a.event.cycle a.event.«module» ≡ true
  pub below : a.event.cycle < last_clock p
  pub inside : a.event.channel < length p.design.channels
  pub owned : Owns p a
  -- a query that asks for an element is missed where the channel is empty
  pub missed : seeks a.event.kind ≡ true
      → is_missed a ≡ is_empty a.event.cycle (contents_of (state p a.event.cycle).contents a.event.channel)

seeking : (kind : Kind) (empty : Bool) (v : ℕ) (possible : Bool) → seeks kind ≡ true → possible ≡ not empty
    → misses kind (is_yes (reply_by kind possible v)) ≡ empty
seeking TryRead true v possible s e = rw e refl
seeking TryRead false v possible s e = rw e refl
seeking Empty true v possible s e = rw e refl
seeking Empty false v possible s e = rw e refl
seeking Read empty v possible s e = absurd cc
seeking Write empty v possible s e = absurd cc
seeking TryWrite empty v possible s e = absurd cc
seeking Full empty v possible s e = absurd cc

pops_there : (p : Plan) (c : ℕ) (kind : Kind) (f : ℕ) → seeks kind ≡ true
    → can_take p c (state p c).contents (side_of kind) f ≡ not (is_empty c (contents_of (state p c).contents f))
pops_there p c TryRead f s = refl
pops_there p c Empty f s = refl
pops_there p c Read f s = absurd cc
pops_there p c Write f s = absurd cc
pops_there p c TryWrite f s = absurd cc
pops_there p c Full f s = absurd cc

missed_is : (p : Plan) (c : ℕ) (x : Exchange) → x.reply ≡ reply p c (state p c).contents x.request → seeks x.request.kind ≡ true
    → misses x.request.kind (is_yes x.reply) ≡ is_empty c (contents_of (state p c).contents x.request.channel)
unfolding reply
missed_is p c x e s =
    let r = x.request in
    let here = (state p c).contents in
    ap (λ (y : Reply). misses r.kind (is_yes y)) e
    ∙ seeking r.kind (is_empty c (contents_of here r.channel)) (front (contents_of here r.channel))
    (can_take p c here (side_of r.kind) r.channel) s (pops_there p c r.kind r.channel s)

abbrev Any : ℕ → ℕ → Request → Type 0
Any c m r = Unit {0}

any_all : (c m : ℕ) (rs : List Request) → AllByRecursion (Any c m) rs
any_all c m [] = tt
any_all c m (r ∷ rs) = (tt, any_all c m rs)

abbrev anything : (p : Plan) → (c m : ℕ) → AllByRecursion (Any c m) (requests_of p (m, state_at p c m))
anything p c m = any_all c m (requests_of p (m, state_at p c m))

told_acts : (p : Plan) (done : List Act) → AllByRecursion (IsDone p Any (anything p)) done
    → AllByRecursion (λ (a : Act). (a.0).clock < last_clock p) done → AllByRecursion (ActStands p) done
    → AllByRecursion (IsTold p) (map logged_act done)
told_acts p [] h k s = tt
told_acts p (a ∷ done) h k s = (
  record {
    moves = (h.0).moves;
    below = k.0;
    inside = (s.0).in_range;
    owned = (s.0).owned;
    missed = missed_is p (a.0).clock a.1 (h.0).replied;
  },
  told_acts p done h.1 k.1 s.1,
)

pub log_told : (p : Plan) → FitsEngine p → AllByRecursion (IsTold p) (log_of p)
unfolding acts
log_told p fits = subst (AllByRecursion (IsTold p)) (sym (log_is p))
    (told_acts p (acts p) (all_done p Any (anything p) (last_clock p)) (early p (last_clock p)) (all_stand p fits (last_clock p)))

-- ---- in order of time

abbrev pub Orderly : List LoggedAccess → Type 0
Orderly [] = Unit {0}
Orderly (a ∷ log) = AllByRecursion (λ b. a.event.cycle ≤ b.event.cycle) log × Orderly log

abbrev every : LoggedAccess → Bool
every a = true

all_later : (c : ℕ) (log : List LoggedAccess) → AllByRecursion (λ x. c ≤ x) (access_clocks (filter every log))
    → AllByRecursion (λ b. c ≤ b.event.cycle) log
all_later c [] h = tt
all_later c (a ∷ log) h = (h.0, all_later c log h.1)

orderly : (log : List LoggedAccess) → Climbs (access_clocks (filter every log)) → Orderly log
orderly [] h = tt
orderly (a ∷ log) h = (all_later a.event.cycle log h.0, orderly log h.1)

pub log_orderly : (p : Plan) → Orderly (log_of p)
unfolding acts
log_orderly p = subst Orderly (sym (log_is p)) (orderly (map logged_act (acts p)) (climbs p every (last_clock p)))
