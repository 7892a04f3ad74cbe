-- A core that lends a run.
use Rattle.std.proofs.Common.{◌≡◌, refl, sym, ap, subst, ◌∙◌, ℕ, zero, suc, ◌<◌, ◌≤◌, true, false, cond, inl, inr, List, [], ◌∷◌, arith}
use Rattle.std.proofs.Common.{drop, length, get_or, set, Option, Some, None, is_none}
use Rattle.std.proofs.{lemmas.Bool.cases_Bool, lemmas.Bool.cond-true, lemmas.Bool.cond-false, lemmas.List.map-set}
use Rattle.sim_core.specs.{Access, Plan, ModuleState, Own, queries, ModuleRun, done_in, accesses_at, StandsAt, popped_in, waits, log_at}
use Rattle.sim_core.specs.{MayRun, core_tally, core_values, Begins, design, emitted_of, core_of, Engine, held_in, Mail, Task, values_on}
use Rattle.sim_core.specs.{IsMade, AreReaders, IsCore, IsRunOf, rest_after, lent_of, steps_committed, IsTaskOf, IsTaskLeft}
use Rattle.flow_word.specs.declared.access.Side.TheVariants.{Pop}
use Rattle.event_timing.specs.Core.{Core}
use Rattle.engine_view.specs.Held.{Held}
use Rattle.sim_core.proofs.{Posted.going_posted, Posted.waiting_posted, Sending.popped_is}
use Rattle.sim_core.proofs.Committed.{committed_waits, committed_goes}

-- ---- which are lent

pub lent_more : (rs : List (Option ModuleRun)) (m : ℕ) → lent_of (set rs m None) ≡ set (lent_of rs) m true
lent_more rs m = map-set is_none rs m None

pub not_lent : (rs : List (Option ModuleRun)) (m : ℕ) (run : ModuleRun) → get_or rs m None ≡ Some run → get_or (lent_of rs) m true ≡ false
not_lent [] m run e = cc
not_lent (r ∷ rs) zero run e = grind arith
not_lent (r ∷ rs) (suc m) run e = not_lent rs m run e

pub is_lent : (rs : List (Option ModuleRun)) (m : ℕ) → get_or rs m None ≡ None → get_or (lent_of rs) m true ≡ true
is_lent [] m e = refl
is_lent (r ∷ rs) zero e = grind arith
is_lent (r ∷ rs) (suc m) e = is_lent rs m e

-- ---- what was read

-- where a run is at hand, what it counted, and what it waits for
pub record IsAtHand (p : Plan) (s : Engine) (runs : List (Option ModuleRun)) (m : ℕ)
    (run : ModuleRun) (readers : List ℕ) (first : ℕ) (accesses : List Access) : Type 0 where
  pub core : IsCore p s runs
  pub inside : m < length p.design.modules
  pub may : MayRun (design p) (core_of (design p) (held_in s)) m
  pub run_is : IsRunOf p (core_of (design p) (held_in s)) m run
  pub readers_are : AreReaders p readers
  pub first_is : (q : Plan) (i : ℕ) (o : Own) → StandsAt q i o run → first ≡ length (queries (done_in o.steps))
  pub accesses_are : (q : Plan) (i : ℕ) (o : Own) → StandsAt q i o run → accesses ≡ cond (waits run) (accesses_at q i o) []

module _ {p : Plan} {s : Engine} {runs : List (Option ModuleRun)} {m : ℕ}
    {run : ModuleRun} {readers : List ℕ} {first : ℕ} {xs : List Access}
    (k : IsAtHand p s runs m run readers first xs) where
  abbrev h : Held
  h = held_in s

  pub task_lent : (mail : Mail) → IsMade (log_at h.logs m).outcomes h.channels readers m first run xs mail
      → IsTaskOf p (core_of (design p) h) m (record { run = run; mail = mail })
  task_lent mail made =
      elim (cases_Bool (waits run)) [
        | inl w ↦
            let (j, ej, st) = k.run_is.waiting w in
            let o = rest_after p (core_of (design p) h) m j in
            waiting_posted p k.core.fits h k.core.table k.core.sound k.core.agreed.marks m k.inside run k.run_is readers k.readers_are first
            xs mail made w j ej (k.accesses_are p m o st ∙ cond-true (waits run) (accesses_at p m o) [] w) (k.first_is p m o st) st k.may
        | inr w ↦
            let (answered, st) = k.run_is.going w in
            let o = rest_after p (core_of (design p) h) m (emitted_of h m) in
            going_posted p k.core.fits h k.core.table k.core.sound k.core.agreed.marks m k.inside run k.run_is readers k.readers_are first
            xs mail made w (k.accesses_are p m o st ∙ cond-false (waits run) (accesses_at p m o) [] w) st k.may
      ]

-- ---- what is left of a mail

module _ {p : Plan} {s : Engine} {runs : List (Option ModuleRun)}
    (k : IsCore p s runs) {m : ℕ} (inside : m < length p.design.modules) {last : Task}
    (t : IsTaskLeft p (core_of (design p) (held_in s)) m last) (c : ℕ) where
  abbrev x : Core ModuleState
  x = core_of (design p) (held_in s)

  count_at : (n : ℕ) → n ≤ x.emitted m → StandsAt p m (rest_after p x m n) last.run → steps_committed x m last.run ≡ n
      → popped_in last.run c ≡ core_tally (design p) x m Pop c (steps_committed x m last.run)
  count_at n most st e =
      st.tally.popped_are c
      ∙ (popped_is p k.fits (held_in s) k.table k.sound k.agreed.marks m inside n most c
      ∙ ap (core_tally (design p) x m Pop c) (sym e))

  -- the values that are left are the next ones after those that were popped
  pub left_next : Begins (drop (popped_in last.run c) (core_values (design p) x c)) (values_on last.mail c)
  left_next =
      subst (λ (n : ℕ). Begins (drop n (core_values (design p) x c)) (values_on last.mail c)) (sym (elim (cases_Bool (waits last.run)) [
        | inl w ↦ let (j, ej, st) = t.run.waiting w in
            count_at j (omega arith) st (committed_waits x m last.run w ∙ (omega arith))
        | inr w ↦ let (answered, st) = t.run.going w in count_at (x.emitted m) (omega arith) st (committed_goes x m last.run w)
      ])) (t.values c)
