-- What a run's counts, the log and the table tell of its mail is what the core tells.
use Rattle.std.proofs.Common.{◌≡◌, refl, sym, ap, ap₂, subst, ◌∙◌, ℕ, suc, ◌<◌, ◌≤◌, Bool, false, not, cond, inl, inr, List, [], ◌∷◌}
use Rattle.std.proofs.Common.{length, map, take, drop, arith}
use Rattle.std.proofs.lemmas.Bool.{cases_Bool}
use Rattle.sim_core.specs.{Access, is_blocking, Plan, Request, FitsEngine, Exchange, moved_by, access_of, queries, ModuleRun, place_in}
use Rattle.sim_core.specs.{done_in, StandsAt, popped_in, late_outcome, core_tally, AreOwnMarks, design, emitted_of, seen, queries_in}
use Rattle.sim_core.specs.{flags_by, core_of, IsSound, queries_before, kinds_in, Mail, values_on, IsMade, AreReaders, IsRestAfter}
use Rattle.sim_core.specs.{rest_after, kinds_of, requested_outcomes, values_to_come}
use Rattle.flow_word.specs.declared.access.Side.TheVariants.{Pop}
use Rattle.module_interp.proofs.Feeding.{owner_uses}
use Rattle.timing_bridge.proofs.Ordinals.{ordinals}
use Rattle.engine_view.specs.Held.{Held}
use Rattle.sim_core.proofs.{Marking.moved_before, Marking.queries_done, Marking.table_count, Resting.rest_is}
use Rattle.sim_core.proofs.Reading.{past, own_values, others_values, read_on, read_none}
use Rattle.engine_report.proofs.Asking.{same_kind}
use Rattle.timing_bridge.specs.Designs as bridge

-- ---- outcomes

turned : (late o : Bool) → cond late (not (cond late (not o) o)) (cond late (not o) o) ≡ o
turned late o = grind arith

asked : (r : Request) (rs : List Request) (a : Access) (xs : List Access) (os : List Bool) → r.kind ≡ a.kind → is_blocking a.kind ≡ false
    → suc (queries_in xs) ≤ length os
    → ((os' : List Bool) → queries_in xs ≤ length os' → take (queries_in xs) os' ≡ requested_outcomes rs (flags_by xs os'))
    → take (suc (queries_in xs)) os ≡ requested_outcomes (r ∷ rs) (flags_by (a ∷ xs) os)
asked r rs a xs [] e k l more = absurd (omega arith)
asked r rs a xs (o ∷ os) e k l more =
    let later = more os (omega arith) in
    let same = turned (late_outcome a.kind) o in grind arith

-- the outcomes from a step's first query on are those by its flags, where all are recorded
pub outcomes_read : (rs : List Request) (xs : List Access) (os : List Bool) → map bridge.seen_request rs ≡ map seen xs
    → queries_in xs ≤ length os
    → take (queries_in xs) os ≡ requested_outcomes rs (flags_by xs os)
outcomes_read [] [] os e l = refl
outcomes_read [] (a ∷ xs) os e l = cc
outcomes_read (r ∷ rs) [] os e l = cc
outcomes_read (r ∷ rs) (a ∷ xs) os e l =
    let kind = same_kind r a cc in
    elim (cases_Bool (is_blocking a.kind)) [
      | inl k ↦ let later = outcomes_read rs xs os (cc) (grind arith) in grind arith
      | inr k ↦ let enough : suc (queries_in xs) ≤ length os = grind arith in
          let first = asked r rs a xs os kind k enough (λ os' y. outcomes_read rs xs os' (cc) y) in grind arith
    ]

-- ---- counts

pub asked_same : (before : List Exchange) (rs : List Request) (xs : List Access) → map bridge.seen_request rs ≡ map seen xs
    → queries_in (map (access_of before) rs) ≡ queries_in xs
asked_same before [] [] e = refl
asked_same before [] (a ∷ xs) e = cc
asked_same before (r ∷ rs) [] e = cc
asked_same before (r ∷ rs) (a ∷ xs) e =
    let kind = same_kind r a cc in
    let more = asked_same before rs xs cc in grind arith

-- after n steps of a core
module _ (p : Plan) (f : FitsEngine p) (h : Held) (table : kinds_in h.channels ≡ kinds_of p) (s : IsSound (design p) h)
    (b : AreOwnMarks (design p) (core_of (design p) h)) (m : ℕ) (inside : m < length p.design.modules) (n : ℕ) (l : n ≤ emitted_of h m)
  where
    rest : IsRestAfter p (core_of (design p) h) m n (rest_after p (core_of (design p) h) m n)
    rest = rest_is p f (core_of (design p) h) b m inside n n (omega arith) l

    pub popped_is : (c : ℕ) → length (moved_by Pop c (done_in (rest_after p (core_of (design p) h) m n).steps)) ≡ core_tally (design p)
        (core_of (design p) h) m Pop c n
    popped_is c =
        ap (λ (e : List Exchange). length (moved_by Pop c e)) rest.done
        ∙ (ap (λ (vs : List ℕ). length vs) (moved_before p (core_of (design p) h) m Pop c n)
        ∙ sym (ordinals p (core_of (design p) h) b m Pop c n l))

    pub queries_are : length (queries (done_in (rest_after p (core_of (design p) h) m n).steps)) ≡ queries_before h m n
    queries_are = ap (λ (e : List Exchange). length (queries e)) rest.done ∙ queries_done p h s m n l

    module _ (readers : List ℕ) (r : AreReaders p readers) (run : ModuleRun)
        (st : StandsAt p m (rest_after p (core_of (design p) h) m n) run) (outcomes : List Bool) (first : ℕ) (xs : List Access)
        (mail : Mail) (made : IsMade outcomes h.channels readers m first run xs mail) where
      -- the mail has the channels that the module pops
      there : (c : ℕ) → (design p).owner Pop c ≡ m → place_in mail.channels c < length mail.channels
      there c e =
          subst (λ (cs : List ℕ). place_in cs c < length cs) (sym made.pops)
          (st.ports (record { side = Pop; channel = c }) (owner_uses p m inside (record { side = Pop; channel = c }) e))

      pub mine : (c : ℕ) → c < length p.design.channels → (design p).owner Pop c ≡ m
          → values_on mail c ≡ values_to_come p (core_of (design p) h) m n c
      mine c l e =
          let same = r.count in
          let all = table_count p h.channels table in
          let k : c < length readers = omega arith in
          read_on h.channels readers m (popped_in run) mail made.values c (there c e)
          ∙ (own_values h.channels readers m (popped_in run) c k (r.each c k ∙ e)
          ∙ ap₂ (λ (i : ℕ) (vs : List ℕ). drop i vs) (st.tally.popped_are c ∙ popped_is c) (s.values c (omega arith)))

      pub others : (c : ℕ) → ((design p).owner Pop c ≡ m → ⊥) → values_on mail c ≡ []
      others c e =
          read_none h.channels readers m (popped_in run) mail made.values c
          (others_values h.channels readers m (popped_in run) c (r.count ∙ sym (table_count p h.channels table))
          (λ k y. e (sym (r.each c k) ∙ y)))

      pub outside : (c : ℕ) → length p.design.channels ≤ c → values_on mail c ≡ []
      outside c l =
          read_none h.channels readers m (popped_in run) mail made.values c
          (past h.channels readers m (popped_in run) c (let all = table_count p h.channels table in omega arith))
