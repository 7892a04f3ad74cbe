-- A query that is found to be another makes the report's answers differ from the recorded ones.
use Rattle.std.proofs.Common.{◌≡◌, ◌≢◌, refl, sym, ap, ◌∙◌, ℕ, zero, suc, ◌+◌, ◌<◌, ◌≤◌, inl, inr, Bool, true, false, List, [], ◌∷◌, ◌++◌}
use Rattle.std.proofs.Common.{length, map, take, drop, get_or, Some, arith, append-nil}
use Rattle.std.proofs.{lemmas.Bool.cases_Bool, lemmas.Option.slice_get_within}
use Rattle.std.proofs.lemmas.List.{length-drop, length-map, length-take, take-append-drop}
use Rattle.std.specs.Prelude.{slice_get}
use Rattle.sim_core.specs.{is_blocking, Access, Kind, Plan, ModuleState, Request, HistoryStep, report, outcomes, log_at, Query, view}
use Rattle.sim_core.specs.{first_accesses, new_flags, IsAgreed, Known, candidate, flags_at, design, lockstep_run, outcome_when, outcomes_by}
use Rattle.sim_core.specs.{first_requests, IsNextInHistory, step_of, emitted_of, seen, queries_in, possible_by, flags_by, core_of, IsSound}
use Rattle.sim_core.specs.{queries_before, IsFoundOther, first_of}
use Rattle.event_timing.specs.Core.{Core}
use Rattle.event_timing.proofs.Answering.{first_emitted}
use Rattle.engine_view.specs.Held.{Held}
use Rattle.engine_report.proofs.Asking.{same_kind}
use Rattle.sim_core.proofs.Reported.{answers_next, next_recorded}
use Rattle.event_timing.specs.Machines as theory
use Rattle.timing_bridge.specs.Designs as bridge

-- ---- the outcomes of a step

-- what is possible tells the outcome, and the other way round
possible_back : (k : Kind) (b : Bool) → is_blocking k ≡ false → possible_by k (Some (outcome_when k b)) ≡ b
possible_back k b e = grind arith

-- two lists have other outcomes at this number
pub record AreOtherAt (j : ℕ) (os ps : List Bool) : Type 0 where
  pub one : Bool
  pub other : Bool
  pub here : slice_get os j ≡ Some one
  pub there : slice_get ps j ≡ Some other
  pub differ : one ≢ other

later : (o p : Bool) (j : ℕ) (os ps : List Bool) → AreOtherAt j os ps → AreOtherAt (suc j) (o ∷ os) (p ∷ ps)
later o p j os ps a = record { one = a.one; other = a.other; here = a.here; there = a.there; differ = a.differ }

abbrev IsOtherOf : List Access → List Request → Type 0
IsOtherOf as' rs = (os found : List Bool) (place : ℕ) (a : Access) → queries_in as' ≤ length os → slice_get as' place ≡ Some a
    → is_blocking a.kind ≡ false → length found ≡ length as' → slice_get (flags_by as' os) place ≢ slice_get found place
    → AreOtherAt (queries_in (take place as')) os (outcomes_by rs found)

one_blocks : (a : Access) (as' : List Access) (r : Request) (rs : List Request) → r.kind ≡ a.kind → is_blocking a.kind ≡ true
    → IsOtherOf as' rs
    → IsOtherOf (a ∷ as') (r ∷ rs)
one_blocks a as' r rs k b rest os [] place c l at q n d = absurd (omega arith)
one_blocks a as' r rs k b rest os (f ∷ found) zero c l at q n d = absurd (grind arith)
one_blocks a as' r rs k b rest os (f ∷ found) (suc place) c l at q n d =
    let front : queries_in (take (suc place) (a ∷ as')) ≡ queries_in (take place as') = rw b refl in
    let asked : outcomes_by (r ∷ rs) (f ∷ found) ≡ outcomes_by rs found = rw (ap is_blocking k ∙ b) refl in
    rw (front, asked) (rest os found place c (grind arith) at q (omega arith) (λ e. d (grind arith)))

one_asks : (a : Access) (as' : List Access) (r : Request) (rs : List Request) → r.kind ≡ a.kind → is_blocking a.kind ≡ false
    → IsOtherOf as' rs
    → IsOtherOf (a ∷ as') (r ∷ rs)
one_asks a as' r rs k b rest os [] place c l at q n d = absurd (omega arith)
one_asks a as' r rs k b rest [] (f ∷ found) place c l at q n d = absurd (grind arith)
one_asks a as' r rs k b rest (o ∷ os) (f ∷ found) zero c l at q n d =
    let asked : outcomes_by (r ∷ rs) (f ∷ found) ≡ outcome_when r.kind f ∷ outcomes_by rs found = rw (ap is_blocking k ∙ b) refl in
    rw asked (record {
      one = o;
      other = outcome_when r.kind f;
      here = refl;
      there = refl;
      differ = λ e. d (let back = possible_back a.kind f b in grind arith);
    })
one_asks a as' r rs k b rest (o ∷ os) (f ∷ found) (suc place) c l at q n d =
    let front : queries_in (take (suc place) (a ∷ as')) ≡ suc (queries_in (take place as')) = rw b refl in
    let asked : outcomes_by (r ∷ rs) (f ∷ found) ≡ outcome_when r.kind f ∷ outcomes_by rs found = rw (ap is_blocking k ∙ b) refl in
    rw (front, asked) (later o (outcome_when r.kind f) (queries_in (take place as')) os (outcomes_by rs found)
    (rest os found place c (grind arith) at q (omega arith) (λ e. d (grind arith))))

none : (rs : List Request) → IsOtherOf [] rs
none rs os found place a l at q n d = cc

other_of : (as' : List Access) (rs : List Request) → map bridge.seen_request rs ≡ map seen as' → IsOtherOf as' rs
other_of [] rs e = none rs
other_of (a ∷ as') [] e = cc
other_of (a ∷ as') (r ∷ rs) e =
    let kind = same_kind r a cc in
    let rest = other_of as' rs cc in
    elim (cases_Bool (is_blocking a.kind)) [
      | inl b ↦ one_blocks a as' r rs kind b rest
      | inr b ↦ one_asks a as' r rs kind b rest
    ]

-- ---- in the lists of all outcomes

after_same : (xs ys zs : List Bool) (j : ℕ) (v : Bool) → slice_get ys j ≡ Some v → slice_get (xs ++ (ys ++ zs)) (length xs + j) ≡ Some v
after_same [] ys zs j v e = let z : 0 + j ≡ j = omega arith in ap (slice_get (ys ++ zs)) z ∙ prepended ys zs j e
  where
    prepended : (ys zs : List Bool) (j : ℕ) → slice_get ys j ≡ Some v → slice_get (ys ++ zs) j ≡ Some v
    prepended [] zs j e = cc
    prepended (y ∷ ys) zs zero e = e
    prepended (y ∷ ys) zs (suc j) e = prepended ys zs j e
after_same (x ∷ xs) ys zs j v e =
    let z : length (x ∷ xs) + j ≡ suc (length xs + j) = omega arith in
    ap (slice_get (x ∷ (xs ++ (ys ++ zs)))) z ∙ after_same xs ys zs j v e

flag_count : (know : theory.Access → Known) (c : ℕ) (xs : List theory.Access) → length (flags_at know c xs) ≡ length xs
flag_count know c [] = refl
flag_count know c (a ∷ xs) = ap suc (flag_count know c xs)

module _ (p : Plan) (h : Held) (s : IsSound (design p) h) (g : IsAgreed (design p) (lockstep_run p) p.cycles (core_of (design p) h))
    (m c : ℕ) (inside : m < length h.logs) (q : Query) (found : IsFoundOther (design p) h m c q)
    (at : candidate (design p) (view (design p) (core_of (design p) h)) m ≡ Some c)
    (step : HistoryStep) (next : IsNextInHistory p (core_of (design p) h) m p.cycles step)
    (told : outcomes (step ∷ [])
    ≡ outcomes_by (first_requests p (core_of (design p) h) m) (new_flags (design p) (core_of (design p) h) m c)) where
  abbrev x : Core ModuleState
  x = core_of (design p) h

  abbrev k₀ : ℕ
  k₀ = first_of h m

  abbrev accesses : List Access
  accesses = (step_of h m k₀).accesses

  abbrev outs : List Bool
  outs = (log_at h.logs m).outcomes

  abbrev before : ℕ
  before = queries_before h m k₀

  emitted : k₀ < emitted_of h m
  emitted = first_emitted (design p) x m c at

  first_is : (step_of h m k₀).first_query ≡ before
  first_is = s.first_query m k₀ emitted

  enough : queries_in accesses ≤ length (drop before outs)
  enough = next_recorded p h s g m inside emitted found.recorded

  abbrev number : ℕ
  number = queries_in (take found.other.place accesses)

  abbrev asked : List Bool
  asked = outcomes_by (first_requests p x m) (new_flags (design p) x m c)

  -- among the outcomes of the step
  other : AreOtherAt number (drop before outs) asked
  other =
      let same = s.accesses m k₀ emitted in
      let count : length (new_flags (design p) x m c) ≡ length accesses =
      flag_count _ c (first_accesses (view (design p) x) m)
      ∙ (ap (λ (as' : List theory.Access). length as') same ∙ length-map accesses seen) in
      other_of accesses (first_requests p x m) same (drop before outs)
      (new_flags (design p) x m c) found.other.place found.other.access enough
      found.other.is found.other.query count
      (λ e. found.other.differs (ap (λ (n : ℕ). slice_get (flags_by accesses (drop n outs)) found.other.place) first_is ∙ e))

  most : before ≤ length outs
  most =
      let l = slice_get_within (drop before outs) number other.one other.here in
      let n = length-drop before outs in
      omega arith

  front_count : length (take before outs) ≡ before
  front_count = let n = length-take before outs in let l = most in omega arith

  -- the answers of the report
  answered : get_or (report p).answers m [] ≡ take before outs ++ (asked ++ outcomes next.later)
  answered = answers_next p h s g m inside step next ∙ ap (λ (os : List Bool). take before outs ++ (os ++ outcomes next.later)) told

  told_by : q.number ≡ before + number
  told_by = found.other.number ∙ ap (λ (n : ℕ). n + number) first_is

  other_at : AreOtherAt (before + number) outs (get_or (report p).answers m [])
  other_at =
      let n = front_count in
      let at_one = after_same (take before outs) (drop before outs) [] number other.one other.here in
      let at_other = after_same (take before outs) asked (outcomes next.later) number other.other other.there in
      let place : length (take before outs) + number ≡ before + number = omega arith in
      record {
        one = other.one;
        other = other.other;
        here = sym (ap (λ (xs : List Bool). slice_get xs (before + number))
            (ap (λ (ys : List Bool). take before outs ++ ys) (append-nil (drop before outs)) ∙ take-append-drop before outs))
            ∙ (ap (slice_get (take before outs ++ (drop before outs ++ []))) (sym place) ∙ at_one);
        there = ap (λ (xs : List Bool). slice_get xs (before + number)) answered
            ∙ (ap (slice_get (take before outs ++ (asked ++ outcomes next.later))) (sym place) ∙ at_other);
        differ = other.differ;
      }

  pub other_answer : AreOtherAt q.number outs (get_or (report p).answers m [])
  other_answer = rw told_by other_at
