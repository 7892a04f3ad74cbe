-- A query that is found to be another is another in the history.
use Rattle.std.proofs.Common.{◌≡◌, refl, sym, ap, ap₂, ◌∙◌, ℕ, zero, suc, ◌+◌, ◌<◌, Bool, false, List, [], ◌∷◌, length, map, take, drop}
use Rattle.std.proofs.Common.{Option, Some, arith}
use Rattle.std.proofs.lemmas.Bool.Decides.{nat_tests}
use Rattle.std.proofs.lemmas.Option.{get_or_from_slice_get, slice_get_within, slice_get-get_or}
use Rattle.std.specs.Prelude.{All, slice_get}
use Rattle.retime.specs.{is_blocking, side_of, Access, Kind, log_at, Query, Design, IsDesign, Trace, IsHistory, is_possible, core_tally}
use Rattle.retime.specs.{view, new_flags, IsAgreed, possible_all, step_of, emitted_of, seen, queries_in, possible_by, flags_by, core_of}
use Rattle.retime.specs.{IsSound, queries_before, IsDifferent, first_of, IsOtherInHistory}
use Rattle.event_timing.specs.Core.{Core}
use Rattle.event_timing.proofs.{Agreement.answer_found, Answering.first_emitted, Fronts.agrees}
use Rattle.event_timing.proofs.Candidate.{candidate_done, candidate_steps}
use Rattle.engine_view.specs.Held.{Held}
use Rattle.event_timing.specs.Machines as theory

-- ---- lists

get_drop : (n j : ℕ) (os : List Bool) → slice_get (drop n os) j ≡ slice_get os (n + j)
get_drop zero j os = let z : 0 + j ≡ j = omega arith in ap (slice_get os) (sym z)
get_drop (suc n) j [] = refl
get_drop (suc n) j (o ∷ os) = let z : suc n + j ≡ suc (n + j) = omega arith in rw z (get_drop n j os)

all_at : {A : Type 0} (P : A → Type 0) (xs : List A) (i : ℕ) (a : A) → All P xs → slice_get xs i ≡ Some a → P a
all_at {A} P xs i a f e = rw (get_or_from_slice_get xs i a a e) at (f i a (slice_get_within xs i a e))

-- ---- the queries of a step

-- a query is one of those of its step
among_queries : (xs : List Access) (place : ℕ) (a : Access) → slice_get xs place ≡ Some a → is_blocking a.kind ≡ false
    → queries_in (take place xs) < queries_in xs
among_queries [] place a at q = cc
among_queries (x ∷ xs) zero a at q = grind arith
among_queries (x ∷ xs) (suc place) a at q = let later = among_queries xs place a at q in grind arith

-- its flag is told by the outcome of its number
flag_at : (xs : List Access) (os : List Bool) (place : ℕ) (a : Access) → slice_get xs place ≡ Some a → is_blocking a.kind ≡ false
    → slice_get (flags_by xs os) place ≡ Some (possible_by a.kind (slice_get os (queries_in (take place xs))))
flag_at [] os place a at q = cc
flag_at (x ∷ xs) os zero a at q = grind arith
flag_at (x ∷ xs) os (suc place) a at q =
    let here = flag_at xs os place a at q in
    let later = flag_at xs (drop 1 os) place a at q in
    let next = get_drop 1 (queries_in (take place xs)) os in
    grind arith

-- and the history tells whether it is possible
possible_at : {S : Type 0} (d : Design S) (y : Trace S) (c : ℕ) (xs : List Access) (place : ℕ) (a : Access)
    → slice_get xs place ≡ Some a
    → slice_get (possible_all d y c (map seen xs)) place ≡ Some (is_possible d y c (side_of a.kind) a.channel)
possible_at {S} d y c [] place a at = cc
possible_at {S} d y c (x ∷ xs) zero a at = grind arith
possible_at {S} d y c (x ∷ xs) (suc place) a at = possible_at d y c xs place a at

-- ---- the query that differs

module _ {S : Type 0} (d : Design S) (y : Trace S) (i : IsDesign d) (w : IsHistory d y) (limit : ℕ) (h : Held) (s : IsSound d h)
    (g : IsAgreed d y limit (core_of d h)) (q : Query) (n : IsDifferent d limit h q.module q) where
  abbrev x : Core S
  x = core_of d h

  abbrev k : ℕ
  k = first_of h q.module

  abbrev accesses : List Access
  accesses = (step_of h q.module k).accesses

  abbrev outcomes : List Bool
  outcomes = (log_at h.logs q.module).outcomes

  abbrev place : ℕ
  place = n.found.other.place

  abbrev access : Access
  access = n.found.other.access

  emitted : k < emitted_of h q.module
  emitted = first_emitted d x q.module n.cycle n.may.determined.at

  number : q.number ≡ queries_before h q.module k + queries_in (take place accesses)
  number = n.found.other.number ∙ ap (λ (f : ℕ). f + queries_in (take place accesses)) (s.first_query q.module k emitted)

  ordinal : q.ordinal ≡ suc (core_tally d x q.module (side_of q.kind) q.channel k)
  ordinal =
      n.found.other.ordinal
      ∙ (all_at (λ (a : Access). a.ordinal ≡ suc (core_tally d x q.module (side_of a.kind) a.channel k)) accesses place access
      (s.ordinals q.module k emitted) n.found.other.is
      ∙ ap₂ (λ (kind : Kind) (channel : ℕ). suc (core_tally d x q.module (side_of kind) channel k)) (sym n.found.other.kind)
      (sym n.found.other.channel))

  -- its outcome is recorded
  there : q.number < length outcomes
  there =
      let few = among_queries accesses place access n.found.other.is n.found.other.query in
      let is = n.found.other.number in
      let recorded = n.found.recorded in
      grind (arith, nat_tests)

  outcome : (b : Bool) × (slice_get outcomes q.number ≡ Some b)
  outcome = (_, slice_get-get_or outcomes q.number false there)

  -- the flag that is recorded, and the one that is found
  flag_recorded : slice_get (x.flags q.module k) place ≡ Some (possible_by q.kind (Some outcome.0))
  flag_recorded =
      let first = (step_of h q.module k).first_query in
      flag_at accesses (drop first outcomes) place access n.found.other.is n.found.other.query
      ∙ (ap (λ (o : Option Bool). Some (possible_by access.kind o)) (get_drop first (queries_in (take place accesses)) outcomes
      ∙ (ap (slice_get outcomes) (sym n.found.other.number) ∙ outcome.1))
      ∙ ap (λ (kind : Kind). Some (possible_by kind (Some outcome.0))) (sym n.found.other.kind))

  flag_found : slice_get (new_flags d x q.module n.cycle) place ≡ Some (is_possible d y n.cycle (side_of q.kind) q.channel)
  flag_found =
      ap (λ (fs : List Bool). slice_get fs place) (answer_found d y i w limit x g q.module n.cycle n.may
      ∙ ap (λ (as' : List theory.Access). possible_all d y n.cycle as') (s.accesses q.module k emitted))
      ∙ (possible_at d y n.cycle accesses place access n.found.other.is
      ∙ ap₂ (λ (kind : Kind) (channel : ℕ). Some (is_possible d y n.cycle (side_of kind) channel)) (sym n.found.other.kind)
      (sym n.found.other.channel))

  pub other_in_history : IsOtherInHistory d y h q
  other_in_history =
      let seen_by = agrees d y limit x g.marks g.time in
      record {
        clock = n.cycle;
        step = (
          candidate_steps d y i w (view d x) seen_by q.module n.cycle n.may.determined.at,
          candidate_done d y i w (view d x) seen_by q.module n.cycle n.may.determined.at,
        );
        place = place;
        query = record {
          access = access;
          is = n.found.other.is;
          asks = n.found.other.query;
          kind = n.found.other.kind;
          channel = n.found.other.channel;
          number = number;
          ordinal = ordinal;
        };
        outcome = outcome.0;
        recorded = outcome.1;
        differs = λ same. n.found.other.differs (flag_recorded ∙ (ap Some same ∙ sym flag_found));
      }
