-- A step that the graph shows is the one that is held.
use Rattle.std.proofs.Common.{◌≡◌, sym, ap, ap₂, subst, ◌∙◌, ℕ, zero, suc, ◌+◌, ◌-◌, ◌<◌, ◌≤◌, ◌^◌, List, ◌∷◌, length, drop, arith, None}
use Rattle.std.proofs.Common.{Some, inl, inr, Option, slice_get, slice_index_or}
use Rattle.std.proofs.lemmas.Option.{get_or_from_slice_get, slice_get-get_or, slice_get_past}
use Rattle.std.proofs.{lemmas.Bool.cases_lt, lemmas.List.get_or_past}
use Rattle.std.specs.Prelude.{All, position, unwrap_or}
use Rattle.cycle_changes.specs.{Access, Step, Lane, lane_at, IsAccess, is_waiting, clocks_of, latest, cycle_unless, log_at, Design, step_of}
use Rattle.cycle_changes.specs.{no_step, emitted_of, flags_by, flags_of, core_of, found_flags, query_bound, IsSound, queries_before}
use Rattle.cycle_changes.specs.{previous_cycle, looked}
use Rattle.engine_view.specs.Held.{Held}
use Rattle.engine_view.proofs.{Emitted.queries_mono, Knowing.shown_inside}

pub step_is : (h : Held) (m k : ℕ) (step : Step) → slice_get (lane_at h.lanes m).steps k ≡ Some step → step_of h m k ≡ step
step_is h m k step there = get_or_from_slice_get (lane_at h.lanes m).steps k step no_step there

module _ (h : Held) (m k : ℕ) (step : Step) (xs : List Access) (t : step_of h m k ≡ step) (a : xs ≡ step.accesses) where
  accesses_are : (step_of h m k).accesses ≡ xs
  accesses_are = ap (λ (s : Step). s.accesses) t ∙ sym a

  flags_are : flags_of h m k ≡ flags_by xs (drop step.first_query (log_at h.logs m).outcomes)
  flags_are = ap₂ (λ (ys : List Access) (n : ℕ). flags_by ys (drop n (log_at h.logs m).outcomes)) accesses_are
      (ap (λ (s : Step). s.first_query) t)

  -- its outcomes are found where those of the accesses that the graph shows are
  pub found_held : (c : ℕ) → flags_by xs (drop step.first_query (log_at h.logs m).outcomes) ≡ found_flags h.lanes h.channels c xs
      → found_flags h.lanes h.channels c (step_of h m k).accesses ≡ flags_of h m k
  found_held c e = ap (found_flags h.lanes h.channels c) accesses_are ∙ (sym e ∙ sym flags_are)

  pub held_found : (c : ℕ) → found_flags h.lanes h.channels c (step_of h m k).accesses ≡ flags_of h m k
      → flags_by xs (drop step.first_query (log_at h.logs m).outcomes) ≡ found_flags h.lanes h.channels c xs
  held_found c e = sym flags_are ∙ (sym e ∙ ap (found_flags h.lanes h.channels c) accesses_are)

  looked_by : looked h m k
      ≡ cycle_unless (position (is_waiting h.lanes h.channels) xs)
      (latest ((previous_cycle (lane_at h.lanes m) k + step.gap) ∷ clocks_of h.lanes h.channels xs))
  looked_by =
      ap (λ (s : Step). cycle_unless (position (is_waiting h.lanes h.channels) s.accesses)
      (latest ((previous_cycle (lane_at h.lanes m) k + s.gap) ∷ clocks_of h.lanes h.channels s.accesses))) t
      ∙ sym (ap (λ (ys : List Access). cycle_unless (position (is_waiting h.lanes h.channels) ys)
      (latest ((previous_cycle (lane_at h.lanes m) k + step.gap) ∷ clocks_of h.lanes h.channels ys))) a)

  -- the cycle that it is to have
  pub looked_at : (before cycle : ℕ) → before ≡ previous_cycle (lane_at h.lanes m) k
      → position (is_waiting h.lanes h.channels) xs ≡ None
      → cycle ≡ latest ((before + step.gap) ∷ clocks_of h.lanes h.channels xs) → Some cycle ≡ looked h m k
  looked_at before cycle e none is =
      ap (λ (n : ℕ). Some n) (is ∙ ap (λ (n : ℕ). latest ((n + step.gap) ∷ clocks_of h.lanes h.channels xs)) e)
      ∙ (sym (ap (λ (o : Option ℕ). cycle_unless o
      (latest ((previous_cycle (lane_at h.lanes m) k + step.gap) ∷ clocks_of h.lanes h.channels xs))) none) ∙ sym looked_by)

  pub not_looked : (i : ℕ) → position (is_waiting h.lanes h.channels) xs ≡ Some i → None ≡ looked h m k
  not_looked i waits =
      sym (ap (λ (o : Option ℕ). cycle_unless o
      (latest ((previous_cycle (lane_at h.lanes m) k + step.gap) ∷ clocks_of h.lanes h.channels xs))) waits) ∙ sym looked_by

  module _ {S : Type 0} (d : Design S) (y : IsSound d h) (l : k < emitted_of h m) where
    pub inside : All (IsAccess h.channels) xs
    inside = subst (All (IsAccess h.channels)) accesses_are (shown_inside d h (core_of d h) y m k l)

    -- the number of its last query can be reckoned with
    pub few : queries_before h m (emitted_of h m) < query_bound → length step.accesses < 2 ^ 32
        → step.first_query + length xs < 2 ^ 64
    few q n =
        let f = y.first_query m k l in
        let f' = ap (λ (s : Step). s.first_query) t in
        let a' = ap (λ (ys : List Access). length ys) a in
        omega (arith, queries_mono h m k (emitted_of h m) (omega arith))

got : (xs : List ℕ) (k : ℕ) → unwrap_or (slice_get xs k) 0 ≡ slice_index_or xs k 0
got xs k =
    elim (cases_lt k (length xs)) [
      | inl l ↦ ap (λ (o : Option ℕ). unwrap_or o 0) (slice_get-get_or xs k 0 l)
      | inr l ↦ ap (λ (o : Option ℕ). unwrap_or o 0) (slice_get_past xs k l) ∙ sym (get_or_past xs k 0 l)
    ]

-- the cycle of the step before one that is not the first
pub before_is : (lane : Lane) (k j : ℕ) → 1 ≤ k → j ≡ k - 1 → unwrap_or (slice_get lane.cycles j) 0 ≡ previous_cycle lane k
before_is lane zero j l e = absurd (omega arith)
before_is lane (suc k) j l e =
    let same : j ≡ k = omega arith in
    ap (λ (n : ℕ). unwrap_or (slice_get lane.cycles n) 0) same ∙ got lane.cycles k
