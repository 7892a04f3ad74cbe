-- How a core begins.
use Rattle.std.proofs.Common.{◌≡◌, refl, sym, ap, subst, ◌∙◌, ℕ, suc, ◌+◌, ◌<◌, Bool, true, false, List, [], ◌∷◌, ◌++◌, length, map, get_or}
use Rattle.std.proofs.Common.{Option, Some, None, arith, inl, inr, is_none, is_some, length-append, zero, not, ◌&&◌, replicate, set}
use Rattle.std.proofs.{lemmas.List.FromFn.get_or-map-range_with_len, lemmas.List.FromFn.length-map-range_with_len, lemmas.Bool.cases_lt}
use Rattle.std.proofs.{lemmas.Bool.cases_Bool, lemmas.Bool.both_ways, lemmas.Bool.Decides.eqb_tells, Math.Seq.get_or-append_seam}
use Rattle.std.proofs.lemmas.List.{get_or_past, get_or_append_left, get_or-map, get_or-set_other, length-replicate, length-set}
use Rattle.std.specs.Prelude.{All, IfSome, slice_index, slice_index_or}
use Rattle.sim_core.specs.{Side, same_side, Plan, Advance, ChannelKind, FitsEngine, AreEntriesSound, is_fifo, kind_at, cut_to, ModuleRun}
use Rattle.sim_core.specs.{first_rest, StandsAt, waits, rest_at, width_of, Own, contents_of, values, element_from, inputs_of, opening}
use Rattle.sim_core.specs.{moment, state, Lane, no_lane, no_log, TableChannel, IsSoundKind, unused, values_of, lag_of, opening_core}
use Rattle.sim_core.specs.{IsAgreed, design, lockstep_run, is_source, lag_in, emitted_of, core_of, IsSound, IsKind, opening_held, AreKinds}
use Rattle.sim_core.specs.{HasRoom, Engine, held_in, over_of, kinds_in, IsCore, IsRunOf, rest_after, lent_of, kind_by, kind_in, kinds_of}
use Rattle.sim_core.specs.{source_values, AreFirstRuns, AreLeft, AreOlderRuns}
use Rattle.flow_word.specs.declared.access.Side.TheVariants.{Pop, Push}
use Rattle.fifo_table.specs.declared.channel.TableChannel.TheVariants.{Sink}
use Rattle.event_timing.proofs.Agreement.{opening_agrees}
use Rattle.timing_bridge.proofs.History.{plan_is_design, run_is_history}
use Rattle.engine_view.specs.Held.{Held}
use Rattle.engine_view.proofs.{Opened.opening_core_is, Opened.copy_at, Roomy.room_opening}
use Rattle.sim_core.proofs.Keeping.{over_at}
use Rattle.flow_design.specs.declared.design.ChannelKind.TheVariants as plan

pub runs_none : (p : Plan) → AreFirstRuns p [] 0
runs_none p = record { count = refl; some = λ m l. absurd (omega arith); each = λ m run e. cc }

pub runs_more : (p : Plan) (runs next : List (Option ModuleRun)) (n : ℕ) (run : ModuleRun) → AreFirstRuns p runs n
    → next ≡ runs ++ Some run ∷ [] → StandsAt p n (first_rest p n) run → waits run ≡ false
    → AreFirstRuns p next (n + 1)
runs_more p runs next n run r e stands quiet = record {
  count = ap (λ (q : List (Option ModuleRun)). length q) e ∙ (length-append runs (Some run ∷ []) ∙ (let c = r.count in omega arith));
  some = λ m l.
      elim (cases_lt m n) [
        | inl u ↦ ap (λ (q : List (Option ModuleRun)). is_none (get_or q m None)) e
            ∙ (ap is_none (get_or_append_left runs (Some run ∷ []) None m (let c = r.count in omega arith)) ∙ r.some m u)
        | inr u ↦
            let same : m ≡ length runs = let c = r.count in omega arith in
            ap (λ (q : List (Option ModuleRun)). is_none (get_or q m None)) e
            ∙ (ap (λ (k : ℕ). is_none (get_or (runs ++ Some run ∷ []) k None)) same
            ∙ ap is_none (get_or-append_seam runs (Some run) [] None))
      ];
  each = λ m other there. by m other (ap (λ (q : List (Option ModuleRun)). get_or q m None) (sym e) ∙ there);
}
  where
    by : (m : ℕ) (other : ModuleRun) → get_or (runs ++ Some run ∷ []) m None ≡ Some other → StandsAt p m (first_rest p m) other
        × (waits other ≡ false)
    by m other there =
        let c = r.count in
        elim (cases_lt m n) [
          | inl l ↦ r.each m other (sym (get_or_append_left runs (Some run ∷ []) None m (omega arith)) ∙ there)
          | inr l ↦
              elim (cases_lt n m) [
                | inl u ↦
                    let none = get_or_past (runs ++ Some run ∷ []) m None (let k = length-append runs (Some run ∷ []) in omega arith) in
                    absurd cc
                | inr u ↦
                    let same : m ≡ n = omega arith in
                    let last = get_or-append_seam runs (Some run) [] None in
                    let is : run ≡ other = grind arith in rw (same, ← is) (stands, quiet)
              ]
        ]

-- ---- older runs

pub all_left : (runs : List (Option ModuleRun)) → AreLeft runs runs
all_left runs = record { count = refl; each = λ m run e. e }

gone : (runs : List (Option ModuleRun)) (m : ℕ) → get_or (set runs m None) m None ≡ None
gone [] m = refl
gone (r ∷ rs) zero = refl
gone (r ∷ rs) (suc m) = gone rs m

-- without the one at a place
pub left_without : (runs left next : List (Option ModuleRun)) (m : ℕ) → AreLeft runs left → next ≡ set left m None → AreLeft runs next
left_without runs left next m l e = record {
  count = ap (λ (q : List (Option ModuleRun)). length q) e ∙ (length-set left m None ∙ l.count);
  each = λ n run there.
      let at : get_or (set left m None) n None ≡ Some run = ap (λ (q : List (Option ModuleRun)). get_or q n None) (sym e) ∙ there in
      elim (eqb_tells n m) [
        | inl u ↦
            let none = gone left m in
            let same = u.1 in absurd cc
        | inr u ↦ l.each n run (sym (get_or-set_other left m n None None u.1) ∙ at)
      ];
}

-- what is found at a place is an older run
pub older_at : (p : Plan) (runs left : List (Option ModuleRun)) (m : ℕ) (found : Option ModuleRun) → AreOlderRuns p runs → AreLeft runs left
    → found ≡ get_or left m None → IfSome found (λ run. (o : Own) × StandsAt p m o run)
older_at p runs left m None older l e = tt
older_at p runs left m (Some run) older l e = older m run (l.each m run (sym e))

-- the runs of a core
pub core_runs : (p : Plan) (s : Engine) (runs : List (Option ModuleRun))
    → IsCore p s runs → AreOlderRuns p runs
core_runs p s runs c m run there =
    let x = core_of (design p) (held_in s) in
    let is : IsRunOf p x m run = c.runs_are m run there in
    elim (cases_Bool (waits run)) [
      | inl w ↦ let (k, e, stands) = is.waiting w in (rest_after p x m k, stands)
      | inr w ↦ (rest_after p x m (x.emitted m), (is.going w).1)
    ]

-- ---- the channels

-- the values of inputs are the inputs
values_cut : (f : ℕ → ℕ) (xs : List ℕ) → values (map (λ v. element_from 0 (f v)) xs) ≡ map f xs
values_cut f [] = refl
values_cut f (x ∷ xs) = ap (λ (ys : List ℕ). f x ∷ ys) (values_cut f xs)

module _ (p : Plan) (fits : FitsEngine p) where
  module _ (c : ℕ) (l : c < length p.design.channels) where
    contents : values (contents_of (state p 0).contents c) ≡ source_values p c
    unfolding moment opening
    contents =
        ap values (get_or-map-range_with_len (inputs_of p) 0 (length p.design.channels) c c [] l (omega arith))
        ∙ values_cut (cut_to (width_of p.design.channels c)) (slice_index_or p.inputs c [])

    entries : (k : ChannelKind) → kind_at p c ≡ k → AreEntriesSound k (slice_index_or p.inputs c []) (slice_index p.depths c)
    entries k e = subst (λ (q : ChannelKind). AreEntriesSound q (slice_index_or p.inputs c []) (slice_index p.depths c)) e
        (fits.channels c l).entries

    no_inputs : slice_index_or p.inputs c [] ≡ [] → source_values p c ≡ []
    no_inputs e = ap (λ (xs : List ℕ). map (cut_to (width_of p.design.channels c)) xs) e

    never_closed : is_source (kind_at p c) ≡ false → (side : Side) → (same_side side Pop && is_source (kind_at p c)) ≡ false
    never_closed e Pop = e
    never_closed e Push = refl

    kind_is : (k : ChannelKind) → kind_at p c ≡ k → IsKind (design p) c (kind_by k (source_values p c) (slice_index p.depths c))
    kind_is plan.Source e = (ap (λ (xs : List ℕ). length xs) contents, ap is_source e)
    kind_is plan.Sink e = ap (λ (q : ChannelKind). not (is_fifo q)) e
    kind_is (plan.Fifo declared delay) e = (
      ap (λ (q : ChannelKind). not (is_fifo q)) e,
      refl,
      ap (λ (xs : List ℕ). length xs)
          (contents ∙ no_inputs (entries (plan.Fifo declared delay) e).0),
      never_closed (ap is_source e),
    )

    values_are : (k : ChannelKind) → kind_at p c ≡ k → values_of (kind_by k (source_values p c) (slice_index p.depths c))
        [] ≡ (design p).inputs c
    values_are plan.Source e = sym contents
    values_are plan.Sink e = sym (contents ∙ no_inputs (entries plan.Sink e).0)
    values_are (plan.Fifo declared delay) e = sym (contents ∙ no_inputs (entries (plan.Fifo declared delay) e).0)

    lag_is : (side : Side) (k : ChannelKind) → kind_at p c ≡ k → lag_in p side c ≡ lag_of
        (kind_by k (source_values p c) (slice_index p.depths c)) side
    lag_is Pop k e = grind arith
    lag_is Push k e = grind arith

    sound_is : (k : ChannelKind) → kind_at p c ≡ k → IsSoundKind (kind_by k (source_values p c) (slice_index p.depths c))
    sound_is plan.Source e = tt
    sound_is plan.Sink e = tt
    sound_is (plan.Fifo declared delay) e = let s = entries (plan.Fifo declared delay) e in (s.1, s.2, s.3, s.4)

    at : get_or (kinds_of p) c Sink ≡ kind_in p c
    at = get_or-map-range_with_len (kind_in p) 0 (length p.design.channels) c c Sink l (omega arith)

  pub kinds_length : length (kinds_of p) ≡ length p.design.channels
  kinds_length = length-map-range_with_len (kind_in p) 0 (length p.design.channels)

  kinds_fit : AreKinds (design p) (kinds_of p)
  kinds_fit = record {
    each = λ c l. let u = kinds_length in
        subst (IsKind (design p) c) (sym (at c (omega arith))) (kind_is c (omega arith) (kind_at p c) refl);
    values = λ c l. let u = kinds_length in
        ap (λ (k : TableChannel). values_of k []) (at c (omega arith)) ∙ values_are c (omega arith) (kind_at p c) refl;
    lags = λ side c l. let u = kinds_length in
        lag_is c (omega arith) side (kind_at p c) refl ∙ ap (λ (k : TableChannel). lag_of k side) (sym (at c (omega arith)));
  }

  pub kinds_sound : (xs : List TableChannel) → xs ≡ kinds_of p → All IsSoundKind xs
  kinds_sound xs e = λ k d l.
      let u = kinds_length in
      let m = ap (λ (ys : List TableChannel). length ys) e in
      subst IsSoundKind (sym (ap (λ (ys : List TableChannel). get_or ys k d) e
      ∙ get_or-map-range_with_len (kind_in p) 0 (length p.design.channels) k k d (omega arith) (omega arith)))
      (sound_is k (omega arith) (kind_at p k) refl)

  -- ---- the core

  module _ (n : ℕ) (count : n ≡ length p.design.modules) where
    abbrev h : Held
    h = opening_held n (kinds_of p)

    agreed : IsAgreed (design p) (lockstep_run p) p.cycles (opening_core (design p))
    agreed = opening_agrees (design p) (lockstep_run p) (plan_is_design p fits) (run_is_history p fits) p.cycles

    pub begins : (core_of (design p) h ≡ opening_core (design p)) × IsSound (design p) h
    begins = opening_core_is (design p) n (kinds_of p) count kinds_fit agreed.marks

    none_emitted : (m : ℕ) → emitted_of h m ≡ 0
    none_emitted m = ap (λ (l : Lane). length l.steps) (copy_at n m no_lane)

    first_run : (m : ℕ) (run : ModuleRun) → StandsAt p m (first_rest p m) run → waits run ≡ false → IsRunOf p (core_of (design p) h) m run
    unfolding rest_at
    first_run m run stands quiet = record {
      waiting = λ w. absurd (both_ways _ quiet w);
      going = λ q. (
        (λ k s. absurd (let z = none_emitted m in omega arith)),
        subst
            (λ (k : ℕ). StandsAt p m (rest_after p (core_of (design p) h) m k) run) (sym (none_emitted m)) stands,
      );
      over = λ o. quiet;
    }

    no_end : (ends : List (Option Advance)) → over_of ends ≡ replicate n false → (m : ℕ) (mark : Advance) → get_or ends m None ≡ Some mark
        → ⊥
    no_end ends e m mark there =
        let over : get_or (over_of ends) m false ≡ true = over_at ends m ∙ ap is_some there in
        let none : get_or (over_of ends) m false ≡ false = ap (λ (bs : List Bool). get_or bs m false) e ∙ copy_at n m false in
        both_ways _ none over

    pub core_begun : (s : Engine) (runs : List (Option ModuleRun))
        → h ≡ held_in s → over_of s.ends.items ≡ replicate n false → AreFirstRuns p runs n
        → s.credits.items ≡ replicate n 0 → IsCore p s runs
    core_begun s runs e over r none =
        let lanes : length s.graph.lanes ≡ n = ap (λ (q : Held). length q.lanes) (sym e) ∙ length-replicate n no_lane in
        let core : core_of (design p) (held_in s) ≡ opening_core (design p) = ap (core_of (design p)) (sym e) ∙ begins.0 in
        record {
          fits = fits;
          sound = subst (IsSound (design p)) e begins.1;
          agreed = subst (IsAgreed (design p) (lockstep_run p) p.cycles) (sym core) agreed;
          table = ap (λ (q : Held). kinds_in q.channels) (sym e) ∙ kinds_unused (kinds_of p);
          count = r.count ∙ sym lanes;
          counted = ap (λ (q : List ℕ). length q) none ∙ (length-replicate n 0 ∙ sym lanes);
          room = subst (λ (q : Held). HasRoom (design p) q s.graph.rooms s.fifos s.log.rooms s.credits.items) e
              (room_opening (design p) h s.graph.rooms s.fifos s.log.rooms s.credits.items none_emitted
              (λ m. ap (λ (q : List ℕ). get_or q m 0) none ∙ copy_at n m 0));
          runs_are = λ m run there. let z = r.each m run there in
              subst (λ (q : Held). IsRunOf p (core_of (design p) q) m run) e (first_run m run z.0 z.1);
          ends_are = λ m mark there. absurd (no_end s.ends.items over m mark there);
        }
      where
        kinds_unused : (ks : List TableChannel) → kinds_in (map unused ks) ≡ ks
        kinds_unused [] = refl
        kinds_unused (k ∷ ks) = ap (λ (qs : List TableChannel). k ∷ qs) (kinds_unused ks)

pub held_is : (n : ℕ) (kinds : List TableChannel) (g : Held) → g.lanes ≡ replicate n no_lane → g.channels ≡ map unused kinds
    → g.logs ≡ replicate n no_log → g.over ≡ replicate n false → opening_held n kinds ≡ g
held_is n kinds g a b c e = rw (a, b, c, e) refl

-- so many modules that have no end
pub none_over : (n : ℕ) → over_of (replicate n None) ≡ replicate n false
none_over zero = refl
none_over (suc n) = ap (λ (bs : List Bool). false ∷ bs) (none_over n)

pub not_lent : (p : Plan) (runs : List (Option ModuleRun)) (n m : ℕ) → AreFirstRuns p runs n → m < n → get_or (lent_of runs) m true ≡ false
not_lent p runs n m r l = get_or-map is_none runs m None true (let c = r.count in omega arith) ∙ r.some m l
