-- With cycles forgotten, another depth and outcomes assumed, what is held is the core from which a retiming begins.
use Rattle.std.proofs.Common.{◌≡◌, refl, sym, subst, ◌∙◌, ℕ, zero, suc, ◌<◌, ◌≤◌, min, true, false, cond, eqb, ltb, nat_lt, ◌&&◌, ◌||◌}
use Rattle.std.proofs.Common.{List, [], ◌∷◌, length, filter, get_or, arith, inl, inr}
use Rattle.std.proofs.lemmas.Bool.{cases_lt, lt-ltb, le-ltb, ne_eqb}
use Rattle.std.proofs.lemmas.Bool.Decides.{eqb_tells, nat_tests}
use Rattle.std.proofs.lemmas.List.{get_or_past, get_or_default, get_or-set_same, get_or-set_other, length-set, length-map}
use Rattle.std.proofs.{lemmas.List.Kept.AllPairs-from_increasing, Math.ListN.get_or-map, lemmas.List.Elements.All-map}
use Rattle.std.specs.{Prelude.All, Prelude.AllPairs, List.Sorted.IsStrictlyIncreasing}
use Rattle.engine_view.specs.{side_of, Side, Step, Place, Access, Lane, no_lane, lane_at, timed_below, log_at, kept, kept_cycle, edited}
use Rattle.engine_view.specs.{after_edit, Design, core_values, AreOwnMarks, step_of, emitted_of, queries_in, are_among, has_all, values_at}
use Rattle.engine_view.specs.{core_of, AreWhole, queries_before, ShowsCore, IsSound, IsKind, AreTaken, IsCut, Pushed, TableChannel, Channel}
use Rattle.engine_view.specs.{places_of, IsFifo, channel_at, unused, values_of, lag_of, deepened, HasSide, IsAccess, HasAccesses, Held.Held}
use Rattle.flow_word.specs.declared.access.Side.TheVariants.{Pop, Push}
use Rattle.event_graph.proofs.Growth.{none_pass}
use Rattle.event_timing.specs.Core.{Core}
use Rattle.engine_view.proofs.{Answered.queries_step, Answered.steps_only, Emitted.queries_mono, Emitted.has_query_is, Knowing.timed_within}
use Rattle.engine_view.proofs.{Placing.places_from, Reading.IsRead, Reading.read_sound}
use Rattle.fifo_table.specs.declared.channel.TableChannel.TheVariants.{Sink, Fifo}
use Rattle.event_timing.proofs.Editing.{edit_marks, kept_le}

-- ---- the cycles that stay

abbrev below_t : ℕ → List ℕ → List ℕ
below_t t xs = filter (λ c. nat_lt c t) xs

-- they are the prefix
record IsFront (t : ℕ) (xs : List ℕ) (front : List ℕ) : Type 0 where
  within : length front ≤ length xs
  same : (k : ℕ) → k < length front → get_or front k 0 ≡ get_or xs k 0
  less : (k : ℕ) → k < length front → get_or xs k 0 < t
  rest : (k : ℕ) → length front ≤ k → k < length xs → t ≤ get_or xs k 0

front_is : (t : ℕ) (xs : List ℕ) → AllPairs (λ x y. x < y) xs → IsFront t xs (below_t t xs)
front_is t [] r = record {
  within = omega arith;
  same = λ k l. absurd (omega arith);
  less = λ k l. absurd (omega arith);
  rest = λ k l u. absurd (omega arith);
}
front_is t (x ∷ xs) r =
    let tail = front_is t xs (λ i j d l h. r (suc i) (suc j) d (omega arith) (omega arith)) in
    elim (cases_lt x t) [
      | inl l ↦ let first : nat_lt x t ≡ true = lt-ltb x t l in rw first (longer l tail)
      | inr l ↦ let later = λ (k : ℕ) (u : k < length xs). r 0 (suc k) 0 (omega arith) (omega arith) in rw (dropped l later) (none l later)
    ]
  where
    dropped : t ≤ x → ((k : ℕ) → k < length xs → x < get_or xs k 0) → below_t t (x ∷ xs) ≡ []
    dropped l later =
        let e : nat_lt x t ≡ false = le-ltb x t l in
        rw e (none_pass (λ c. nat_lt c t) xs (λ k d u. le-ltb (get_or xs k d) t (let v = later k u in let w = get_or_default xs k d 0 u in
        omega arith)))

    same : x < t → IsFront t xs (below_t t xs) → (k : ℕ) → k < suc (length (below_t t xs))
        → get_or (x ∷ below_t t xs) k 0 ≡ get_or (x ∷ xs) k 0
    same l f zero u = refl
    same l f (suc k) u = f.same k (omega arith)

    less : x < t → IsFront t xs (below_t t xs) → (k : ℕ) → k < suc (length (below_t t xs)) → get_or (x ∷ xs) k 0 < t
    less l f zero u = l
    less l f (suc k) u = f.less k (omega arith)

    rest : x < t → IsFront t xs (below_t t xs) → (k : ℕ) → suc (length (below_t t xs)) ≤ k → k < suc (length xs) → t ≤ get_or (x ∷ xs) k 0
    rest l f zero u v = absurd (omega arith)
    rest l f (suc k) u v = f.rest k (omega arith) (omega arith)

    longer : x < t → IsFront t xs (below_t t xs) → IsFront t (x ∷ xs) (x ∷ below_t t xs)
    longer l f = record { within = let w = f.within in omega arith; same = same l f; less = less l f; rest = rest l f }

    all : t ≤ x → ((k : ℕ) → k < length xs → x < get_or xs k 0) → (k : ℕ) → k < suc (length xs) → t ≤ get_or (x ∷ xs) k 0
    all l later zero v = l
    all l later (suc k) v = let w = later k (omega arith) in omega arith

    none : t ≤ x → ((k : ℕ) → k < length xs → x < get_or xs k 0) → IsFront t (x ∷ xs) []
    none l later = record {
      within = omega arith;
      same = λ k u. absurd (omega arith);
      less = λ k u. absurd (omega arith);
      rest = λ k u v. all l later k v;
    }

kept_0 : (f : ℕ → ℕ) (t : ℕ) → kept f t 0 ≡ 0
unfolding kept
kept_0 f t = refl

kept_more : (f : ℕ → ℕ) (t n : ℕ) → kept f t (suc n) ≡ cond (ltb (f n) t) (suc n) (kept f t n)
unfolding kept
kept_more f t n = refl

kept_is : (f : ℕ → ℕ) (t n p : ℕ) → p ≤ n → ((k : ℕ) → k < p → f k < t) → ((k : ℕ) → p ≤ k → k < n → t ≤ f k) → kept f t n ≡ p
kept_is f t zero p l a b = let none = kept_0 f t in omega arith
kept_is f t (suc n) p l a b =
    let more = kept_more f t n in
    let later = kept_is f t n p in
    let low = a n in
    let high = b n in
    grind (arith, nat_tests)

-- as many as the theory keeps, with their cycles and 0 after them
pub timed_kept : (t : ℕ) (xs : List ℕ) → IsStrictlyIncreasing xs → length (below_t t xs) ≡ kept (λ k. get_or xs k 0) t (length xs)
timed_kept t xs r =
    let f = front_is t xs (AllPairs-from_increasing xs r) in
    sym (kept_is (λ k. get_or xs k 0) t (length xs) (length (below_t t xs)) f.within f.less f.rest)

pub cycles_kept : (t : ℕ) (xs : List ℕ) → IsStrictlyIncreasing xs → (k : ℕ)
    → get_or (below_t t xs) k 0 ≡ kept_cycle (λ j. get_or xs j 0) t (length xs) k
cycles_kept t xs r k =
    let f = front_is t xs (AllPairs-from_increasing xs r) in
    let e = timed_kept t xs r in
    let same = f.same k in
    let past = get_or_past (below_t t xs) k 0 in
    grind (arith, nat_tests)

-- ---- the outcomes that stay verified

pub verified_kept : (h : Held) (m k n q : ℕ) → (step_of h m k).first_query ≡ queries_before h m k
    → are_among (step_of h m k) (min (queries_before h m n) q)
    ≡ (are_among (step_of h m k) q && (ltb k n || eqb (queries_in (step_of h m k).accesses) 0))
verified_kept h m k n q first =
    let step = queries_step h m k in
    let up = queries_mono h m (suc k) n in
    let down = queries_mono h m n k in
    grind (arith, nat_tests)

pub whole_kept : (g h : Held) (m n q : ℕ) → ((k : ℕ) → queries_before g m k ≡ queries_before h m k) → emitted_of g m ≡ emitted_of h m
    → n ≤ emitted_of h m → AreWhole h m q → AreWhole g m (min (queries_before h m n) q)
whole_kept g h m n q same e l w =
    let all = w.all in
    let up = queries_mono h m n w.steps in
    let down = queries_mono h m w.steps n in
    let kept = same (min n w.steps) in
    record { steps = min n w.steps; within = omega arith; all = grind arith }

-- ---- what is held after an edit

module _ {S : Type 0} (d : Design S) (h g : Held) (fifo depth t : ℕ) (s : IsSound d h) (b : AreOwnMarks d (core_of d h))
    (cut : IsCut d h g fifo depth t)
    (inside : fifo < length h.channels) (is_fifo : IsFifo (channel_at h.channels fifo).kind) where
  abbrev x : Core S
  x = core_of d h

  abbrev z : Core S
  z = after_edit d x t

  abbrev e : Design S
  e = edited d fifo depth

  lane_is : (m : ℕ) → lane_at g.lanes m ≡ timed_below t (lane_at h.lanes m)
  lane_is m = rw cut.lanes (get_or-map (timed_below t) h.lanes m no_lane)

  steps_is : (m : ℕ) → (lane_at g.lanes m).steps ≡ (lane_at h.lanes m).steps
  steps_is m = rw (lane_is m) refl

  step_is : (m k : ℕ) → step_of g m k ≡ step_of h m k
  step_is m k = rw (steps_is m) refl

  same_queries : (m k : ℕ) → queries_before g m k ≡ queries_before h m k
  same_queries m k = steps_only g h steps_is m k

  emitted_same : (m : ℕ) → emitted_of g m ≡ emitted_of h m
  emitted_same m = rw (steps_is m) refl

  rising : (m : ℕ) → IsStrictlyIncreasing (lane_at h.lanes m).cycles
  rising m =
      elim (cases_lt m (length h.lanes)) [
        | inl l ↦ let here = s.sound_lanes m no_lane l in here.rising
        | inr l ↦ rw (get_or_past h.lanes m no_lane l) (λ k u. absurd (omega arith))
      ]

  -- the channels
  there : channel_at g.channels fifo ≡ record (channel_at h.channels fifo) { kind = deepened (channel_at h.channels fifo).kind depth }
  there = rw cut.channels (get_or-set_same h.channels fifo _ (unused Sink) inside)

  elsewhere : (c : ℕ) → (c ≡ fifo → ⊥) → channel_at g.channels c ≡ channel_at h.channels c
  elsewhere c f = rw cut.channels (get_or-set_other h.channels fifo c _ (unused Sink) f)

  -- what holds of a channel, and of the FIFO with another depth too, holds of each
  each_channel : (P : ℕ → Channel → Type 0) (c : ℕ) → P c (channel_at h.channels c) → (c ≡ fifo → P fifo (channel_at h.channels fifo)
      → P fifo (record (channel_at h.channels fifo) { kind = deepened (channel_at h.channels fifo).kind depth }))
      → P c (channel_at g.channels c)
  each_channel P c p f =
      elim (eqb_tells c fifo) [
        | inl q ↦ rw (q.1, there) (f q.1 (rw q.1 at p))
        | inr q ↦ rw (elsewhere c q.1) p
      ]

  count_is : length g.channels ≡ length h.channels
  count_is = rw cut.channels (length-set h.channels fifo _)

  side_kept : (side : Side) (k : TableChannel) → HasSide k side → HasSide (deepened k depth) side
  side_kept Pop (Fifo n l) p = λ q. q
  side_kept Push (Fifo n l) p = λ q. q
  side_kept Pop k p = p
  side_kept Push k p = p

  access_kept : (a : Access) → IsAccess h.channels a → IsAccess g.channels a
  access_kept a p = record {
    channel = let n = count_is in let l = p.channel in omega arith;
    ordinal = p.ordinal;
    side = each_channel (λ c q. HasSide q.kind (side_of a.kind)) a.channel p.side
        (λ r q. side_kept (side_of a.kind) (channel_at h.channels fifo).kind q);
  }

  inside_now : HasAccesses g.lanes g.channels
  inside_now =
      subst (λ (l : List Lane). HasAccesses l g.channels) (sym cut.lanes)
      (All-map (λ (lane : Lane). All (λ (step : Step). All (IsAccess g.channels) step.accesses) lane.steps) (timed_below t) h.lanes
      (λ n e l k y u j z v. access_kept _ (s.inside n e l k y u j z v)))

  taken_kept : (side : Side) (c : ℕ) (places : List Place) → AreTaken d x side c places → AreTaken e z side c places
  taken_kept side c places o = record {
    count = o.count;
    each = λ i y l. let a = o.each i y l in record { owner = a.owner; emitted = a.emitted; from = a.from; to = a.to };
  }

  places_stay : (side : Side) (k : TableChannel) (q : Channel) → places_of side (record q { kind = k }) ≡ places_of side q
  places_stay Pop k q = refl
  places_stay Push k q = refl

  taken_now : (side : Side) (c : ℕ) → c < length g.channels → AreTaken e z side c (places_of side (channel_at g.channels c))
  taken_now side c l =
      let n = count_is in
      each_channel (λ v q. AreTaken e z side v (places_of side q)) c (taken_kept side c _ (s.taken side c (omega arith)))
      (λ r q. subst (AreTaken e z side fifo)
      (sym (places_stay side (deepened (channel_at h.channels fifo).kind depth) (channel_at h.channels fifo))) q)

  kind_kept : (c : ℕ) (k : TableChannel) → (c ≡ fifo → ⊥) → IsKind d c k → IsKind e c k
  kind_kept c (Fifo n delay) f (p, q, r, o) = let other = ne_eqb c fifo f in (p, grind arith, r, o)
  kind_kept c k f p = p

  kind_there : (k : TableChannel) → IsFifo k → IsKind d fifo k → IsKind e fifo (deepened k depth)
  kind_there (Fifo n delay) f (p, q, r, o) = (p, grind (arith, nat_tests), r, o)
  kind_there k f p = absurd f

  kinds_now : (c : ℕ) → c < length g.channels → IsKind e c (channel_at g.channels c).kind
  kinds_now c l =
      let n = count_is in
      elim (eqb_tells c fifo) [
        | inl q ↦ rw (q.1, there) (kind_there (channel_at h.channels fifo).kind is_fifo (s.kinds fifo inside))
        | inr q ↦ rw (elsewhere c q.1) (kind_kept c (channel_at h.channels c).kind q.1 (s.kinds c (omega arith)))
      ]

  lag_stays : (side : Side) (k : TableChannel) → lag_of (deepened k depth) side ≡ lag_of k side
  lag_stays side k = grind arith

  lags_now : (side : Side) (c : ℕ) → c < length g.channels → d.lag side c ≡ lag_of (channel_at g.channels c).kind side
  lags_now side c l =
      let n = count_is in
      each_channel (λ v q. d.lag side v ≡ lag_of q.kind side) c (s.lags side c (omega arith)) (λ r q. q
      ∙ sym (lag_stays side (channel_at h.channels fifo).kind))

  values_stay : (k : TableChannel) (pushes : List Pushed) → values_of (deepened k depth) pushes ≡ values_of k pushes
  values_stay k pushes = grind arith

  values_now : (c : ℕ) → c < length g.channels → values_at g.channels c ≡ core_values e z c
  values_now c l =
      let n = count_is in
      each_channel (λ v q. values_of q.kind q.pushes ≡ core_values e z v) c (s.values c (omega arith))
      (λ r q. values_stay (channel_at h.channels fifo).kind (channel_at h.channels fifo).pushes ∙ q)

  kept_within : (m : ℕ) → kept (x.cycle m) t (x.timed m) ≤ emitted_of h m
  kept_within m = let l = kept_le (x.cycle m) t (x.timed m) in let w = timed_within d h s m in omega arith

  edited_shown : ShowsCore e g z
  edited_shown =
      let logs = cut.count in
      record {
        lanes = rw cut.lanes (length-map h.lanes (timed_below t) ∙ s.lanes);
        logs = logs ∙ s.logs;
        overs = rw cut.over s.overs;
        sound_lanes = cut.sound;
        sound_logs = cut.sound_logs;
        inside = inside_now;
        places = places_from e g z emitted_same taken_now;
        accesses = λ m k l. rw (step_is m k) (s.accesses m k l);
        ordinals = λ m k l. rw (step_is m k) (s.ordinals m k l);
        first_query = λ m k l. rw (step_is m k, same_queries m k) (s.first_query m k l);
        kinds = kinds_now;
        lags = lags_now;
        taken = taken_now;
        values = values_now;
        recorded = λ m l. recorded m (s.recorded m (omega arith));
        verified = λ m l. rw (cut.verified m) (whole_kept g h m (kept (x.cycle m) t (x.timed m)) (log_at h.logs m).verified (same_queries m)
            (emitted_same m) (kept_within m) (s.verified m (omega arith)));
      }
    where
      recorded : (m : ℕ) → AreWhole h m (length (log_at h.logs m).outcomes) → AreWhole g m (length (log_at g.logs m).outcomes)
      recorded m w = record {
        steps = w.steps;
        within = rw (emitted_same m) w.within;
        all = rw (cut.outcomes m, same_queries m w.steps) w.all;
      }

  verified_now : (m k : ℕ) → has_all g m k (log_at g.logs m).verified ≡ z.verified m k
  verified_now m k =
      let as_many = emitted_same m in
      let verified = cut.verified m in
      let same = step_is m k in
      let accesses = s.accesses m k in
      let query = has_query_is (step_of h m k).accesses in
      let still = verified_kept h m k (kept (x.cycle m) t (x.timed m)) (log_at h.logs m).verified in
      let first = s.first_query m k in
      grind (arith, nat_tests)

  edited_read : IsRead e g z
  edited_read = record {
    emitted = emitted_same;
    over = λ m. rw cut.over refl;
    past = λ m k l. rw (le-ltb k (emitted_of h m) l) refl;
    wait = λ m k. rw (step_is m k) refl;
    flags = λ m k. rw (step_is m k, cut.outcomes m) refl;
    answered = λ m k. rw (steps_is m, cut.outcomes m) refl;
    verified = verified_now;
    timed = λ m. rw (lane_is m) (timed_kept t (lane_at h.lanes m).cycles (rising m));
    cycle = λ m k. rw (lane_is m) (cycles_kept t (lane_at h.lanes m).cycles (rising m) k);
  }

  -- the core that is read off is the one from which a retiming begins, and it is sound for the edited design
  pub edited_core : (core_of e g ≡ after_edit d x t) × IsSound e g
  edited_core = read_sound e g z (edit_marks d x fifo depth t b) edited_shown edited_read
