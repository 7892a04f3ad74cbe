-- A step more in a lane, with its pushes and pops in the table, is the theory's Run, and what is held stays sound.
use Rattle.std.proofs.Common.{◌≡◌, refl, sym, ap, ap₂, subst, ◌∙◌, ℕ, zero, suc, ◌+◌, ◌-◌, ◌<◌, ◌≤◌, Bool, false, not, eqb, ltb, List, []}
use Rattle.std.proofs.Common.{◌∷◌, ◌++◌, length, map, drop, get_or, arith, inl, inr, append-nil, append_assoc, replicate, length-append}
use Rattle.std.proofs.Common.{drop_of_length-le}
use Rattle.std.proofs.{lemmas.Bool.cases_lt, lemmas.Bool.cond-false, lemmas.Bool.Decides.nat_tests}
use Rattle.std.proofs.lemmas.List.{length-replicate, get_or-replicate, length-set, get_or-set_same, get_or-set_other, get_or_push}
use Rattle.std.proofs.lemmas.List.{get_or_append_left, get_or-append-add}
use Rattle.std.proofs.lemmas.List.Elements.{All-head, All-tail, All-set, All-push, All-weaker}
use Rattle.std.specs.Prelude.{All}
use Rattle.engine_view.specs.{is_blocking, side_of, Side, Access, Step, Place, Lane, IsSoundLane, no_lane, lane_at, lane_with_step}
use Rattle.engine_view.specs.{with_step, Channel, channel_at, places_of, log_at, IsAccess, HasAccesses, Design, IsDesign, Each, ready}
use Rattle.engine_view.specs.{takes_in, values_in, pushed_in, AreOwnMarks, core_accesses, core_tally, core_values, bare_replies, has_query}
use Rattle.engine_view.specs.{no_outcomes, put, put_at, newest, emit_step, after_run, MayRun, step_of, no_step, emitted_of, seen}
use Rattle.engine_view.specs.{queries_in, flags_by, flags_of, are_among, has_all, values_at, waited, core_of, ShowsCore, IsSound, AreTaken}
use Rattle.engine_view.specs.{IsTakenAt, AreWhole, queries_before, done_at_once, place_of, with_emitted, IsNextStep, Held.Held}
use Rattle.flow_word.specs.declared.access.Side.TheVariants.{Push}
use Rattle.event_graph.proofs.Growth.{longer_sound}
use Rattle.fifo_table.specs.declared.channel.TableChannel.TheVariants.{Source}
use Rattle.event_timing.specs.Core.{Core}
use Rattle.event_timing.proofs.Assigning.{put_at_same, put_at_other, put_same, put_other}
use Rattle.event_timing.proofs.Running.{emit_up, old_at, run_marks}
use Rattle.event_timing.proofs.{Fronts.tally_same, Fronts.pushed_same, OwnRuns.tally_more, OwnRuns.same_side_is, Values.pushed_in_more}
use Rattle.engine_view.proofs.Taking.{channel_after, all_length, all_channel, kind_after, places_after, values_on, values_after}
use Rattle.engine_view.proofs.Taking.{values_longer}
use Rattle.engine_view.proofs.{Assigned.put_at_is, Placing.places_from, Reading.IsRead, Reading.read_sound}
use Rattle.event_timing.specs.Machines as theory

-- ---- the lanes

pub steps_there : (lanes : List Lane) (m : ℕ) (t : Step) → m < length lanes
    → (lane_at (with_step lanes m t) m).steps ≡ (lane_at lanes m).steps ++ t ∷ []
steps_there lanes m t inside = rw (get_or-set_same lanes m (lane_with_step (lane_at lanes m) t) no_lane inside) refl

pub lane_other : (lanes : List Lane) (m n : ℕ) (t : Step) → (n ≡ m → ⊥) → lane_at (with_step lanes m t) n ≡ lane_at lanes n
lane_other lanes m n t apart = get_or-set_other lanes m n (lane_with_step (lane_at lanes m) t) no_lane apart

cycles_stay : (lanes : List Lane) (m n : ℕ) (t : Step) → m < length lanes
    → (lane_at (with_step lanes m t) n).cycles ≡ (lane_at lanes n).cycles
cycles_stay lanes m n t inside =
    let same = get_or-set_same lanes m (lane_with_step (lane_at lanes m) t) no_lane inside in let other = lane_other lanes m n t in
    grind arith

push_other : {X : Type 0} (xs : List X) (y e : X) (k : ℕ) → (k ≡ length xs → ⊥) → get_or (xs ++ y ∷ []) k e ≡ get_or xs k e
push_other [] y e zero f = absurd (f refl)
push_other [] y e (suc k) f = refl
push_other (x ∷ xs) y e zero f = refl
push_other (x ∷ xs) y e (suc k) f = push_other xs y e k (λ q. f (omega arith))

module _ {S : Type 0} (d : Design S) (i : IsDesign d) (h : Held) (m : ℕ) (t : Step) (inside : m < length h.lanes) where
  abbrev g : Held
  g = with_emitted h m t

  abbrev e : ℕ
  e = emitted_of h m

  pub there : step_of g m e ≡ t
  there = rw (steps_there h.lanes m t inside) (get_or_push (lane_at h.lanes m).steps t no_step e refl)

  pub elsewhere : (n k : ℕ) → (n ≡ m → k ≡ e → ⊥) → step_of g n k ≡ step_of h n k
  elsewhere n k f =
      let here = steps_there h.lanes m t inside in
      let same = push_other (lane_at h.lanes m).steps t no_step k in
      let other = lane_other h.lanes m n t in
      grind arith

  before : (n k : ℕ) → k < emitted_of h n → step_of g n k ≡ step_of h n k
  before n k l = elsewhere n k (λ p q. let l' = rw p at l in omega arith)

  more : emitted_of g m ≡ suc e
  more = rw (steps_there h.lanes m t inside) (omega (arith, length-append (lane_at h.lanes m).steps (t ∷ [])))

  no_more : (n : ℕ) → (n ≡ m → ⊥) → emitted_of g n ≡ emitted_of h n
  no_more n apart = rw (lane_other h.lanes m n t apart) refl

  emitted_is : (n : ℕ) → emitted_of g n ≡ put (λ j. emitted_of h j) m (suc e) n
  emitted_is n = let here = more in let other = no_more n in grind (arith, nat_tests)

  pub queries_same : (n k : ℕ) → k ≤ emitted_of h n → queries_before g n k ≡ queries_before h n k
  unfolding queries_before
  queries_same n zero l = refl
  queries_same n (suc k) l = rw (before n k (omega arith), queries_same n k (omega arith)) refl

-- ---- the core with a step more

pub no_outcomes_is : (xs : List Access) → no_outcomes (map seen xs) ≡ done_at_once xs
no_outcomes_is [] = refl
no_outcomes_is (a ∷ xs) = ap (λ (bs : List Bool). is_blocking a.kind ∷ bs) (no_outcomes_is xs)

no_flags : (xs : List Access) → flags_by xs [] ≡ done_at_once xs
no_flags [] = refl
no_flags (a ∷ xs) = let later = no_flags xs in grind arith

pub has_query_is : (xs : List Access) → has_query (map seen xs) ≡ not (eqb (queries_in xs) 0)
has_query_is [] = refl
has_query_is (a ∷ xs) = let later = has_query_is xs in grind (arith, nat_tests)

-- ---- queries

pub queries_mono : (h : Held) (m a b : ℕ) → a ≤ b → queries_before h m a ≤ queries_before h m b
unfolding queries_before
queries_mono h m a zero l = grind arith
queries_mono h m a (suc b) l =
    elim (cases_lt a (suc b)) [
      | inl q ↦ omega (arith, queries_mono h m a b (omega arith))
      | inr q ↦ let e : a ≡ suc b = omega arith in rw e (omega arith)
    ]

among_few : (t : Step) (n : ℕ) → n ≤ t.first_query → are_among t n ≡ not (not (eqb (queries_in t.accesses) 0))
among_few t n l = grind (arith, nat_tests)

below_more : (k e f : ℕ) → f ≡ suc e → (k ≡ e → ⊥) → ltb k f ≡ ltb k e
below_more k e f is apart = grind (arith, nat_tests)

-- nobody but the owner takes
pub not_owner : {S : Type 0} → (d : Design S) (m : ℕ) (side : Side) (c : ℕ) (xs : List theory.Access) (bs : List Bool)
    → Each (λ a. d.owner a.side a.channel ≡ m) xs → (d.owner side c ≡ m → ⊥)
    → takes_in side c xs (bare_replies bs) ≡ 0
not_owner {S} d m side c [] bs o f = refl
not_owner {S} d m side c (a ∷ xs) [] o f = refl
not_owner {S} d m side c (a ∷ xs) (b ∷ bs) (o, os) f =
    let later = not_owner d m side c xs bs os f in let same = same_side_is a.side side in grind (arith, nat_tests)

pub no_values : {S : Type 0} → (d : Design S) (m : ℕ) (c : ℕ) (xs : List theory.Access) (bs : List Bool)
    → Each (λ a. d.owner a.side a.channel ≡ m) xs → (d.owner Push c ≡ m → ⊥)
    → values_in c xs (bare_replies bs) ≡ []
no_values {S} d m c [] bs o f = refl
no_values {S} d m c (a ∷ xs) [] o f = refl
no_values {S} d m c (a ∷ xs) (b ∷ bs) (o, os) f =
    let later = no_values d m c xs bs os f in let same = same_side_is a.side Push in grind (arith, nat_tests)

-- nobody pushes on a source
pub source_values : (channels : List Channel) (c : ℕ) (inputs : List ℕ) → (channel_at channels c).kind ≡ Source inputs
    → (xs : List Access) (bs : List Bool) → All (IsAccess channels) xs
    → values_in c (map seen xs) (bare_replies bs) ≡ []
source_values channels c inputs k [] bs all = refl
source_values channels c inputs k (a ∷ xs) [] all = refl
source_values channels c inputs k (a ∷ xs) (b ∷ bs) all =
    let later = source_values channels c inputs k xs bs (All-tail (IsAccess channels) a xs all) in
    let side = (All-head (IsAccess channels) a xs all).side in
    let same = same_side_is (side_of a.kind) Push in
    grind (arith, nat_tests)

-- the places of what is taken, with some copies of one more
pub longer_taken : {S : Type 0} → (d : Design S) (z : Core S) (side : Side) (c n T : ℕ) (places : List Place) (at : Place)
    → length places ≡ T
    → ((j : ℕ) (y : Place) → j < length places → IsTakenAt d z side c j (get_or places j y))
    → core_tally d z (d.owner side c) side c (z.emitted (d.owner side c)) ≡ T + n
    → (0 < n → (j : ℕ) → T ≤ j → j < T + n → IsTakenAt d z side c j at)
    → AreTaken d z side c (places ++ replicate n at)
longer_taken {S} d z side c n T places at count old total new = record {
  count = omega (arith, length-append places (replicate n at), length-replicate n at);
  each = λ j y l.
      let both = length-append places (replicate n at) in
      let copies = length-replicate n at in
      elim (cases_lt j (length places)) [
        | inl q ↦ rw (get_or_append_left places (replicate n at) y j q) (old j y q)
        | inr q ↦
            let after : j ≡ length places + (j - length places) = omega arith in
            let is : get_or (places ++ replicate n at) j y ≡ at = ap (λ (p : ℕ). get_or (places ++ replicate n at) p y) after
            ∙ (get_or-append-add places (replicate n at) (j - length places) y
            ∙ get_or-replicate n (j - length places) at y (omega arith)) in
            rw is (new (omega arith) j (omega arith) (omega arith))
      ];
}

module _ {S : Type 0} (d : Design S) (i : IsDesign d) (h : Held) (m : ℕ) (t : Step) (inside : m < length h.lanes) (s : IsSound d h)
    (next : IsNextStep d h m t) where
  abbrev x : Core S
  x = core_of d h

  abbrev z : Core S
  z = emit_step d x m (newest d x m)

  abbrev k₀ : ℕ
  k₀ = emitted_of h m

  abbrev now : S
  now = ready d m (newest d x m)

  abbrev at : Place
  at = place_of m k₀

  abbrev bs : List Bool
  bs = done_at_once t.accesses

  flags_now : z.flags m k₀ ≡ bs
  flags_now = rw (put_at_same x.flags m k₀ (no_outcomes (d.accesses m now)), next.accesses) (no_outcomes_is t.accesses)

  accesses_now : core_accesses d z m k₀ ≡ map seen t.accesses
  accesses_now = ap (d.accesses m) (put_at_same x.state m k₀ now) ∙ next.accesses

  -- counts of earlier steps are as before
  tally_old : (n : ℕ) (side : Side) (c k : ℕ) → k ≤ emitted_of h n → core_tally d z n side c k ≡ core_tally d x n side c k
  tally_old n side c k l =
      tally_same (core_accesses d z n) (core_accesses d x n) (λ j. bare_replies (z.flags n j)) (λ j. bare_replies (x.flags n j)) side c k
      (λ j q. ap₂ (λ (u : S) (fs : List Bool). takes_in side c (d.accesses n u) (bare_replies fs))
      (old_at x.state x m now n j (omega arith)) (old_at x.flags x m (no_outcomes (d.accesses m now)) n j (omega arith)))

  new_taken : Side → ℕ → ℕ
  new_taken side c = takes_in side c (map seen t.accesses) (bare_replies bs)

  tally_new : (side : Side) (c : ℕ) → core_tally d z m side c (suc k₀) ≡ core_tally d x m side c k₀ + new_taken side c
  unfolding new_taken
  tally_new side c =
      rw (
        tally_more (core_accesses d z m) (λ j. bare_replies (z.flags m j)) side c k₀,
        tally_old m side c k₀ (omega arith),
        accesses_now,
        flags_now,
      ) refl

  pushed_old : (n c k : ℕ) → k ≤ emitted_of h n
      → pushed_in c (core_accesses d z n) (λ j. bare_replies (z.flags n j)) k ≡ pushed_in c (core_accesses d x n)
      (λ j. bare_replies (x.flags n j)) k
  pushed_old n c k l =
      pushed_same (core_accesses d z n) (core_accesses d x n) (λ j. bare_replies (z.flags n j)) (λ j. bare_replies (x.flags n j)) c k
      (λ j q. ap₂ (λ (u : S) (fs : List Bool). values_in c (d.accesses n u) (bare_replies fs)) (old_at x.state x m now n j (omega arith))
      (old_at x.flags x m (no_outcomes (d.accesses m now)) n j (omega arith)))

  owned_now : Each (λ a. d.owner a.side a.channel ≡ m) (map seen t.accesses)
  owned_now = subst (Each (λ a. d.owner a.side a.channel ≡ m)) next.accesses (i.owned m now)

  none_new : (side : Side) (c : ℕ) → (d.owner side c ≡ m → ⊥) → new_taken side c ≡ 0
  unfolding new_taken
  none_new side c f = not_owner d m side c (map seen t.accesses) bs owned_now f

  -- ---- the table

  channel_now : (c : ℕ) → channel_at (with_emitted h m t).channels c ≡ channel_after at c (channel_at h.channels c) t.accesses bs
  channel_now c = all_channel at h.channels t.accesses bs c
      (All-weaker (IsAccess h.channels) (λ (a : Access). a.channel < length h.channels) (λ a p. p.channel) t.accesses next.inside)

  kind_now : (c : ℕ) → (channel_at (with_emitted h m t).channels c).kind ≡ (channel_at h.channels c).kind
  kind_now c = ap (λ (q : Channel). q.kind) (channel_now c) ∙ kind_after at c (channel_at h.channels c) t.accesses bs

  places_now : (side : Side) (c : ℕ)
      → places_of side (channel_at (with_emitted h m t).channels c)
      ≡ places_of side (channel_at h.channels c) ++ replicate (new_taken side c) at
  unfolding new_taken
  places_now side c = ap (places_of side) (channel_now c) ∙ places_after side at c (channel_at h.channels c) t.accesses bs

  old_taken : (side : Side) (c j : ℕ) (y : Place) → IsTakenAt d x side c j y → IsTakenAt d z side c j y
  old_taken side c j y o = record {
    owner = o.owner;
    emitted = let up = emit_up x m (d.owner side c) in let before = o.emitted in omega arith;
    from = let e = tally_old (d.owner side c) side c y.step (let before = o.emitted in omega arith) in let f = o.from in omega arith;
    to = let e = tally_old (d.owner side c) side c (suc y.step) (let before = o.emitted in omega arith) in let f = o.to in omega arith;
  }

  emitted_now : z.emitted m ≡ suc k₀
  emitted_now = put_same x.emitted m (suc k₀)

  emitted_other : (w : ℕ) → (w ≡ m → ⊥) → z.emitted w ≡ emitted_of h w
  emitted_other w f = put_other x.emitted m (suc k₀) w f

  total : (side : Side) (c : ℕ) → core_tally d z (d.owner side c) side c (z.emitted (d.owner side c))
      ≡ core_tally d x (d.owner side c) side c (emitted_of h (d.owner side c)) + new_taken side c
  total side c =
      let none = none_new side c in
      let here = tally_new side c in
      let now = emitted_now in
      let same = tally_old (d.owner side c) side c (emitted_of h (d.owner side c)) in
      let other = emitted_other (d.owner side c) in
      grind arith

  new_for : (side : Side) (c : ℕ) → 0 < new_taken side c → (j : ℕ)
      → core_tally d x (d.owner side c) side c (emitted_of h (d.owner side c)) ≤ j
      → j < core_tally d x (d.owner side c) side c (emitted_of h (d.owner side c)) + new_taken side c → IsTakenAt d z side c j at
  new_for side c p j l u =
      let none = none_new side c in
      let old = tally_old m side c k₀ (omega arith) in
      let new = tally_new side c in
      let now = emitted_now in
      record { owner = grind arith; emitted = grind arith; from = grind arith; to = grind arith }

  taken_now : (side : Side) (c : ℕ) → AreTaken d x side c (places_of side (channel_at h.channels c))
      → AreTaken d z side c (places_of side (channel_at (with_emitted h m t).channels c))
  taken_now side c o =
      rw (places_now side c)
      (longer_taken d z side c (new_taken side c) (core_tally d x (d.owner side c) side c (emitted_of h (d.owner side c)))
      (places_of side (channel_at h.channels c)) at
      o.count (λ j y l. old_taken side c j _ (o.each j y l)) (total side c) (new_for side c))

  -- ---- values

  new_values : ℕ → List ℕ
  new_values c = values_in c (map seen t.accesses) (bare_replies bs)

  pushed_new : (c : ℕ) → pushed_in c (core_accesses d z m) (λ j. bare_replies (z.flags m j)) (suc k₀) ≡ pushed_in c (core_accesses d x m)
      (λ j. bare_replies (x.flags m j)) k₀ ++ new_values c
  unfolding new_values
  pushed_new c =
      rw (
        pushed_in_more c (core_accesses d z m) (λ j. bare_replies (z.flags m j)) k₀,
        pushed_old m c k₀ (omega arith),
        accesses_now,
        flags_now,
      ) refl

  abbrev pushed_by : Core S → ℕ → ℕ → ℕ → List ℕ
  pushed_by y c w k = pushed_in c (core_accesses d y w) (λ j. bare_replies (y.flags w j)) k

  no_values_now : (c : ℕ) → (d.owner Push c ≡ m → ⊥) → new_values c ≡ []
  unfolding new_values
  no_values_now c f = no_values d m c (map seen t.accesses) bs owned_now f

  source_now : (c : ℕ) (inputs : List ℕ) → (channel_at h.channels c).kind ≡ Source inputs → new_values c ≡ []
  unfolding new_values
  source_now c inputs k = source_values h.channels c inputs k t.accesses bs next.inside

  pushed_values : (c : ℕ) → values_on (channel_at (with_emitted h m t).channels c) ≡ values_on (channel_at h.channels c) ++ new_values c
  unfolding new_values
  pushed_values c = ap values_on (channel_now c) ∙ values_after at c (channel_at h.channels c) t.accesses bs

  pushed_total : (c : ℕ)
      → pushed_by z c (d.owner Push c) (z.emitted (d.owner Push c)) ≡ pushed_by x c (d.owner Push c) (emitted_of h (d.owner Push c))
      ++ new_values c
  pushed_total c =
      let none = no_values_now c in
      let here = pushed_new c in
      let now = emitted_now in
      let same = pushed_old (d.owner Push c) c (emitted_of h (d.owner Push c)) in
      let other = emitted_other (d.owner Push c) in
      let whole = append-nil (pushed_by x c (d.owner Push c) (emitted_of h (d.owner Push c))) in
      grind arith

  values_more : (c : ℕ) → core_values d z c ≡ core_values d x c ++ new_values c
  values_more c = ap (λ (vs : List ℕ). d.inputs c ++ vs) (pushed_total c) ∙ sym (append_assoc (d.inputs c) _ _)

  values_now : (c : ℕ) → values_at h.channels c ≡ core_values d x c → values_at (with_emitted h m t).channels c ≡ core_values d z c
  values_now c o =
      values_longer (channel_at (with_emitted h m t).channels c) (channel_at h.channels c) (new_values c) (kind_now c) (pushed_values c)
      (source_now c)
      ∙ (ap (λ (vs : List ℕ). vs ++ new_values c) o ∙ sym (values_more c))

  -- ---- it is shown

  step_now : (n k : ℕ) (P : Step → Type 0) → k < z.emitted n → (k < emitted_of h n → P (step_of h n k)) → (n ≡ m → k ≡ k₀ → P t)
      → P (step_of (with_emitted h m t) n k)
  step_now n k P l old new =
      let now = emitted_now in
      let other = emitted_other n in
      let here = there d i h m t inside in
      let same = elsewhere d i h m t inside n k in
      grind arith

  lanes_now : All IsSoundLane (with_step h.lanes m t)
  lanes_now =
      let here = s.sound_lanes m no_lane inside in
      All-set IsSoundLane h.lanes m (lane_with_step (lane_at h.lanes m) t)
      (longer_sound (lane_at h.lanes m) t ((lane_at h.lanes m).steps ++ t ∷ []) (lane_at h.lanes m).cycles here next.sound next.apart refl
      refl) s.sound_lanes

  access_kept : (a : Access) → IsAccess h.channels a → IsAccess (with_emitted h m t).channels a
  access_kept a p = record {
    channel = let e = all_length at h.channels t.accesses bs in let l = p.channel in omega arith;
    ordinal = p.ordinal;
    side = rw (kind_now a.channel) p.side;
  }

  abbrev InLane : List Channel → Lane → Type 0
  InLane channels lane = All (λ (step : Step). All (IsAccess channels) step.accesses) lane.steps

  inside_now : HasAccesses (with_step h.lanes m t) (with_emitted h m t).channels
  inside_now =
      All-set (InLane (with_emitted h m t).channels) h.lanes m (lane_with_step (lane_at h.lanes m) t)
      (All-push (λ (step : Step). All (IsAccess (with_emitted h m t).channels) step.accesses) (lane_at h.lanes m).steps t
      (λ k y u j z v. access_kept _ (s.inside m no_lane inside k y u j z v)) (λ j z v. access_kept _ (next.inside j z v)))
      (λ n e l k y u j z v. access_kept _ (s.inside n e l k y u j z v))

  emitted_same : (n : ℕ) → emitted_of (with_emitted h m t) n ≡ z.emitted n
  emitted_same n = emitted_is d i h m t inside n

  whole_now : (n q : ℕ) → AreWhole h n q → AreWhole (with_emitted h m t) n q
  whole_now n q w = record {
    steps = w.steps;
    within = let up = emit_up x m n in let e = emitted_same n in let l = w.within in omega arith;
    all = w.all ∙ sym (queries_same d i h m t inside n w.steps w.within);
  }

  first_query_now : (n k : ℕ) → k < z.emitted n → (step_of (with_emitted h m t) n k).first_query ≡ queries_before (with_emitted h m t) n k
  first_query_now n k l =
      step_now n k (λ (p : Step). p.first_query ≡ queries_before (with_emitted h m t) n k) l
      (λ q. s.first_query n k q ∙ sym (queries_same d i h m t inside n k (omega arith)))
      (λ p r. rw (p, r, queries_same d i h m t inside m k₀ (omega arith)) next.first_query)

  accesses_shown : (n k : ℕ) → k < z.emitted n → core_accesses d z n k ≡ map seen (step_of (with_emitted h m t) n k).accesses
  accesses_shown n k l =
      step_now n k (λ (p : Step). core_accesses d z n k ≡ map seen p.accesses) l
      (λ q. ap (d.accesses n) (old_at x.state x m now n k q) ∙ s.accesses n k q)
      (λ p r. rw (p, r) accesses_now)

  abbrev AreOrdinals : Core S → ℕ → ℕ → List Access → Type 0
  AreOrdinals y n k xs = All (λ (a : Access). a.ordinal ≡ suc (core_tally d y n (side_of a.kind) a.channel k)) xs

  ordinals_kept : (n k : ℕ) (xs : List Access) → k ≤ emitted_of h n → AreOrdinals x n k xs → AreOrdinals z n k xs
  ordinals_kept n k xs l o = λ j e q. o j e q
      ∙ ap (λ (v : ℕ). suc v) (sym (tally_old n (side_of (get_or xs j e).kind) (get_or xs j e).channel k l))

  ordinals_shown : (n k : ℕ) → k < z.emitted n → AreOrdinals z n k (step_of (with_emitted h m t) n k).accesses
  ordinals_shown n k l =
      step_now n k (λ (p : Step). AreOrdinals z n k p.accesses) l
      (λ q. ordinals_kept n k (step_of h n k).accesses (omega arith) (s.ordinals n k q))
      (λ p r. rw (p, r) (ordinals_kept m k₀ t.accesses (omega arith) next.ordinals))

  taken_shown : (side : Side) (c : ℕ) → c < length (with_emitted h m t).channels
      → AreTaken d z side c (places_of side (channel_at (with_emitted h m t).channels c))
  taken_shown side c l = let e = all_length at h.channels t.accesses bs in taken_now side c (s.taken side c (omega arith))

  shown : ShowsCore d (with_emitted h m t) z
  shown = record {
    lanes = length-set h.lanes m (lane_with_step (lane_at h.lanes m) t) ∙ s.lanes;
    logs = s.logs;
    overs = s.overs;
    sound_lanes = lanes_now;
    sound_logs = s.sound_logs;
    inside = inside_now;
    places = places_from d (with_emitted h m t) z emitted_same taken_shown;
    accesses = accesses_shown;
    ordinals = ordinals_shown;
    first_query = first_query_now;
    kinds = λ c l. let e = all_length at h.channels t.accesses bs in rw (kind_now c) (s.kinds c (omega arith));
    lags = λ side c l. let e = all_length at h.channels t.accesses bs in rw (kind_now c) (s.lags side c (omega arith));
    taken = taken_shown;
    values = λ c l. let e = all_length at h.channels t.accesses bs in values_now c (s.values c (omega arith));
    recorded = λ n l. whole_now n _ (s.recorded n l);
    verified = λ n l. whole_now n _ (s.verified n l);
  }

  -- ---- it is read off

  -- a step that was not there has no queries recorded
  few_recorded : (n : ℕ) → AreWhole h m n → n ≤ queries_before h m k₀
  few_recorded n w = let e = w.all in let l = queries_mono h m w.steps k₀ w.within in omega arith

  recorded_few : length (log_at h.logs m).outcomes ≤ t.first_query
  recorded_few = let e = next.first_query in let l = few_recorded (length (log_at h.logs m).outcomes)
      (s.recorded m (let a = s.logs in let b = s.lanes in omega arith)) in omega arith

  verified_few : (log_at h.logs m).verified ≤ t.first_query
  verified_few = let e = next.first_query in let l =
      few_recorded (log_at h.logs m).verified (s.verified m (let a = s.logs in let b = s.lanes in omega arith)) in omega arith

  not_among : (n : ℕ) → n ≤ t.first_query → are_among t n ≡ not (has_query (d.accesses m now))
  not_among n l = rw (next.accesses, has_query_is t.accesses) (among_few t n l)

  has_now : (n k q : ℕ) → (n ≡ m → q ≤ t.first_query)
      → has_all (with_emitted h m t) n k q ≡ put_at (λ a b. has_all h a b q) m k₀ (not (has_query (d.accesses m now))) n k
  has_now n k q few =
      let longer = more d i h m t inside in
      let as_long = no_more d i h m t inside n in
      let here = there d i h m t inside in
      let same = elsewhere d i h m t inside n k in
      let none = not_among q in
      put_at_is (λ a b. has_all h a b q) m k₀ n k (not (has_query (d.accesses m now))) (has_all (with_emitted h m t) n k q)
      (λ e f. grind (arith, nat_tests)) (λ f. grind (arith, nat_tests))

  read : IsRead d (with_emitted h m t) z
  read = record {
    emitted = emitted_same;
    over = λ n. refl;
    past = λ n k l. past n k l;
    wait = λ n k. put_at_is x.wait m k₀ n k (d.quiet m (newest d x m)) (waited k (step_of (with_emitted h m t) n k).gap)
        (λ e f. rw (e, f, there d i h m t inside) next.gap) (λ f. rw (elsewhere d i h m t inside n k f) refl);
    flags = λ n k. put_at_is x.flags m k₀ n k (no_outcomes (d.accesses m now)) (flags_of (with_emitted h m t) n k)
        (λ e f. rw (e, f) flags_here) (λ f. rw (elsewhere d i h m t inside n k f) refl);
    answered = λ n k. has_now n k (length (log_at h.logs n).outcomes) (λ e. rw e recorded_few);
    verified = λ n k. has_now n k (log_at h.logs n).verified (λ e. rw e verified_few);
    timed = λ n. rw (cycles_stay h.lanes m n t inside) refl;
    cycle = λ n k. rw (cycles_stay h.lanes m n t inside) refl;
  }
    where
      past : (n k : ℕ) → z.emitted n ≤ k → d.opening n ≡ z.state n k
      past n k l =
          let up = emit_up x m n in
          let newest = emitted_now in
          let other = put_at_other x.state m k₀ now n k in
          grind (arith, nat_tests)

      flags_here : flags_of (with_emitted h m t) m k₀ ≡ no_outcomes (d.accesses m now)
      flags_here =
          let none : drop t.first_query (log_at h.logs m).outcomes ≡ [] = drop_of_length-le (log_at h.logs m).outcomes recorded_few in
          rw (there d i h m t inside, none, next.accesses, no_flags t.accesses) (sym (no_outcomes_is t.accesses))

  -- the core that is read off is the one after the theory's Run, and it is sound
  pub emitted_core : AreOwnMarks d x → MayRun d x m → d.is_over m now ≡ false → (core_of d (with_emitted h m t) ≡ after_run d x m)
      × IsSound d (with_emitted h m t)
  emitted_core b r lives =
      let is : after_run d x m ≡ z = cond-false {A = Core S} (d.is_over m now) _ z lives in
      let marks = subst (AreOwnMarks d) is (run_marks d x b m r) in
      let (e, sound) = read_sound d (with_emitted h m t) z marks shown read in
      (e ∙ sym is, sound)
