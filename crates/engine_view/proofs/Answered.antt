-- Outcomes more in a log, with the pushes and pops that they decide, are the theory's Answer, and what is held stays sound.
use Rattle.std.proofs.Common.{◌≡◌, refl, sym, ap, subst, ◌∙◌, ℕ, zero, suc, ◌+◌, ◌<◌, ◌≤◌, ◌⊎◌, Bool, true, false, cond, ltb, eqb, List, []}
use Rattle.std.proofs.Common.{◌∷◌, ◌++◌, length, map, drop, get_or, arith, inl, inr, append-nil, append_assoc, replicate, length-append}
use Rattle.std.proofs.Common.{drop_of_length-le}
use Rattle.std.proofs.{lemmas.Bool.and_parts, lemmas.Bool.le-ltb, lemmas.Bool.both_ways, lemmas.Bool.Decides.nat_tests}
use Rattle.std.proofs.lemmas.List.{length-set, get_or-set_same, get_or-set_other, get_or_past, drop-append-le, length-drop}
use Rattle.std.proofs.lemmas.List.Elements.{All-set, All-weaker}
use Rattle.std.specs.Prelude.{All, Some}
use Rattle.engine_view.specs.{is_blocking, side_of, Side, Kind, Access, Step, Place, lane_at, Channel, channel_at, places_of, IsSoundLog}
use Rattle.engine_view.specs.{Log, all_answered, log_at, no_log, IsAccess, HasAccesses, Design, IsDesign, Each, takes_in, values_in, takers}
use Rattle.engine_view.specs.{pushed_in, AreOwnMarks, known_of, flags_at, core_accesses, core_tally, core_values, bare_replies, view}
use Rattle.engine_view.specs.{put_at, after_answer, new_flags, step_of, no_step, emitted_of, seen, queries_in, flags_by, flags_of}
use Rattle.engine_view.specs.{are_among, has_all, values_at, core_of, possible_by, ShowsCore, IsSound, AreTaken, IsTakenAt, AreWhole}
use Rattle.engine_view.specs.{queries_before, done_at_once, place_of, outcome_by, outcomes_of, done_late, with_answered, Held.Held}
use Rattle.flow_word.specs.declared.access.Side.TheVariants.{Push}
use Rattle.fifo_table.specs.declared.channel.TableChannel.TheVariants.{Source}
use Rattle.event_timing.specs.{Known, Core.Core}
use Rattle.event_timing.proofs.{Assigning.put_at_same, Assigning.put_at_other, Fronts.tally_same, Fronts.pushed_same, OwnRuns.tally_more}
use Rattle.event_timing.proofs.{OwnRuns.tally_mono, Values.pushed_in_more, Answering.answer_marks}
use Rattle.engine_view.proofs.Taking.{channel_after, all_length, all_channel, kind_after, places_after, values_on, values_after}
use Rattle.engine_view.proofs.Taking.{values_longer}
use Rattle.engine_view.proofs.{Assigned.put_at_is, Knowing.shown_inside, Placing.places_from, Reading.IsRead, Reading.read_sound}
use Rattle.engine_view.proofs.Emitted.{no_outcomes_is, not_owner, no_values, source_values, longer_taken, queries_mono}
use Rattle.event_timing.specs.Machines as theory

-- ---- flags and outcomes

-- a flag for each access, true where it blocks
abbrev pub AreFlags : List Access → List Bool → Type 0
AreFlags [] [] = Unit {0}
AreFlags [] (b ∷ bs) = ⊥
AreFlags (a ∷ xs) [] = ⊥
AreFlags (a ∷ xs) (b ∷ bs) = (is_blocking a.kind ≡ true → b ≡ true) × AreFlags xs bs

possible_again : (k : Kind) (b : Bool) → possible_by k (Some (outcome_by k b)) ≡ b
possible_again k b = grind arith

-- the outcomes tell the flags
flags_again : (xs : List Access) (bs : List Bool) → AreFlags xs bs → flags_by xs (outcomes_of xs bs) ≡ bs
flags_again [] [] f = refl
flags_again (a ∷ xs) (b ∷ bs) (f, fs) = let later = flags_again xs bs fs in let same = possible_again a.kind b in grind arith
flags_again xs bs f = absurd f

outcomes_length : (xs : List Access) (bs : List Bool) → AreFlags xs bs → length (outcomes_of xs bs) ≡ queries_in xs
outcomes_length [] [] f = refl
outcomes_length (a ∷ xs) (b ∷ bs) (f, fs) = let later = outcomes_length xs bs fs in grind arith
outcomes_length xs bs f = absurd f

-- what stands after a step's own outcomes tells nothing of it
flags_front : (xs : List Access) (ys zs : List Bool) → queries_in xs ≤ length ys → flags_by xs (ys ++ zs) ≡ flags_by xs ys
flags_front [] ys zs l = refl
flags_front (a ∷ xs) [] zs l = let later = flags_front xs [] zs in grind arith
flags_front (a ∷ xs) (y ∷ ys) zs l = let here = flags_front xs (y ∷ ys) zs in let later = flags_front xs ys zs in grind arith

-- ---- what is taken at once, and late

takes_parts : (side : Side) (c : ℕ) (xs : List Access) (bs : List Bool) → AreFlags xs bs
    → takes_in side c (map seen xs) (bare_replies bs) ≡ takes_in side c (map seen xs) (bare_replies (done_at_once xs)) + takes_in side c
    (map seen xs) (bare_replies (done_late xs bs))
takes_parts side c [] [] f = refl
takes_parts side c (a ∷ xs) (b ∷ bs) (f, fs) = let later = takes_parts side c xs bs fs in grind arith
takes_parts side c xs bs f = absurd f

none_takes : (c : ℕ) (xs : List Access) (bs : List Bool) → takers Push c (map seen xs) ≡ 0
    → values_in c (map seen xs) (bare_replies bs) ≡ []
none_takes c [] bs e = refl
none_takes c (a ∷ xs) [] e = refl
none_takes c (a ∷ xs) (b ∷ bs) e = let later = none_takes c xs bs in grind arith

values_parts : (c : ℕ) (xs : List Access) (bs : List Bool) → AreFlags xs bs → takers Push c (map seen xs) ≤ 1
    → values_in c (map seen xs) (bare_replies bs) ≡ values_in c (map seen xs) (bare_replies (done_at_once xs)) ++ values_in c (map seen xs)
    (bare_replies (done_late xs bs))
values_parts c [] [] f l = refl
values_parts c (a ∷ xs) (b ∷ bs) (f, fs) l =
    let later = values_parts c xs bs fs in
    let none = none_takes c xs bs in
    let at_once = none_takes c xs (done_at_once xs) in
    let late = none_takes c xs (done_late xs bs) in
    grind arith
values_parts c xs bs f l = absurd f

-- ---- what is held

pub steps_only : (g h : Held) → ((m : ℕ) → (lane_at g.lanes m).steps ≡ (lane_at h.lanes m).steps) → (m k : ℕ)
    → queries_before g m k ≡ queries_before h m k
unfolding queries_before
steps_only g h e m zero = refl
steps_only g h e m (suc k) = rw (e m, steps_only g h e m k) refl

pub queries_step : (h : Held) (m k : ℕ) → queries_before h m (suc k) ≡ queries_before h m k + queries_in (step_of h m k).accesses
unfolding queries_before
queries_step h m k = refl

pub queries_zero : (h : Held) (m : ℕ) → queries_before h m 0 ≡ 0
unfolding queries_before
queries_zero h m = refl

pub among_is : (t : Step) (n : ℕ) → are_among t n ≡ true → (queries_in t.accesses ≡ 0) ⊎ (t.first_query + queries_in t.accesses ≤ n)
among_is t n e = grind (arith, nat_tests)

pub among_if : (t : Step) (n : ℕ) → t.first_query + queries_in t.accesses ≤ n → are_among t n ≡ true
among_if t n l = grind (arith, nat_tests)

-- the queries of steps that are all among so many are no more
pub all_among : (h : Held) (m n q : ℕ) → ((k : ℕ) → k < n → (step_of h m k).first_query ≡ queries_before h m k)
    → ((k : ℕ) → k < n → are_among (step_of h m k) q ≡ true) → queries_before h m n ≤ q
all_among h m zero q f g = rw (queries_zero h m) (omega arith)
all_among h m (suc n) q f g =
    let rest = all_among h m n q (λ k l. f k (omega arith)) (λ k l. g k (omega arith)) in
    let step = queries_step h m n in
    let first = f n (omega arith) in
    elim (among_is (step_of h m n) q (g n (omega arith))) [ inl e ↦ omega arith | inr e ↦ omega arith ]

flags_fit : (know : theory.Access → Known) (c : ℕ) (xs : List Access) → AreFlags xs (flags_at know c (map seen xs))
flags_fit know c [] = tt
flags_fit know c (a ∷ xs) = (grind arith, flags_fit know c xs)

module _ {S : Type 0} (d : Design S) (i : IsDesign d) (h : Held) (m c : ℕ) (inside : m < length h.lanes) (s : IsSound d h)
    (b : AreOwnMarks d (core_of d h))
    (less : length (lane_at h.lanes m).cycles < emitted_of h m) (fresh : (core_of d h).answered m (length (lane_at h.lanes m).cycles)
    ≡ false)
    (earlier : (k : ℕ) → k < length (lane_at h.lanes m).cycles → (core_of d h).verified m k ≡ true) where
  abbrev x : Core S
  x = core_of d h

  abbrev k₀ : ℕ
  k₀ = length (lane_at h.lanes m).cycles

  abbrev z : Core S
  z = after_answer d x m c

  abbrev t : Step
  t = step_of h m k₀

  abbrev fs : List Bool
  fs = new_flags d x m c

  abbrev g : Held
  g = with_answered h m k₀ fs

  abbrev at : Place
  at = place_of m k₀

  -- the step is the module's newest
  pub last : suc k₀ ≡ emitted_of h m
  last = let replied = b.replied m k₀ in grind arith

  flags_ok : AreFlags t.accesses fs
  flags_ok = subst (AreFlags t.accesses) (ap (flags_at (known_of d (view d x) m) c) (sym (s.accesses m k₀ less)))
      (flags_fit (known_of d (view d x) m) c t.accesses)

  flags_before : x.flags m k₀ ≡ done_at_once t.accesses
  flags_before = rw (b.unanswered m k₀ less fresh, s.accesses m k₀ less) (no_outcomes_is t.accesses)

  flags_now : z.flags m k₀ ≡ fs
  flags_now = put_at_same x.flags m k₀ fs

  flags_else : (n k : ℕ) → (n ≡ m → k ≡ k₀ → ⊥) → z.flags n k ≡ x.flags n k
  flags_else n k f = put_at_other x.flags m k₀ fs n k f

  -- ---- counts

  tally_old : (n : ℕ) (side : Side) (ch k : ℕ) → (n ≡ m → k ≤ k₀) → core_tally d z n side ch k ≡ core_tally d x n side ch k
  tally_old n side ch k l =
      tally_same (core_accesses d z n) (core_accesses d x n) (λ j. bare_replies (z.flags n j)) (λ j. bare_replies (x.flags n j)) side ch k
      (λ j q. rw (flags_else n j (λ e f. let w = l e in omega arith)) refl)

  late : Side → ℕ → ℕ
  late side ch = takes_in side ch (map seen t.accesses) (bare_replies (done_late t.accesses fs))

  tally_now : (side : Side) (ch : ℕ) → core_tally d z m side ch (suc k₀) ≡ core_tally d x m side ch (suc k₀) + late side ch
  unfolding late
  tally_now side ch =
      let now = tally_more (core_accesses d z m) (λ j. bare_replies (z.flags m j)) side ch k₀ in
      let before = tally_more (core_accesses d x m) (λ j. bare_replies (x.flags m j)) side ch k₀ in
      let old = tally_old m side ch k₀ (λ e. omega arith) in
      let accesses = s.accesses m k₀ less in
      let parts = takes_parts side ch t.accesses fs flags_ok in
      let flags = flags_now in
      let flags' = flags_before in
      grind arith

  owned : Each (λ a. d.owner a.side a.channel ≡ m) (map seen t.accesses)
  owned = subst (Each (λ a. d.owner a.side a.channel ≡ m)) (s.accesses m k₀ less) (i.owned m (x.state m k₀))

  none_late : (side : Side) (ch : ℕ) → (d.owner side ch ≡ m → ⊥) → late side ch ≡ 0
  unfolding late
  none_late side ch f = not_owner d m side ch (map seen t.accesses) (done_late t.accesses fs) owned f

  total : (side : Side) (ch : ℕ) → core_tally d z (d.owner side ch) side ch (emitted_of h (d.owner side ch))
      ≡ core_tally d x (d.owner side ch) side ch (emitted_of h (d.owner side ch)) + late side ch
  total side ch =
      let none = none_late side ch in
      let here = tally_now side ch in
      let newest = last in
      let same = tally_old (d.owner side ch) side ch (emitted_of h (d.owner side ch)) in
      grind arith

  -- ---- the table

  inside_t : All (IsAccess h.channels) t.accesses
  inside_t = shown_inside d h x s m k₀ less

  channel_now : (ch : ℕ) → channel_at g.channels ch ≡ channel_after at ch (channel_at h.channels ch) t.accesses (done_late t.accesses fs)
  channel_now ch = all_channel at h.channels t.accesses (done_late t.accesses fs) ch
      (All-weaker (IsAccess h.channels) (λ (a : Access). a.channel < length h.channels) (λ a p. p.channel) t.accesses inside_t)

  kind_now : (ch : ℕ) → (channel_at g.channels ch).kind ≡ (channel_at h.channels ch).kind
  kind_now ch = ap (λ (q : Channel). q.kind) (channel_now ch)
      ∙ kind_after at ch (channel_at h.channels ch) t.accesses (done_late t.accesses fs)

  count_now : length g.channels ≡ length h.channels
  count_now = all_length at h.channels t.accesses (done_late t.accesses fs)

  places_now : (side : Side) (ch : ℕ) → places_of side (channel_at g.channels ch) ≡ places_of side (channel_at h.channels ch)
      ++ replicate (late side ch) at
  unfolding late
  places_now side ch = ap (places_of side) (channel_now ch) ∙ places_after side at ch (channel_at h.channels ch) t.accesses
      (done_late t.accesses fs)

  tally_up : (side : Side) (ch k : ℕ) → k ≤ emitted_of h (d.owner side ch)
      → core_tally d x (d.owner side ch) side ch k ≤ core_tally d z (d.owner side ch) side ch k
  tally_up side ch k l =
      let newest = last in
      let up = total side ch in
      let same = tally_old (d.owner side ch) side ch k in
      grind arith

  old_taken : (side : Side) (ch j : ℕ) (y : Place) → IsTakenAt d x side ch j y → IsTakenAt d z side ch j y
  old_taken side ch j y o =
      let newest = last in
      let same = tally_old (d.owner side ch) side ch y.step in
      let up = tally_up side ch (suc y.step) in
      record { owner = o.owner; emitted = o.emitted; from = grind arith; to = grind arith }

  new_for : (side : Side) (ch : ℕ) → 0 < late side ch → (j : ℕ)
      → core_tally d x (d.owner side ch) side ch (emitted_of h (d.owner side ch)) ≤ j
      → j < core_tally d x (d.owner side ch) side ch (emitted_of h (d.owner side ch)) + late side ch → IsTakenAt d z side ch j at
  new_for side ch p j l u =
      let none = none_late side ch in
      let newest = last in
      let now = tally_now side ch in
      let old = tally_old m side ch k₀ (λ e. omega arith) in
      let up = tally_mono (core_accesses d x m) (λ q. bare_replies (x.flags m q)) side ch k₀ (suc k₀) (omega arith) in
      record { owner = grind arith; emitted = grind arith; from = grind arith; to = grind arith }

  taken_now : (side : Side) (ch : ℕ) → AreTaken d x side ch (places_of side (channel_at h.channels ch))
      → AreTaken d z side ch (places_of side (channel_at g.channels ch))
  taken_now side ch o =
      rw (places_now side ch)
      (longer_taken d z side ch (late side ch) (core_tally d x (d.owner side ch) side ch (emitted_of h (d.owner side ch)))
      (places_of side (channel_at h.channels ch)) at
      o.count (λ j y l. old_taken side ch j _ (o.each j y l)) (total side ch) (new_for side ch))

  -- ---- values

  late_values : ℕ → List ℕ
  late_values ch = values_in ch (map seen t.accesses) (bare_replies (done_late t.accesses fs))

  abbrev pushed_by : Core S → ℕ → ℕ → ℕ → List ℕ
  pushed_by y ch w k = pushed_in ch (core_accesses d y w) (λ j. bare_replies (y.flags w j)) k

  pushed_old : (w ch k : ℕ) → (w ≡ m → k ≤ k₀) → pushed_by z ch w k ≡ pushed_by x ch w k
  pushed_old w ch k l =
      pushed_same (core_accesses d z w) (core_accesses d x w) (λ j. bare_replies (z.flags w j)) (λ j. bare_replies (x.flags w j)) ch k
      (λ j q. rw (flags_else w j (λ e f. let r = l e in omega arith)) refl)

  single_t : (ch : ℕ) → takers Push ch (map seen t.accesses) ≤ 1
  single_t ch = subst (λ (a : List theory.Access). takers Push ch a ≤ 1) (s.accesses m k₀ less) (i.single Push m (x.state m k₀) ch)

  pushed_now : (ch : ℕ) → pushed_by z ch m (suc k₀) ≡ pushed_by x ch m (suc k₀) ++ late_values ch
  unfolding late_values
  pushed_now ch =
      let now = pushed_in_more ch (core_accesses d z m) (λ j. bare_replies (z.flags m j)) k₀ in
      let before = pushed_in_more ch (core_accesses d x m) (λ j. bare_replies (x.flags m j)) k₀ in
      let old = pushed_old m ch k₀ (λ e. omega arith) in
      let accesses = s.accesses m k₀ less in
      let parts = values_parts ch t.accesses fs flags_ok (single_t ch) in
      let joined = append_assoc (pushed_by x ch m k₀) in
      let flags = flags_now in
      let flags' = flags_before in
      grind arith

  no_late_values : (ch : ℕ) → (d.owner Push ch ≡ m → ⊥) → late_values ch ≡ []
  unfolding late_values
  no_late_values ch f = no_values d m ch (map seen t.accesses) (done_late t.accesses fs) owned f

  source_now : (ch : ℕ) (inputs : List ℕ) → (channel_at h.channels ch).kind ≡ Source inputs → late_values ch ≡ []
  unfolding late_values
  source_now ch inputs k = source_values h.channels ch inputs k t.accesses (done_late t.accesses fs) inside_t

  pushed_values : (ch : ℕ) → values_on (channel_at g.channels ch) ≡ values_on (channel_at h.channels ch) ++ late_values ch
  unfolding late_values
  pushed_values ch = ap values_on (channel_now ch) ∙ values_after at ch (channel_at h.channels ch) t.accesses (done_late t.accesses fs)

  pushed_total : (ch : ℕ) → pushed_by z ch (d.owner Push ch) (emitted_of h (d.owner Push ch))
      ≡ pushed_by x ch (d.owner Push ch) (emitted_of h (d.owner Push ch)) ++ late_values ch
  pushed_total ch =
      let none = no_late_values ch in
      let newest = last in
      let here = pushed_now ch in
      let same = pushed_old (d.owner Push ch) ch (emitted_of h (d.owner Push ch)) in
      let whole = append-nil (pushed_by x ch (d.owner Push ch) (emitted_of h (d.owner Push ch))) in
      grind arith

  values_now : (ch : ℕ) → values_at h.channels ch ≡ core_values d x ch → values_at g.channels ch ≡ core_values d z ch
  values_now ch o =
      values_longer (channel_at g.channels ch) (channel_at h.channels ch) (late_values ch) (kind_now ch) (pushed_values ch) (source_now ch)
      ∙ (ap (λ (a : List ℕ). a ++ late_values ch) o
      ∙ (append_assoc (d.inputs ch) _ _
      ∙ ap (λ (a : List ℕ). d.inputs ch ++ a) (sym (pushed_total ch))))

  -- ---- outcomes

  abbrev old_log : Log
  old_log = log_at h.logs m

  abbrev new : List Bool
  new = outcomes_of t.accesses fs

  m_logs : m < length h.logs
  m_logs = let a = s.logs in let e = s.lanes in omega arith

  pub log_now : log_at g.logs m ≡ all_answered old_log new
  log_now = get_or-set_same h.logs m (all_answered old_log new) no_log m_logs

  pub log_else : (n : ℕ) → (n ≡ m → ⊥) → log_at g.logs n ≡ log_at h.logs n
  log_else n f = get_or-set_other h.logs m n (all_answered old_log new) no_log f

  first_is : (k : ℕ) → k < emitted_of h m → (step_of h m k).first_query ≡ queries_before h m k
  first_is k l = s.first_query m k l

  pub recorded_least : queries_before h m k₀ ≤ length old_log.outcomes
  recorded_least =
      all_among h m k₀ (length old_log.outcomes) (λ k l. first_is k (omega arith))
      (λ k l. (and_parts (ltb k (emitted_of h m)) (are_among (step_of h m k) (length old_log.outcomes))
      (b.replied m k (let e = last in omega arith))).1)

  pub verified_least : queries_before h m k₀ ≤ old_log.verified
  verified_least =
      all_among h m k₀ old_log.verified (λ k l. first_is k (omega arith))
      (λ k l. (and_parts (ltb k (emitted_of h m)) (are_among (step_of h m k) old_log.verified) (earlier k l)).1)

  pub recorded_most : length old_log.outcomes ≤ queries_before h m k₀
  recorded_most =
      let whole = s.recorded m m_logs in
      let all = whole.all in
      let step = queries_step h m k₀ in
      let first = first_is k₀ less in
      let among = among_if t (length old_log.outcomes) in
      let up = queries_mono h m (suc k₀) whole.steps in
      let up' = queries_mono h m whole.steps k₀ in
      grind (arith, nat_tests)

  pub new_length : length (old_log.outcomes ++ new) ≡ queries_before h m (suc k₀)
  new_length =
      let a = length-append old_log.outcomes new in
      let e = outcomes_length t.accesses fs flags_ok in
      let step = queries_step h m k₀ in
      let l = recorded_least in
      let u = recorded_most in
      omega arith

  pub same_queries : (n k : ℕ) → queries_before g n k ≡ queries_before h n k
  same_queries n k = steps_only g h (λ j. refl) n k

  whole_now : (n q r : ℕ) → (n ≡ m → r ≡ queries_before h m (suc k₀)) → ((n ≡ m → ⊥) → r ≡ q) → AreWhole h n q → AreWhole g n r
  whole_now n q r here else w = record {
    steps = cond (eqb n m) (suc k₀) w.steps;
    within = let in_old = w.within in grind (arith, nat_tests);
    all = let in_old = w.all in let same = same_queries n in grind (arith, nat_tests);
  }

  has_if : (k q : ℕ) → k ≤ k₀ → queries_before h m (suc k₀) ≤ q → has_all h m k q ≡ true
  has_if k q l u =
      let up = queries_mono h m (suc k) (suc k₀) (omega arith) in
      let step = queries_step h m k in
      let first = first_is k (omega arith) in
      let among = among_if (step_of h m k) q (omega arith) in
      grind (arith, nat_tests)

  has_not : (k q : ℕ) → k₀ < k → has_all h m k q ≡ false
  has_not k q l = let newest = last in grind (arith, nat_tests)

  -- where so many queries are recorded, or verified, the step and those before it have theirs
  has_now : (n k q r : ℕ) (y : ℕ → ℕ → Bool) → (n ≡ m → r ≡ queries_before h m (suc k₀)) → ((n ≡ m → ⊥) → r ≡ q) → has_all h n k q ≡ y n k
      → (n ≡ m → k < k₀ → y n k ≡ true)
      → has_all g n k r ≡ put_at y m k₀ true n k
  has_now n k q r y here else is before =
      let newest = last in
      let all = has_if k r in
      let none = has_not k in
      put_at_is y m k₀ n k true (has_all g n k r) (λ e f. grind arith) (λ f. grind (arith, nat_tests))

  -- ---- flags

  pub flags_here : flags_of g m k₀ ≡ fs
  flags_here =
      let first = first_is k₀ less in
      let most = recorded_most in
      let least = recorded_least in
      let none : drop t.first_query old_log.outcomes ≡ [] = drop_of_length-le old_log.outcomes (omega arith) in
      rw (log_now, drop-append-le t.first_query old_log.outcomes new (omega arith), none) (flags_again t.accesses fs flags_ok)

  flags_earlier : (k : ℕ) → k < k₀ → flags_of g m k ≡ flags_of h m k
  flags_earlier k l =
      let first = first_is k (omega arith) in
      let step = queries_step h m k in
      let up = queries_mono h m (suc k) k₀ l in
      let least = recorded_least in
      let rest = length-drop (step_of h m k).first_query old_log.outcomes in
      rw (log_now, drop-append-le (step_of h m k).first_query old_log.outcomes new (omega arith))
      (flags_front (step_of h m k).accesses (drop (step_of h m k).first_query old_log.outcomes) new (omega arith))

  flags_past : (k : ℕ) → k₀ < k → flags_of g m k ≡ flags_of h m k
  flags_past k l =
      let none : step_of h m k ≡ no_step = get_or_past (lane_at h.lanes m).steps k no_step (let e = last in omega arith) in
      rw none refl

  flags_rest : (n k : ℕ) → (n ≡ m → k ≡ k₀ → ⊥) → flags_of g n k ≡ flags_of h n k
  flags_rest n k f =
      let before = flags_earlier k in
      let past = flags_past k in
      let other = log_else n in
      grind arith

  -- ---- it is shown, and read off

  access_kept : (a : Access) → IsAccess h.channels a → IsAccess g.channels a
  access_kept a p = record {
    channel = let e = count_now in let l = p.channel in omega arith;
    ordinal = p.ordinal;
    side = rw (kind_now a.channel) p.side;
  }

  inside_now : HasAccesses h.lanes g.channels
  inside_now = λ n e l k y u j z v. access_kept _ (s.inside n e l k y u j z v)

  log_length : (n : ℕ) → n ≡ m → length (log_at g.logs n).outcomes ≡ queries_before h m (suc k₀)
  log_length n e = rw (e, log_now) new_length

  log_verified : (n : ℕ) → n ≡ m → (log_at g.logs n).verified ≡ queries_before h m (suc k₀)
  log_verified n e = rw (e, log_now) new_length

  taken_shown : (side : Side) (ch : ℕ) → ch < length g.channels → AreTaken d z side ch (places_of side (channel_at g.channels ch))
  taken_shown side ch l = let e = count_now in taken_now side ch (s.taken side ch (omega arith))

  shown : ShowsCore d g z
  shown =
      let channels = count_now in
      let logs = length-set h.logs m (all_answered old_log new) in
      record {
        lanes = s.lanes;
        logs = logs ∙ s.logs;
        overs = s.overs;
        sound_lanes = s.sound_lanes;
        sound_logs = All-set IsSoundLog h.logs m (all_answered old_log new) (omega arith) s.sound_logs;
        inside = inside_now;
        places = places_from d g z (λ n. refl) taken_shown;
        accesses = s.accesses;
        ordinals = λ n k l j e q. s.ordinals n k l j e q
            ∙ ap (λ (v : ℕ). suc v) (sym (tally_old n (side_of (get_or (step_of h n k).accesses j e).kind)
            (get_or (step_of h n k).accesses j e).channel k
            (λ r. let r' = ap (λ (v : ℕ). emitted_of h v) r in let w = last in omega arith)));
        first_query = λ n k l. s.first_query n k l ∙ sym (same_queries n k);
        kinds = λ ch l. rw (kind_now ch) (s.kinds ch (omega arith));
        lags = λ side ch l. rw (kind_now ch) (s.lags side ch (omega arith));
        taken = taken_shown;
        values = λ ch l. values_now ch (s.values ch (omega arith));
        recorded = λ n l. whole_now n (length (log_at h.logs n).outcomes) (length (log_at g.logs n).outcomes) (log_length n)
            (λ f. rw (log_else n f) refl) (s.recorded n (omega arith));
        verified = λ n l. whole_now n (log_at h.logs n).verified (log_at g.logs n).verified (log_verified n)
            (λ f. rw (log_else n f) refl) (s.verified n (omega arith));
      }

  read : IsRead d g z
  read = record {
    emitted = λ n. refl;
    over = λ n. refl;
    past = λ n k l. rw (le-ltb k (emitted_of h n) l) refl;
    wait = λ n k. refl;
    flags = λ n k. put_at_is x.flags m k₀ n k fs (flags_of g n k) (λ e f. rw (e, f) flags_here) (flags_rest n k);
    answered = λ n k. has_now n k (length (log_at h.logs n).outcomes) (length (log_at g.logs n).outcomes) x.answered (log_length n)
        (λ f. rw (log_else n f) refl) refl (λ e l. rw e (b.replied m k (let w = last in omega arith)));
    verified = λ n k. has_now n k (log_at h.logs n).verified (log_at g.logs n).verified x.verified (log_verified n)
        (λ f. rw (log_else n f) refl) refl (λ e l. rw e (earlier k l));
    timed = λ n. refl;
    cycle = λ n k. refl;
  }

  -- the core that is read off is the one after the theory's Answer, and it is sound
  pub answered_core : (core_of d g ≡ after_answer d x m c) × IsSound d g
  answered_core = read_sound d g z (answer_marks d i x b m c less (λ e. absurd (both_ways _ fresh e))) shown read
