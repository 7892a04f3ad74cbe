-- An Answer that finds the assumed outcomes again is the theory's, and what is held stays sound.
use Rattle.std.proofs.Common.{◌≡◌, refl, sym, ap, ◌∙◌, ℕ, suc, ◌<◌, ◌≤◌, true, false, cond, eqb, List, ◌++◌, length, get_or, arith, inl}
use Rattle.std.proofs.Common.{inr}
use Rattle.std.proofs.{lemmas.Bool.cases_lt, lemmas.Bool.le-ltb, lemmas.Bool.Decides.eqb_tells, lemmas.Bool.Decides.nat_tests}
use Rattle.std.proofs.{lemmas.List.length-set, lemmas.List.get_or-set_same, lemmas.List.get_or-set_other, lemmas.List.Elements.All-set}
use Rattle.engine_view.specs.{side_of, Side, Step, lane_at, IsSoundLog, log_at, no_log, Design, IsDesign, AreOwnMarks, after_answer}
use Rattle.engine_view.specs.{new_flags, core_accesses, core_tally, core_values, bare_replies, step_of, emitted_of, are_among, has_all}
use Rattle.engine_view.specs.{core_of, ShowsCore, IsSound, AreWhole, queries_before, with_confirmed, Held.Held}
use Rattle.flow_word.specs.declared.access.Side.TheVariants.{Push}
use Rattle.event_timing.specs.Core.{Core}
use Rattle.event_timing.proofs.{Answering.answer_marks, Fronts.tally_same, Fronts.pushed_same}
use Rattle.engine_view.proofs.{Placing.taken_stays, Assigned.put_at_is, Emitted.queries_mono, Reading.IsRead, Reading.read_sound}
use Rattle.engine_view.proofs.Answered.{queries_step, steps_only, among_if}

module _ {S : Type 0} (d : Design S) (i : IsDesign d) (h : Held) (m c : ℕ) (inside : m < length h.logs) (s : IsSound d h)
    (b : AreOwnMarks d (core_of d h))
    (less : length (lane_at h.lanes m).cycles < emitted_of h m) (there : (core_of d h).answered m (length (lane_at h.lanes m).cycles)
    ≡ true)
    (unsure : (core_of d h).verified m (length (lane_at h.lanes m).cycles) ≡ false) (earlier : (k : ℕ)
    → k < length (lane_at h.lanes m).cycles → (core_of d h).verified m k ≡ true)
    (again : (core_of d h).flags m (length (lane_at h.lanes m).cycles) ≡ new_flags d (core_of d h) m c) where
  abbrev x : Core S
  x = core_of d h

  abbrev z : Core S
  z = after_answer d x m c

  abbrev k₀ : ℕ
  k₀ = length (lane_at h.lanes m).cycles

  abbrev t : Step
  t = step_of h m k₀

  abbrev V : ℕ
  V = queries_before h m (suc k₀)

  abbrev g : Held
  g = with_confirmed h m V

  flags_same : (n k : ℕ) → z.flags n k ≡ x.flags n k
  flags_same n k = sym (put_at_is x.flags m k₀ n k (new_flags d x m c) (x.flags n k) (λ p q. rw (p, q) again) (λ f. refl))

  tally_is : (n : ℕ) (side : Side) (ch k : ℕ) → core_tally d z n side ch k ≡ core_tally d x n side ch k
  tally_is n side ch k =
      tally_same (core_accesses d z n) (core_accesses d x n) (λ j. bare_replies (z.flags n j)) (λ j. bare_replies (x.flags n j)) side ch k
      (λ j q. rw (flags_same n j) refl)

  values_are : (ch : ℕ) → core_values d z ch ≡ core_values d x ch
  values_are ch =
      let w = d.owner Push ch in
      ap (λ (v : List ℕ). d.inputs ch ++ v)
      (pushed_same (core_accesses d z w) (core_accesses d x w) (λ j. bare_replies (z.flags w j)) (λ j. bare_replies (x.flags w j)) ch
      (emitted_of h w) (λ j q. rw (flags_same w j) refl))

  log_now : log_at g.logs m ≡ record (log_at h.logs m) { verified = V }
  log_now = get_or-set_same h.logs m (record (log_at h.logs m) { verified = V }) no_log inside

  log_else : (n : ℕ) → (n ≡ m → ⊥) → log_at g.logs n ≡ log_at h.logs n
  log_else n f = get_or-set_other h.logs m n (record (log_at h.logs m) { verified = V }) no_log f

  outcomes_same : (n : ℕ) → (log_at g.logs n).outcomes ≡ (log_at h.logs n).outcomes
  outcomes_same n = let here = log_now in let other = log_else n in grind arith

  same_queries : (n k : ℕ) → queries_before g n k ≡ queries_before h n k
  same_queries n k = steps_only g h (λ j. refl) n k

  first_is : (k : ℕ) → k < emitted_of h m → (step_of h m k).first_query ≡ queries_before h m k
  first_is k l = s.first_query m k l

  -- the step's own queries are not among the verified ones
  not_yet : are_among t (log_at h.logs m).verified ≡ false
  not_yet = grind (arith, nat_tests)

  some_more : (log_at h.logs m).verified < V
  some_more =
      let step = queries_step h m k₀ in
      let first = first_is k₀ less in
      let among = among_if t (log_at h.logs m).verified in
      let not_among = not_yet in
      grind arith

  enough : V ≤ length (log_at h.logs m).outcomes
  enough =
      let step = queries_step h m k₀ in
      let first = first_is k₀ less in
      let not_among = not_yet in
      grind (arith, nat_tests)

  verified_now : (n k : ℕ) → has_all g n k (log_at g.logs n).verified ≡ z.verified n k
  verified_now n k =
      put_at_is x.verified m k₀ n k true (has_all g n k (log_at g.logs n).verified)
      (λ p q. rw (p, log_now) (all_of k (omega arith)))
      (λ f. elim (eqb_tells n m) [
        | inl p ↦ rw (p.1, log_now) (at_m (f p.1))
        | inr p ↦ rw (log_else n p.1) refl
      ])
    where
      all_of : (k : ℕ) → k ≤ k₀ → has_all h m k V ≡ true
      all_of k l =
          let up = queries_mono h m (suc k) (suc k₀) in
          let step = queries_step h m k in
          let first = first_is k in
          grind (arith, nat_tests)

      later : (k : ℕ) → k₀ < k → has_all h m k V ≡ has_all h m k (log_at h.logs m).verified
      later k l =
          let up = queries_mono h m (suc k₀) k l in
          let step = queries_step h m k in
          let first = first_is k in
          let more = some_more in
          grind (arith, nat_tests)

      at_m : (k ≡ k₀ → ⊥) → has_all h m k V ≡ x.verified m k
      at_m f =
          elim (cases_lt k k₀) [
            | inl l ↦ all_of k (omega arith) ∙ sym (earlier k l)
            | inr l ↦ later k (elim (eqb_tells k k₀) [ inl p ↦ absurd (f p.1) | inr p ↦ let w = p.1 in omega arith ])
          ]

  confirmed_shown : ShowsCore d g z
  confirmed_shown =
      let logs = length-set h.logs m (record (log_at h.logs m) { verified = V }) in
      record {
        lanes = s.lanes;
        logs = logs ∙ s.logs;
        overs = s.overs;
        sound_lanes = s.sound_lanes;
        sound_logs = All-set IsSoundLog h.logs m (record (log_at h.logs m) { verified = V }) enough s.sound_logs;
        inside = s.inside;
        places = s.places;
        accesses = s.accesses;
        ordinals = λ n k l j y u. s.ordinals n k l j y u
            ∙ ap (λ (v : ℕ). suc v) (sym (tally_is n (side_of (get_or (step_of h n k).accesses j y).kind)
            (get_or (step_of h n k).accesses j y).channel k));
        first_query = λ n k l. s.first_query n k l ∙ sym (same_queries n k);
        kinds = s.kinds;
        lags = s.lags;
        taken = λ side ch l. taken_stays d x z tally_is (λ w. refl) side ch _ (s.taken side ch l);
        values = λ ch l. s.values ch l ∙ sym (values_are ch);
        recorded = λ n l. recorded n (s.recorded n (omega arith));
        verified = λ n l. verified n (s.verified n (omega arith));
      }
    where
      recorded : (n : ℕ) → AreWhole h n (length (log_at h.logs n).outcomes) → AreWhole g n (length (log_at g.logs n).outcomes)
      recorded n w = record { steps = w.steps; within = w.within; all = rw (outcomes_same n, same_queries n w.steps) w.all }

      verified : (n : ℕ) → AreWhole h n (log_at h.logs n).verified → AreWhole g n (log_at g.logs n).verified
      verified n w =
          let all = w.all in
          let here = log_now in
          let other = log_else n in
          let same = same_queries n in
          record { steps = cond (eqb n m) (suc k₀) w.steps; within = grind (arith, nat_tests); all = grind (arith, nat_tests) }

  confirmed_read : IsRead d g z
  confirmed_read = record {
    emitted = λ n. refl;
    over = λ n. refl;
    past = λ n k l. rw (le-ltb k (emitted_of h n) l) refl;
    wait = λ n k. refl;
    flags = λ n k. rw (outcomes_same n) (sym (flags_same n k));
    answered = λ n k. rw (outcomes_same n) (put_at_is x.answered m k₀ n k true (x.answered n k) (λ p q. rw (p, q) there) (λ f. refl));
    verified = verified_now;
    timed = λ n. refl;
    cycle = λ n k. refl;
  }

  pub confirmed_core : (core_of d g ≡ after_answer d x m c) × IsSound d g
  confirmed_core = read_sound d g z (answer_marks d i x b m c less (λ e. again)) confirmed_shown confirmed_read
