-- Where the steps and the outcomes are the same, so are the marks: what is held may differ in cycles and in the depth of a FIFO.
use Rattle.std.proofs.Common.{◌≡◌, sym, ap, ap₂, subst, ◌∙◌, ℕ, zero, suc, ◌<◌, ◌≤◌, inl, inr, Bool, ltb, ◌&&◌, ◌++◌, List, length, map}
use Rattle.std.proofs.Common.{drop, arith}
use Rattle.std.proofs.lemmas.Bool.{cases_lt, cond-false, le-ltb}
use Rattle.std.specs.Prelude.{slice_index_or, false}
use mathlib.Core.Path.{fun_ext}
use Rattle.sim_core.specs.{Side, Step, lane_at, Log, log_at, Design, ready, takes_in, values_in, own, Begins, AreOwnMarks, edited}
use Rattle.sim_core.specs.{GrowsBeside, bare_replies, core_accesses, core_pushed, core_reply, core_tally, core_values, replies_of, no_step}
use Rattle.sim_core.specs.{emitted_of, seen, flags_by, flags_of, are_among, has_all, waited, core_of, IsSound}
use Rattle.flow_word.specs.declared.access.Side.TheVariants.{Pop, Push}
use Rattle.event_timing.specs.{Access, Reply, Core.Core}
use Rattle.event_timing.proofs.{Fronts.tally_same, Fronts.pushed_same, OwnRuns.own_0, OwnRuns.own_more, Values.begins_self}
use Rattle.engine_view.specs.Held.{Held}

-- ---- outcomes

module _ (h g : Held) (steps : (m : ℕ) → (lane_at g.lanes m).steps ≡ (lane_at h.lanes m).steps) (logs : g.logs ≡ h.logs) where
  pub same_flags : (m k : ℕ) → flags_of g m k ≡ flags_of h m k
  same_flags m k =
      ap₂ (λ (ss : List Step) (ls : List Log). flags_by (slice_index_or ss k no_step).accesses
      (drop (slice_index_or ss k no_step).first_query (log_at ls m).outcomes)) (steps m) logs

  pub same_answered : (m k : ℕ) → has_all g m k (length (log_at g.logs m).outcomes) ≡ has_all h m k (length (log_at h.logs m).outcomes)
  same_answered m k =
      ap₂ (λ (ss : List Step) (ls : List Log). ltb k (length ss)
      && are_among (slice_index_or ss k no_step) (length (log_at ls m).outcomes)) (steps m) logs

-- ---- marks

module _ {S : Type 0} (d : Design S) (fifo depth : ℕ) (h g : Held) (sh : IsSound d h) (sg : IsSound (edited d fifo depth) g)
    (mh : AreOwnMarks d (core_of d h))
    (mg : AreOwnMarks (edited d fifo depth) (core_of (edited d fifo depth) g))
    (steps : (m : ℕ) → (lane_at g.lanes m).steps ≡ (lane_at h.lanes m).steps) (logs : g.logs ≡ h.logs)
    (over : g.over ≡ h.over) where
  abbrev f : Design S
  f = edited d fifo depth

  abbrev x : Core S
  x = core_of d h

  abbrev y : Core S
  y = core_of f g

  emitted : (m : ℕ) → y.emitted m ≡ x.emitted m
  emitted m = ap (λ (ss : List Step). length ss) (steps m)

  -- the accesses and the outcomes
  asked : (m k : ℕ) → k < x.emitted m → core_accesses f y m k ≡ core_accesses d x m k
  asked m k l =
      let e = emitted m in
      sg.accesses m k (omega arith)
      ∙ (ap (λ (ss : List Step). map seen (slice_index_or ss k no_step).accesses) (steps m) ∙ sym (sh.accesses m k l))

  flags : (m k : ℕ) → y.flags m k ≡ x.flags m k
  flags = same_flags h g steps logs

  answered : (m k : ℕ) → y.answered m k ≡ x.answered m k
  answered = same_answered h g steps logs

  waits_same : (m k : ℕ) → y.wait m k ≡ x.wait m k
  waits_same m k = ap (λ (ss : List Step). waited k (slice_index_or ss k no_step).gap) (steps m)

  taken : (m k : ℕ) (side : Side) (ch : ℕ) → k < x.emitted m
      → takes_in side ch (core_accesses f y m k) (bare_replies (y.flags m k))
      ≡ takes_in side ch (core_accesses d x m k) (bare_replies (x.flags m k))
  taken m k side ch l =
      ap₂ (λ (as' : List Access) (bs : List Bool). takes_in side ch as' (bare_replies bs)) (asked m k l) (flags m k)

  tally_is : (m n : ℕ) → n ≤ x.emitted m → (side : Side) (ch : ℕ) → core_tally f y m side ch n ≡ core_tally d x m side ch n
  tally_is m n l side ch =
      tally_same (core_accesses f y m) (core_accesses d x m) (λ j. bare_replies (y.flags m j)) (λ j. bare_replies (x.flags m j)) side ch n
      (λ k u. taken m k side ch (omega arith))

  pushed_is : (m ch : ℕ) → core_pushed f y m ch (y.emitted m) ≡ core_pushed d x m ch (x.emitted m)
  pushed_is m ch =
      ap (core_pushed f y m ch) (emitted m)
      ∙ pushed_same (core_accesses f y m) (core_accesses d x m) (λ j. bare_replies (y.flags m j)) (λ j. bare_replies (x.flags m j)) ch
      (x.emitted m)
      (λ k u. ap₂ (λ (as' : List Access) (bs : List Bool). values_in ch as' (bare_replies bs)) (asked m k u) (flags m k))

  values_are : (ch : ℕ) → core_values f y ch ≡ core_values d x ch
  values_are ch = ap (λ (vs : List ℕ). d.inputs ch ++ vs) (pushed_is (d.owner Push ch) ch)

  reply_is : (m k : ℕ) → k < x.emitted m → core_reply f y m k ≡ core_reply d x m k
  reply_is m k l =
      ap₂ (λ (vs : ℕ → List ℕ) (ts : ℕ → ℕ). replies_of vs ts (core_accesses f y m k) (y.flags m k))
      (fun_ext values_are) (fun_ext (λ ch. tally_is m k (omega arith) Pop ch))
      ∙ ap₂ (λ (as' : List Access) (bs : List Bool). replies_of (core_values d x) (λ ch. core_tally d x m Pop ch k) as' bs)
      (asked m k l) (flags m k)

  own_is : (m n : ℕ) → n ≤ x.emitted m → own f m (core_reply f y m) n ≡ own d m (core_reply d x m) n
  own_is m zero l = own_0 f m (core_reply f y m) ∙ sym (own_0 d m (core_reply d x m))
  own_is m (suc n) l =
      own_more f m (core_reply f y m) n
      ∙ (ap₂ (λ (s : S) (r : List Reply). d.move m (ready d m s) r) (own_is m n (omega arith)) (reply_is m n (omega arith))
      ∙ sym (own_more d m (core_reply d x m) n))

  state_is : (m k : ℕ) → k < x.emitted m → y.state m k ≡ x.state m k
  state_is m k l =
      let e = emitted m in
      mg.own_step m k (omega arith) ∙ (ap (λ (s : S). ready d m s) (own_is m k (omega arith)) ∙ sym (mh.own_step m k l))

  -- what has all the marks of the one
  pub marks_beside : (m : ℕ) → GrowsBeside f x y m
  marks_beside m = record {
    grows = record {
      emitted_up = λ n. let e = emitted n in omega arith;
      state_same = λ n k l. state_is n k l;
      wait_same = λ n k l. waits_same n k;
      flags_same = λ n k l a. flags n k;
      answered_up = λ n k l a. answered n k ∙ a;
      values_up = λ ch. subst (λ (vs : List ℕ). Begins vs (core_values d x ch)) (sym (values_are ch)) (begins_self (core_values d x ch));
    };
    emitted = emitted m;
    over = ap (λ (os : List Bool). slice_index_or os m false) over;
  }

  -- and the accesses of all steps, whether there are any or not
  pub all_asked : (m k : ℕ) → core_accesses f y m k ≡ core_accesses d x m k
  all_asked m k =
      elim (cases_lt k (x.emitted m)) [
        | inl l ↦ asked m k l
        | inr l ↦
            let e = emitted m in
            ap (λ (s : S). d.accesses m s)
            (cond-false {A = S} (ltb k (emitted_of g m)) _ (d.opening m) (le-ltb k (emitted_of g m) (omega arith))
            ∙ sym (cond-false {A = S} (ltb k (emitted_of h m)) _ (d.opening m) (le-ltb k (emitted_of h m) l)))
      ]
