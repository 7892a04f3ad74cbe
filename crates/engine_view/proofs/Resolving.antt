-- An Answer with no recorded outcomes: what the code needs, and what it leaves.
use Rattle.std.proofs.Common.{◌≡◌, refl, sym, ap, subst, ◌∙◌, ℕ, suc, ◌+◌, ◌-◌, ◌<◌, ◌≤◌, Bool, true, cond, List, length, drop, get_or, map}
use Rattle.std.proofs.Common.{arith, eqb, ap₂}
use Rattle.std.proofs.{lemmas.Bool.or_right, lemmas.Bool.Decides.nat_tests, lemmas.Option.get_or_from_slice_get}
use Rattle.std.specs.Prelude.{All, slice_get, Some}
use Rattle.engine_view.specs.{Side, Access, Step, Channel, RoomedChannels, lane_at, no_lane, Log, log_at, no_log, with_outcomes, IsAccess}
use Rattle.engine_view.specs.{Design, Each, takers, after_answer, new_flags, held_parts, step_of, no_step, emitted_of, seen, queries_in}
use Rattle.engine_view.specs.{core_of, IsSound, queries_before, found_flags, place_of, taken_all, first_of, outcomes_of, done_late}
use Rattle.engine_view.specs.{with_answered, query_bound, room_of, TakesAt, TakeOncePerPort, HasRoomFor, StandAtOwn, CanTake, done_by}
use Rattle.engine_view.specs.{pending, HasRoom, Held.Held}
use Rattle.event_timing.specs.Core.{Core}
use Rattle.event_timing.proofs.Assigning.{put_at_same, put_at_other}
use Rattle.engine_view.proofs.{Unsure.IsFresh, Taking.all_length, Deciding.flags_are, Adding.done_later}
use Rattle.engine_view.proofs.Answered.{queries_step, answered_core, last, verified_least, recorded_most, new_length, same_queries}
use Rattle.engine_view.proofs.Answered.{flags_here, log_now, log_else}
use Rattle.engine_view.proofs.Roomy.{apart_of, own_for, room_for, free_side, pending_same}
use Rattle.event_timing.specs.Machines as theory

module _ {S : Type 0} {d : Design S} {h : Held} {m : ℕ} (f : IsFresh d h m) (c : ℕ) where
  abbrev x : Core S
  x = core_of d h

  abbrev k₀ : ℕ
  k₀ = length (lane_at h.lanes m).cycles

  abbrev t : Step
  t = step_of h m k₀

  abbrev g : Held
  g = with_answered h m k₀ (new_flags d x m c)

  newest : suc k₀ ≡ emitted_of h m
  newest = last d f.unsure.design h m c f.unsure.inside f.unsure.kept.sound f.unsure.kept.marks f.unsure.less f.fresh
      (f.unsure.kept.earlier m)

  m_logs : m < length h.logs
  m_logs = let a = f.unsure.kept.sound.logs in let b = f.unsure.kept.sound.lanes in let l = f.unsure.inside in omega arith

  pub fresh_owner : m < length h.logs
  fresh_owner = m_logs

  pub fresh_inside : All (IsAccess h.channels) t.accesses
  fresh_inside = f.unsure.kept.sound.inside m no_lane f.unsure.inside k₀ no_step f.unsure.less

  pub fresh_verified : (log_at h.logs m).verified ≡ length (log_at h.logs m).outcomes
  fresh_verified =
      let a = verified_least d f.unsure.design h m c f.unsure.inside f.unsure.kept.sound f.unsure.kept.marks f.unsure.less f.fresh
      (f.unsure.kept.earlier m) in
      let b = recorded_most d f.unsure.design h m c f.unsure.inside f.unsure.kept.sound f.unsure.kept.marks f.unsure.less f.fresh
      (f.unsure.kept.earlier m) in
      let l = f.unsure.kept.sound.sound_logs m no_log m_logs in
      omega arith

  owned : Each (λ a. d.owner a.side a.channel ≡ m) (map seen t.accesses)
  owned = subst (Each (λ a. d.owner a.side a.channel ≡ m)) (f.unsure.kept.sound.accesses m k₀ f.unsure.less)
      (f.unsure.design.owned m (x.state m k₀))

  pub fresh_apart : TakeOncePerPort t.accesses
  fresh_apart = apart_of t.accesses (λ side ch. subst (λ (xs : List theory.Access). takers side ch xs ≤ 1)
      (f.unsure.kept.sound.accesses m k₀ f.unsure.less) (f.unsure.design.single side m (x.state m k₀) ch))

  fresh_own : StandAtOwn m h.channels t.accesses
  fresh_own = own_for d h f.unsure.kept.sound m t.accesses fresh_inside owned

  waits_one : pending x m ≡ 1
  unfolding pending
  waits_one = let n = newest in let fresh = f.fresh in grind (arith, nat_tests)

  module _ {lanes : List ℕ} {table : RoomedChannels} {logs credits : List ℕ} (r : HasRoom d h lanes table logs credits) where
    pub fresh_room : HasRoomFor table t.accesses
    fresh_room = room_for d h lanes table logs credits r m t.accesses (let n = waits_one in omega arith) fresh_inside owned

    pub fresh_takes : table.channels ≡ h.channels → CanTake m table t.accesses
    fresh_takes e = record { inside = rw e fresh_inside; own = rw e fresh_own; apart = fresh_apart; room = fresh_room }

    queries_are : queries_before h m (emitted_of h m) ≡ queries_before h m k₀ + queries_in t.accesses
    queries_are = rw (sym newest) (queries_step h m k₀)

    pub fresh_log_room : queries_in t.accesses ≤ get_or logs m 0
    fresh_log_room =
        let a = r.outcomes m in
        let b = recorded_most d f.unsure.design h m c f.unsure.inside f.unsure.kept.sound f.unsure.kept.marks f.unsure.less f.fresh
        (f.unsure.kept.earlier m) in
        let q = queries_are in
        omega arith

    pub fresh_few : t.first_query < query_bound
    fresh_few = let a = r.few m in let e = f.unsure.kept.sound.first_query m k₀ f.unsure.less in let q = queries_are in omega arith

  -- what is left
  pub fresh_core : (core_of d g ≡ after_answer d x m c) × IsSound d g
  fresh_core = answered_core d f.unsure.design h m c f.unsure.inside f.unsure.kept.sound f.unsure.kept.marks f.unsure.less f.fresh
      (f.unsure.kept.earlier m)

  pub fresh_logs : with_outcomes h.logs m (outcomes_of t.accesses (found_flags h.lanes h.channels c t.accesses)) ≡ g.logs
  fresh_logs = rw (flags_are d f.unsure.design h f.unsure.kept.sound m c f.unsure.less) refl

  pub fresh_channels : taken_all (place_of m k₀) h.channels t.accesses
      (done_by true t.accesses (drop t.first_query (log_at g.logs m).outcomes)) ≡ g.channels
  fresh_channels =
      ap (taken_all (place_of m k₀) h.channels t.accesses)
      (done_later t.accesses (drop t.first_query (log_at g.logs m).outcomes)
      ∙ ap (done_late t.accesses) (flags_here d f.unsure.design h m c f.unsure.inside f.unsure.kept.sound f.unsure.kept.marks f.unsure.less
      f.fresh (f.unsure.kept.earlier m)))

  waits_none : pending (core_of d g) m ≡ 0
  unfolding pending
  waits_none =
      let same : emitted_of h m - 1 ≡ k₀ = let n = newest in omega arith in
      ap (λ (b : Bool). cond b 0 1) (or_right (eqb (emitted_of h m) 0) _ (ap (λ (y : Core S). y.answered m (emitted_of h m - 1))
      fresh_core.0 ∙ (ap (λ (k : ℕ). (after_answer d x m c).answered m k) same ∙ put_at_same x.answered m k₀ true)))

  pub room_answered : {lanes : List ℕ} {table table' : RoomedChannels} {logs logs' credits : List ℕ} → HasRoom d h lanes table logs credits
      → ((side : Side) (ch : ℕ) → room_of table side ch ≤ room_of table' side ch + 1)
      → ((side : Side) (ch : ℕ) → All (λ (a : Access). TakesAt side ch a → ⊥) t.accesses → room_of table side ch ≤ room_of table' side ch)
      → ((n : ℕ) → (n ≡ m → ⊥) → get_or logs n 0 ≤ get_or logs' n 0) → HasRoom d g lanes table' logs' credits
  room_answered {lanes} {table} {table'} {logs} {logs'} {credits} r one others other_logs = record {
    ends = λ side ch l. let e = all_length (place_of m k₀) h.channels t.accesses (done_late t.accesses (new_flags d x m c)) in
        ends_now side ch (r.ends side ch (omega arith));
    steps = r.steps;
    outcomes = λ n.
        let before = r.outcomes n in
        let more = other_logs n in
        let same = same_queries d f.unsure.design h m c f.unsure.inside f.unsure.kept.sound f.unsure.kept.marks f.unsure.less f.fresh
        (f.unsure.kept.earlier m) n (emitted_of h n) in
        let kept = log_else d f.unsure.design h m c f.unsure.inside f.unsure.kept.sound f.unsure.kept.marks f.unsure.less f.fresh
        (f.unsure.kept.earlier m) n in
        let all = all_new in
        grind arith;
    few = λ n. let a = r.few n in let q = same_queries d f.unsure.design h m c f.unsure.inside f.unsure.kept.sound f.unsure.kept.marks
        f.unsure.less f.fresh (f.unsure.kept.earlier m) n (emitted_of h n) in omega arith;
  }
    where
      all_new : queries_before g m (emitted_of h m) ≤ get_or logs' m 0 + length (log_at g.logs m).outcomes
      all_new =
          let same = same_queries d f.unsure.design h m c f.unsure.inside f.unsure.kept.sound f.unsure.kept.marks f.unsure.less f.fresh
          (f.unsure.kept.earlier m) m (emitted_of h m) in
          let now = log_now d f.unsure.design h m c f.unsure.inside f.unsure.kept.sound f.unsure.kept.marks f.unsure.less f.fresh
          (f.unsure.kept.earlier m) in
          let long = new_length d f.unsure.design h m c f.unsure.inside f.unsure.kept.sound f.unsure.kept.marks f.unsure.less f.fresh
          (f.unsure.kept.earlier m) in
          let n = newest in
          grind arith

      pending_other : (n : ℕ) → (n ≡ m → ⊥) → pending (core_of d g) n ≡ pending x n
      pending_other n e = pending_same (core_of d g) x n refl (λ k. ap (λ (y : Core S). y.answered n k) fresh_core.0
          ∙ put_at_other x.answered m k₀ true n k (λ p q. e p))

      ends_now : (side : Side) (ch : ℕ) → get_or credits (d.owner side ch) 0 + pending x (d.owner side ch) ≤ room_of table side ch
          → get_or credits (d.owner side ch) 0 + pending (core_of d g) (d.owner side ch) ≤ room_of table' side ch
      ends_now side ch before =
          let was = waits_one in
          let now = waits_none in
          let less = one side ch in
          let still = pending_other (d.owner side ch) in
          let kept = others side ch in
          let free = free_side d m t.accesses owned side ch in
          grind arith

pub first_is : (h : Held) (m : ℕ) {n : ℕ} {step : Step} → n ≡ first_of h m → slice_get (lane_at h.lanes m).steps n ≡ Some step
    → step_of h m (first_of h m) ≡ step
first_is h m {n} {step} e there = get_or_from_slice_get (lane_at h.lanes m).steps (first_of h m) step no_step (rw e at there)

-- what is held after the loops that add the outcomes and what they decide
pub after_is : {S : Type 0} {d : Design S} {h : Held} {m : ℕ} (f : IsFresh d h m) (c : ℕ) {n : ℕ} {step : Step} {xs ys : List Access}
    {logs : List Log} {channels : List Channel} → n ≡ first_of h m → step_of h m (first_of h m) ≡ step → xs ≡ step.accesses
    → ys ≡ step.accesses → logs ≡ with_outcomes h.logs m (outcomes_of xs (found_flags h.lanes h.channels c xs))
    → channels ≡ taken_all (place_of m n) h.channels ys (done_by true ys (drop step.first_query (log_at logs m).outcomes))
    → held_parts h.lanes channels logs h.over ≡ with_answered h m (first_of h m) (new_flags d (core_of d h) m c)
after_is {S} {d} {h} {m} f c {n} {step} {xs} {ys} {logs} {channels} en es ex ey el ec =
    let same : logs ≡ (with_answered h m (first_of h m) (new_flags d (core_of d h) m c)).logs = el ∙ rw (ex, sym es) (fresh_logs f c) in
    ap₂ (λ (cs : List Channel) (ls : List Log). held_parts h.lanes cs ls h.over) (ec ∙ rw (en, ey, sym es, same) (fresh_channels f c)) same
