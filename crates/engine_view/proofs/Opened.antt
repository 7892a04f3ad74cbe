-- What is held at first is the theory's opening core.
use Rattle.std.proofs.Common.{◌≡◌, refl, sym, ap, ◌∙◌, ℕ, zero, suc, false, ltb, List, [], ◌++◌, length, get_or, replicate, arith}
use Rattle.std.proofs.Common.{append-nil}
use Rattle.std.proofs.{lemmas.Bool.and_left, lemmas.Bool.le-ltb, lemmas.List.Elements.All-replicate}
use Rattle.std.proofs.lemmas.List.{get_or_past, get_or-map, length-map, length-replicate}
use Rattle.std.specs.Prelude.{All}
use Rattle.engine_view.specs.{Side, Place, Lane, IsSoundLane, no_lane, lane_at, TableChannel, Channel, channel_at, unused, values_of}
use Rattle.engine_view.specs.{places_of, IsSoundLog, Log, log_at, no_log, IsAccess, Design, opening_core, AreOwnMarks, emitted_of, waited}
use Rattle.engine_view.specs.{core_of, opening_held, AreKinds, ShowsCore, IsSound, AreTaken, AreWhole, queries_before, Held.Held}
use Rattle.fifo_table.specs.declared.channel.TableChannel.TheVariants.{Sink}
use Rattle.event_timing.specs.Core.{Core}
use Rattle.event_timing.proofs.{OwnRuns.tally_0, Values.pushed_in_0}
use Rattle.engine_view.proofs.{Placing.places_from, Reading.IsRead, Reading.read_sound}

pub copy_at : {X : Type 0} (n k : ℕ) (x : X) → get_or (replicate n x) k x ≡ x
copy_at zero k x = refl
copy_at (suc n) zero x = refl
copy_at (suc n) (suc k) x = copy_at n k x

waits_0 : (k : ℕ) → waited k 0 ≡ 0
waits_0 k = grind arith

sound_none : IsSoundLane no_lane
sound_none = record {
  steps = λ k e l. absurd (omega arith);
  apart = λ k e l. absurd (omega arith);
  prefix = omega arith;
  rising = λ k l. absurd (omega arith);
  below = λ k e l. absurd (omega arith);
}

module _ {S : Type 0} (d : Design S) (n : ℕ) (kinds : List TableChannel) (modules : n ≡ d.modules) (fit : AreKinds d kinds) where
  abbrev h : Held
  h = opening_held n kinds

  abbrev x : Core S
  x = opening_core d

  lane_is : (m : ℕ) → lane_at h.lanes m ≡ no_lane
  lane_is m = copy_at n m no_lane

  log_is : (m : ℕ) → log_at h.logs m ≡ no_log
  log_is m = copy_at n m no_log

  none_emitted : (m : ℕ) → emitted_of h m ≡ 0
  none_emitted m = rw (lane_is m) refl

  channel_is : (c : ℕ) → channel_at h.channels c ≡ unused (get_or kinds c Sink)
  channel_is c =
      let there = get_or-map unused kinds c Sink (unused Sink) in
      let many = length-map kinds unused in
      let past = get_or_past h.channels c (unused Sink) in
      let none = get_or_past kinds c Sink in
      grind arith

  none_taken : (side : Side) (c : ℕ) (places : List Place) → places ≡ [] → AreTaken d x side c places
  none_taken side c places e = record {
    count = ap length e ∙ sym (tally_0 _ _ side c);
    each = λ i y l. let z : length places ≡ 0 = ap length e in absurd (omega arith);
  }

  whole : (m q : ℕ) → q ≡ 0 → AreWhole h m q
  unfolding queries_before
  whole m q e = record { steps = 0; within = omega arith; all = e }

  no_places : (side : Side) (c : ℕ) → places_of side (channel_at h.channels c) ≡ []
  no_places side c = let is = channel_is c in grind arith

  opening_shown : ShowsCore d h x
  opening_shown = record {
    lanes = length-replicate n no_lane ∙ modules;
    logs = length-replicate n no_log ∙ modules;
    overs = length-replicate n false ∙ modules;
    sound_lanes = All-replicate IsSoundLane n no_lane sound_none;
    sound_logs = All-replicate IsSoundLog n no_log (omega arith);
    inside = All-replicate (λ (lane : Lane). All (λ step. All (IsAccess h.channels) step.accesses) lane.steps) n no_lane
        (λ k e l. absurd (omega arith));
    places = places_from d h x none_emitted (λ side c l. none_taken side c _ (no_places side c));
    accesses = λ m k l. absurd (omega arith);
    ordinals = λ m k l. absurd (omega arith);
    first_query = λ m k l. absurd (omega arith);
    kinds = λ c l. let e = length-map kinds unused in rw (channel_is c) (fit.each c (omega arith));
    lags = λ side c l. let e = length-map kinds unused in rw (channel_is c) (fit.lags side c (omega arith));
    taken = λ side c l. none_taken side c _ (no_places side c);
    values = λ c l. let e = length-map kinds unused in
        ap (λ (q : Channel). values_of q.kind q.pushes) (channel_is c)
        ∙ (fit.values c (omega arith)
        ∙ (sym (append-nil (d.inputs c)) ∙ ap (λ (vs : List ℕ). d.inputs c ++ vs) (sym (pushed_in_0 c _ _))));
    recorded = λ m l. whole m _ (ap (λ (q : Log). length q.outcomes) (log_is m));
    verified = λ m l. whole m _ (ap (λ (q : Log). q.verified) (log_is m));
  }

  opening_read : IsRead d h x
  opening_read = record {
    emitted = none_emitted;
    over = λ m. copy_at n m false;
    past = λ m k l. refl;
    wait = λ m k. rw (lane_is m) (waits_0 k);
    flags = λ m k. rw (lane_is m) refl;
    answered = λ m k. and_left (ltb k (emitted_of h m)) _ (le-ltb k (emitted_of h m) (let e = none_emitted m in omega arith));
    verified = λ m k. and_left (ltb k (emitted_of h m)) _ (le-ltb k (emitted_of h m) (let e = none_emitted m in omega arith));
    timed = λ m. rw (lane_is m) refl;
    cycle = λ m k. rw (lane_is m) refl;
  }

  pub opening_core_is : AreOwnMarks d x → (core_of d h ≡ opening_core d) × IsSound d h
  opening_core_is b = read_sound d h x b opening_shown opening_read
