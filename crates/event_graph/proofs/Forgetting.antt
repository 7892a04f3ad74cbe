-- Lanes that forget their cycles from a clock on, one after another.
use Rattle.std.proofs.Common.{◌≡◌, refl, ℕ, ◌+◌, ◌<◌, ◌≤◌, List, ◌++◌, length, map, take, drop, get_or, arith, append-nil}
use Rattle.std.proofs.{Math.ListN.set, lemmas.List.Edits.map_over_more}
use Rattle.std.proofs.lemmas.List.{map-set, get_or-map, length-map, take_all, drop_all, take_at}
use Rattle.std.specs.Prelude.{All}
use Rattle.event_graph.specs.{IsSoundLane, timed_below, RoomedLane, lanes_of, rooms_of}
use Rattle.flow_word.proofs.Changed.{shown_kept}
use Rattle.event_graph.proofs.Growth.{all_sound}

-- the lanes before `at` have forgotten, the others stand; no room fell
pub record IsForgetting (cycle at : ℕ) (first now : List RoomedLane) : Type 0 where
  pub lanes : lanes_of now ≡ map (timed_below cycle) (take at (lanes_of first)) ++ drop at (lanes_of first)
  pub rooms : (k : ℕ) → get_or (rooms_of first) k 0 ≤ get_or (rooms_of now) k 0
  pub sound : All IsSoundLane (lanes_of now)

-- one lane more
pub forgetting_more : (cycle at : ℕ) (first now : List RoomedLane) (old new : RoomedLane) → IsForgetting cycle at first now
    → at < length now → length now ≡ length first
    → old ≡ get_or now at old → new.lane ≡ timed_below cycle old.lane → old.room ≤ new.room → IsSoundLane new.lane
    → IsForgetting cycle (at + 1) first (set now at new)
forgetting_more cycle at first now old new before within count is lane room sound = record {
  lanes =
      let there : at < length (lanes_of first) = rw (length-map first (λ (l : RoomedLane). l.lane)) (omega arith) in
      let shown : old.lane ≡ get_or (lanes_of now) at old.lane = rw (
        get_or-map (λ (l : RoomedLane). l.lane) now at old old.lane within,
        ← is,
      ) refl in
      rw (map-set (λ (l : RoomedLane). l.lane) now at new, lane) (map_over_more (timed_below cycle) (lanes_of first) (lanes_of now) at
      old.lane there before.lanes shown);
  rooms = λ k.
      let a = before.rooms k in
      let b = shown_kept (λ (l : RoomedLane). l.room) now at old new within is room k in
      omega arith;
  sound = all_sound now at new before.sound sound;
}

-- all lanes have forgotten
pub forgotten : (cycle at : ℕ) (first now : List RoomedLane) → IsForgetting cycle at first now → length first ≤ at
    → lanes_of now ≡ map (timed_below cycle) (lanes_of first)
forgotten cycle at first now all past =
    let beyond : length (lanes_of first) ≤ at = rw (length-map first (λ (l : RoomedLane). l.lane)) past in
    let done = all.lanes in
    rw (take_all at (lanes_of first) beyond, drop_all at (lanes_of first) beyond, append-nil) at done

-- a vector whose items were all lent and came back
pub given_back : {X : Type 0} (xs ys : List X) (n : ℕ) → n ≡ length xs → length ys ≡ length xs → take n (ys ++ drop (length ys) xs) ≡ ys
given_back xs ys n e same = take_at ys (drop (length ys) xs) n (omega arith)
