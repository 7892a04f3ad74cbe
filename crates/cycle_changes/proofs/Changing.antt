-- Lanes with other cycles, as puts leave them.
use Rattle.std.proofs.Common.{◌≡◌, refl, sym, ap, ap₂, subst, ◌∙◌, ℕ, suc, ◌<◌, ◌≤◌, ◌⊎◌, inl, inr, List, [], ◌∷◌, length, get_or, Vec}
use Rattle.std.proofs.Common.{Option, Global, arith}
use Rattle.std.proofs.{Math.ListN.set, Math.Seq.map-set_same, Math.Seq.drop-length, lemmas.Bool.Decides.eqb_tells}
use Rattle.std.proofs.lemmas.List.{get_or-set_same, set-set, set-get_or}
use Rattle.std.specs.Prelude.{All, Contains}
use Rattle.cycle_changes.specs.{Place, Side, Lane, IsSoundLane, lane_at, no_lane, put_in, TableChannel, RoomedChannels, Channel, channel_at}
use Rattle.cycle_changes.specs.{deepened, depth_of, unused, deepened_channels, place_of, room_of, Engine, held_in, Edit, Advance}
use Rattle.cycle_changes.specs.{RoomedLogs, only_steps, HasOtherCycles, Put, LosesNoRoom, put_places, undone, ArePut, HasPut}
use Rattle.flow_word.specs.declared.access.Side.TheVariants.{Pop, Push}
use Rattle.fifo_table.specs.declared.channel.TableChannel.TheVariants.{Source, Sink, Fifo}
use Rattle.retime.proofs.Counts.{same_length, same_steps}
use Rattle.cycle_changes.proofs.Putting.{no_puts, put_count, put_apart}

-- ---- what puts leave

undone_counts : (ps : List Put) (lanes : List Lane) (m : ℕ)
    → length (lane_at (undone ps lanes) m).cycles ≡ length (lane_at lanes m).cycles
undone_counts [] lanes m = refl
undone_counts (p ∷ ps) lanes m = put_count (undone ps lanes) p.place p.old m ∙ undone_counts ps lanes m

undone_only : (ps : List Put) (lanes : List Lane) → only_steps (undone ps lanes) ≡ only_steps lanes
undone_only [] lanes = refl
undone_only (p ∷ ps) lanes =
    map-set_same (λ (l : Lane). l.steps) (undone ps lanes) p.place.module
    (put_in (lane_at (undone ps lanes) p.place.module) p.place.step p.old) no_lane refl
    ∙ undone_only ps lanes

contains_more : (p : Place) (ps : List Place) (q : Place) → Contains ps q → Contains (p ∷ ps) q
contains_more p ps q (k, l, e) = (suc k, omega arith, e)

-- a step whose place is not among the puts has the cycle that it had
undone_cycle : (ps : List Put) (lanes : List Lane) (m k : ℕ)
    → (get_or (lane_at (undone ps lanes) m).cycles k 0 ≡ get_or (lane_at lanes m).cycles k 0) ⊎ Contains (put_places ps) (place_of m k)
undone_cycle [] lanes m k = inl refl
undone_cycle (p ∷ ps) lanes m k =
    elim (undone_cycle ps lanes m k) [
      | inr more ↦ inr (contains_more p.place (put_places ps) (place_of m k) more)
      | inl same ↦ elim (eqb_tells m p.place.module) [
        | inr apart ↦ inl (put_apart (undone ps lanes) p.place p.old m k (λ (e, f). apart.1 e) ∙ same)
        | inl at ↦ elim (eqb_tells k p.place.step) [
          | inr apart ↦ inl (put_apart (undone ps lanes) p.place p.old m k (λ (e, f). apart.1 f) ∙ same)
          | inl there ↦ inr (0, omega arith, ap₂ (λ (a b : ℕ). place_of a b) (sym at.1) (sym there.1))
        ]
      ]
    ]

-- the puts lead to lanes with other cycles
pub record AreOther (first : List Lane) (puts : List Put) (now : List Lane) : Type 0 where
  pub lanes : length now ≡ length first
  pub steps : (m : ℕ) → (lane_at now m).steps ≡ (lane_at first m).steps
  pub counts : (m : ℕ) → length (lane_at now m).cycles ≡ length (lane_at first m).cycles
  pub only : only_steps now ≡ only_steps first
  pub sound : All IsSoundLane now
  pub same : (m k : ℕ) → (get_or (lane_at now m).cycles k 0 ≡ get_or (lane_at first m).cycles k 0)
      ⊎ Contains (put_places puts) (place_of m k)

pub puts_are_other : (first : List Lane) (puts : List Put) (now : List Lane) → ArePut first puts now → AreOther first puts now
puts_are_other first puts now are =
    let only = sym (undone_only puts now) ∙ ap only_steps are.back in
    record {
      lanes = same_length first now only;
      steps = same_steps first now only;
      counts = λ m. sym (undone_counts puts now m) ∙ ap (λ (ls : List Lane). length (lane_at ls m).cycles) are.back;
      only = only;
      sound = subst (λ (ps : List Put). All IsSoundLane (undone ps now)) (drop-length puts) (are.sound (length puts));
      same = λ m k. elim (undone_cycle puts now m k) [
        | inl e ↦ inl (sym e ∙ ap (λ (ls : List Lane). get_or (lane_at ls m).cycles k 0) are.back)
        | inr more ↦ inr more
      ];
    }

-- ---- depths

deepened_same : (kind : TableChannel) → deepened kind (depth_of kind) ≡ kind
deepened_same (Source inputs) = refl
deepened_same Sink = refl
deepened_same (Fifo depth delay) = refl

-- a depth that stands, set again
pub depth_stands : (channels : List Channel) (c : ℕ) → deepened_channels channels c (depth_of (channel_at channels c).kind) ≡ channels
depth_stands channels c =
    ap (λ (k : TableChannel). set channels c (record (channel_at channels c) { kind = k })) (deepened_same (channel_at channels c).kind)
    ∙ set-get_or channels c (unused Sink)

deepened_back : (kind : TableChannel) (depth : ℕ) → deepened (deepened kind depth) (depth_of kind) ≡ kind
deepened_back (Source inputs) depth = refl
deepened_back Sink depth = refl
deepened_back (Fifo old delay) depth = refl

-- a depth set back
pub depth_back : (channels : List Channel) (c depth : ℕ) → c < length channels
    → deepened_channels (deepened_channels channels c depth) c (depth_of (channel_at channels c).kind) ≡ channels
depth_back channels c depth within =
    let here = channel_at channels c in
    let deep : Channel = record here { kind = deepened here.kind depth } in
    let at = get_or-set_same channels c deep (unused Sink) within in
    let back : Channel → Channel = λ (q : Channel). record q { kind = deepened q.kind (depth_of here.kind) } in
    ap (λ (q : Channel). set (deepened_channels channels c depth) c (back q)) at
    ∙ (set-set channels c deep (back deep)
    ∙ (ap (λ (k : TableChannel). set channels c (record here { kind = k })) (deepened_back here.kind depth)
    ∙ set-get_or channels c (unused Sink)))

-- ---- an engine with another depth, and with puts

-- the depth is the edit's, the puts lead from the lanes of the one to those of the other, and all else is as it was
pub record IsPutEdited (s : Engine) (edit : Edit) (puts : List Put) (t : Engine) : Type 0 where
  pub lanes : ArePut s.graph.lanes puts t.graph.lanes
  pub lane_rooms : t.graph.rooms ≡ s.graph.rooms
  pub channels : t.fifos.channels ≡ deepened_channels s.fifos.channels edit.channel edit.depth
  pub push_rooms : t.fifos.push_rooms ≡ s.fifos.push_rooms
  pub pop_rooms : t.fifos.pop_rooms ≡ s.fifos.pop_rooms
  pub log : t.log ≡ s.log
  pub ends : t.ends ≡ s.ends
  pub credits : t.credits ≡ s.credits

-- so it is where puts followed a depth that was set
pub put_edited : (s t : Engine) (fifos : RoomedChannels) (edit : Edit) (puts : List Put)
    → fifos.channels ≡ deepened_channels s.fifos.channels edit.channel edit.depth → fifos.push_rooms ≡ s.fifos.push_rooms
    → fifos.pop_rooms ≡ s.fifos.pop_rooms → HasPut (record s { fifos = fifos }) puts t → IsPutEdited s edit puts t
put_edited s t fifos edit puts channels pushes pops put = record {
  lanes = put.lanes;
  lane_rooms = put.rooms;
  channels = ap (λ (q : RoomedChannels). q.channels) put.fifos ∙ channels;
  push_rooms = ap (λ (q : RoomedChannels). q.push_rooms) put.fifos ∙ pushes;
  pop_rooms = ap (λ (q : RoomedChannels). q.pop_rooms) put.fifos ∙ pops;
  log = put.log;
  ends = put.ends;
  credits = put.credits;
}

-- nothing is put yet
pub none_put : (s : Engine) → All IsSoundLane s.graph.lanes → HasPut s [] s
none_put s sound = record {
  lanes = no_puts s.graph.lanes sound;
  rooms = refl;
  fifos = refl;
  log = refl;
  ends = refl;
  credits = refl;
}

module _ (s t : Engine) (edit : Edit) (puts : List Put) (put : IsPutEdited s edit puts t) where
  pub other_cycles : HasOtherCycles (held_in s) (held_in t) edit
  other_cycles =
      let o = puts_are_other s.graph.lanes puts t.graph.lanes put.lanes in
      record {
        lanes = o.lanes;
        steps = o.steps;
        counts = o.counts;
        sound = o.sound;
        channels = put.channels;
        logs = ap (λ (l : RoomedLogs). l.logs) put.log;
        over = rw put.ends refl;
      }

  pub no_room_lost : LosesNoRoom s t
  no_room_lost = record {
    lanes = λ k. let e = ap (λ (rs : List ℕ). get_or rs k 0) put.lane_rooms in omega arith;
    fifos = at_side;
    logs = ap (λ (l : RoomedLogs). l.rooms) put.log;
    ends = put.ends;
    credits = put.credits;
  }
    where
      at_side : (side : Side) (c : ℕ) → room_of s.fifos side c ≤ room_of t.fifos side c
      at_side Pop c = let e = ap (λ (rs : List ℕ). get_or rs c 0) put.pop_rooms in omega arith
      at_side Push c = let e = ap (λ (rs : List ℕ). get_or rs c 0) put.push_rooms in omega arith

abbrev engine_of : List Lane → List ℕ → List Channel → List ℕ → List ℕ → RoomedLogs → Vec (Option Advance) Global
    → Vec ℕ Global → Engine
engine_of lanes rooms channels pushes pops log ends credits = record {
  graph = record { lanes = lanes; rooms = rooms };
  fifos = record { channels = channels; push_rooms = pushes; pop_rooms = pops };
  log = log;
  ends = ends;
  credits = credits;
}

-- where all is as it was, the engine is
pub all_same : (s t : Engine) → t.graph.lanes ≡ s.graph.lanes → t.graph.rooms ≡ s.graph.rooms → t.fifos.channels ≡ s.fifos.channels
    → t.fifos.push_rooms ≡ s.fifos.push_rooms → t.fifos.pop_rooms ≡ s.fifos.pop_rooms → t.log ≡ s.log → t.ends ≡ s.ends
    → t.credits ≡ s.credits → t ≡ s
all_same s t lanes rooms channels pushes pops log ends credits =
    let same : engine_of t.graph.lanes t.graph.rooms t.fifos.channels t.fifos.push_rooms t.fifos.pop_rooms t.log t.ends t.credits ≡ s =
    rw (lanes, rooms, channels, pushes, pops, log, ends, credits) refl in
    same
