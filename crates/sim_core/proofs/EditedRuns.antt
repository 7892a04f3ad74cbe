-- The runs and the ends stand in the edited plan where they stood, and the table has its channels.
use Rattle.std.proofs.Common.{◌≡◌, refl, sym, ap, subst, ◌∙◌, ℕ, zero, suc, ◌<◌, inl, inr, Bool, true, List, length, get_or, arith}
use Rattle.std.proofs.lemmas.Bool.Decides.{eqb_tells}
use Rattle.std.proofs.lemmas.List.{length-map, length-set, get_or-map, get_or-set_same, get_or-set_other, same_lists}
use Rattle.std.proofs.lemmas.List.FromFn.{get_or-map-range_with_len, length-map-range_with_len}
use Rattle.sim_core.specs.{ChannelKind, Edit, Plan, Advance, ModuleState, Reply, is_fifo, kind_at, with_depth, EditFits, FitsEngine, moment}
use Rattle.sim_core.specs.{opening, Own, owner, quiet, quiet_below, measure, Path, ModuleRun, rest_at, replies_to, next_rest, mark_at}
use Rattle.sim_core.specs.{IsPathOf, StandsAt, TableChannel, Channel, IsFifo, channel_at, deepened, depth_of, unused, deepened_channels}
use Rattle.sim_core.specs.{kinds_in, IsEditIn, kind_by, kind_in, kinds_of, source_values, IsRunOf, IsEndOf, rest_after}
use Rattle.fifo_table.specs.declared.channel.TableChannel.TheVariants.{Sink}
use Rattle.event_timing.specs.Core.{Core}
use Rattle.timing_bridge.proofs.Edits.{edited_fits}
use Rattle.sim_core.proofs.Marking.{table_count, table_kind}

-- ---- runs

rest_edited : (p : Plan) (c depth i : ℕ) (r : List (List Reply)) (n : ℕ) → rest_at (with_depth p c depth) i r n ≡ rest_at p i r n
unfolding rest_at quiet quiet_below measure
rest_edited p c depth i r zero = refl
rest_edited p c depth i r (suc n) = ap (λ (o : Own). next_rest p i o (replies_to r n)) (rest_edited p c depth i r n)

module _ (p : Plan) (fits : FitsEngine p) (e : Edit) (fit : EditFits p e) (i : ℕ) where
  abbrev q : Plan
  q = with_depth p e.channel e.depth

  path_edited : (x : Path) → IsPathOf p i x → IsPathOf q i x
  path_edited x y = record {
    fits = edited_fits p fits e fit;
    owner = y.owner;
    of = y.of;
    limit = y.limit;
    codes = y.codes;
    state = y.state;
    operations = y.operations;
    time = record { since = y.time.since; left = y.time.left; clock = y.time.clock };
    stage = y.stage;
  }

  stands_edited : (o : Own) (run : ModuleRun) → StandsAt p i o run → StandsAt q i o run
  unfolding quiet quiet_below measure
  stands_edited o run s = record {
    leads = record { path = path_edited run.path.value s.leads.path; rest = s.leads.rest; since = s.leads.since };
    tally = s.tally;
    ports = s.ports;
    few = s.few;
    accesses = s.accesses;
    in_time = record { since = s.in_time.since; left = s.in_time.left; clock = s.in_time.clock };
    after = s.after;
  }

  -- with other cycles, of other steps, and other outcomes verified
  module _ (x : Core ModuleState) (timed : ℕ → ℕ) (cycle : ℕ → ℕ → ℕ) (verified : ℕ → ℕ → Bool) where
    abbrev z : Core ModuleState
    z = record x { timed = timed; cycle = cycle; verified = verified }

    after_edited : (k : ℕ) → rest_after q z i k ≡ rest_after p x i k
    unfolding moment opening owner
    after_edited k = rest_edited p e.channel e.depth i _ k

    pub run_edited : (run : ModuleRun) → IsRunOf p x i run → IsRunOf q z i run
    unfolding moment opening owner
    run_edited run r = record {
      waiting = λ w. let (k, is, stands) = r.waiting w in (k, is, moved k stands);
      going = λ w. let (answered, stands) = r.going w in (answered, moved (x.emitted i) stands);
      over = r.over;
    }
      where
        moved : (k : ℕ) → StandsAt p i (rest_after p x i k) run → StandsAt q i (rest_after q z i k) run
        moved k s = subst (λ (o : Own). StandsAt q i o run) (sym (after_edited k)) (stands_edited (rest_after p x i k) run s)

    pub end_edited : (mark : Advance) → IsEndOf p x i mark → IsEndOf q z i mark
    unfolding moment opening owner
    end_edited mark m = record {
      no_step = m.no_step;
      short = m.short;
      answered = m.answered;
      is = m.is ∙ ap (mark_at p i) (sym (after_edited (x.emitted i)));
    }

-- ---- the table

deepens : (k : ChannelKind) (inputs : List ℕ) (old depth : ℕ) → is_fifo k ≡ true
    → deepened (kind_by k inputs old) depth ≡ kind_by k inputs depth
deepens k inputs old depth f = grind arith

is_fifo_kind : (k : ChannelKind) (inputs : List ℕ) (depth : ℕ) → is_fifo k ≡ true → IsFifo (kind_by k inputs depth)
is_fifo_kind k inputs depth f = grind arith

its_depth : (k : ChannelKind) (inputs : List ℕ) (depth : ℕ) → is_fifo k ≡ true → depth_of (kind_by k inputs depth) ≡ depth
its_depth k inputs depth f = grind arith

module _ (p : Plan) (fits : FitsEngine p) (e : Edit) (fit : EditFits p e) (channels : List Channel) (t : kinds_in channels ≡ kinds_of p)
  where
    abbrev later : Plan
    later = with_depth p e.channel e.depth

    pub channel_inside : e.channel < length channels
    channel_inside = let n = table_count p channels t in let l = fit.entry in let m = fits.depths in omega arith

    kind_there : (channel_at channels e.channel).kind ≡ kind_in p e.channel
    kind_there = table_kind p channels t e.channel channel_inside

    pub fifo_there : IsFifo (channel_at channels e.channel).kind
    fifo_there = subst IsFifo (sym kind_there) (is_fifo_kind (kind_at p e.channel) _ _ fit.fifo)

    pub edit_in : IsEditIn channels e
    edit_in = record { inside = channel_inside; is_fifo = fifo_there; least = fit.least; most = fit.most }

    pub depth_there : depth_of (channel_at channels e.channel).kind ≡ get_or p.depths e.channel 0
    depth_there = ap depth_of kind_there ∙ its_depth (kind_at p e.channel) _ _ fit.fifo

    abbrev changed : List Channel
    changed = deepened_channels channels e.channel e.depth

    kind_of : (cs : List Channel) (c : ℕ) (d : TableChannel) → c < length cs → get_or (kinds_in cs) c d ≡ (channel_at cs c).kind
    kind_of cs c d l = get_or-map (λ (k : Channel). k.kind) cs c (unused Sink) d l

    kind_now : (c : ℕ) → c < length channels → (channel_at changed c).kind ≡ kind_in later c
    kind_now c l =
        elim (eqb_tells c e.channel) [
          | inl u ↦
              let at : (channel_at changed e.channel).kind ≡ deepened (channel_at channels e.channel).kind e.depth =
              ap (λ (k : Channel). k.kind) (get_or-set_same channels e.channel _ (unused Sink) channel_inside) in
              let is : deepened (channel_at channels e.channel).kind e.depth ≡ kind_by (kind_at p e.channel)
              (source_values p e.channel) e.depth =
              ap (λ (k : TableChannel). deepened k e.depth) kind_there ∙ deepens (kind_at p e.channel) _ _ e.depth fit.fifo in
              let depth : get_or later.depths e.channel 0 ≡ e.depth = get_or-set_same p.depths e.channel e.depth 0 fit.entry in
              subst (λ (v : ℕ). (channel_at changed v).kind ≡ kind_in later v) (sym u.1)
              (at ∙ (is ∙ ap (λ (n : ℕ). kind_by (kind_at p e.channel) (source_values p e.channel) n) (sym depth)))
          | inr u ↦
              ap (λ (k : Channel). k.kind) (get_or-set_other channels e.channel c _ (unused Sink) u.1)
              ∙ (table_kind p channels t c l
              ∙ ap (λ (n : ℕ). kind_by (kind_at p c) (source_values p c) n) (sym (get_or-set_other p.depths e.channel c e.depth 0 u.1)))
        ]

    -- the channels with the edit are those of the edited plan
    pub kinds_edited : kinds_in changed ≡ kinds_of later
    kinds_edited =
        let long : length changed ≡ length channels = length-set channels e.channel _ in
        let count = table_count p channels t in
        let kinds : length (kinds_in changed) ≡ length changed = length-map changed (λ (k : Channel). k.kind) in
        let other : length (kinds_of later) ≡ length p.design.channels = length-map-range_with_len (kind_in later) 0
        (length p.design.channels) in
        same_lists (kinds_in changed) (kinds_of later) (omega arith)
        (λ c d l.
        kind_of changed c d (omega arith)
        ∙ (kind_now c (omega arith)
        ∙ sym (get_or-map-range_with_len (kind_in later) 0 (length p.design.channels) c c d (omega arith) (omega arith))))
