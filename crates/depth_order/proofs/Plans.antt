-- The FIFOs of a plan, and that a plan with other depths is one that the engine takes.
use Rattle.std.proofs.Common.{◌≡◌, ℕ, ◌<◌, ◌≤◌, List, length, true, false, refl, ap, inl, inr}
use Rattle.std.proofs.{lemmas.Bool.cases_lt, lemmas.List.get_or_past}
use Rattle.std.specs.Prelude.{slice_index}
use Rattle.depth_order.specs.{Channel, ChannelKind, Plan, is_fifo, kind_at, no_channel, AreEntriesSound, FitsEngine, with_depths, AreDepths}
use Rattle.flow_design.specs.declared.limits.TheConstants.{FIFO_DEPTH}
use Rattle.flow_design.specs.declared.design.ChannelKind.TheVariants.{Source, Sink, Fifo}

pub fifo_inside : (p : Plan) (f : ℕ) → is_fifo (kind_at p f) ≡ true → f < length p.design.channels
fifo_inside p f e = elim (cases_lt f (length p.design.channels)) [
  | inl l ↦ l
  | inr l ↦
      let past = ap (λ (ch : Channel). is_fifo ch.kind) (get_or_past p.design.channels f no_channel l) in
      cc
]

new_entries : (k : ChannelKind) (inputs : List ℕ) (old depth : ℕ) → AreEntriesSound k inputs old
    → (is_fifo k ≡ true → 1 ≤ depth) → (is_fifo k ≡ true → depth ≤ FIFO_DEPTH) → (is_fifo k ≡ false → depth ≡ 0)
    → AreEntriesSound k inputs depth
new_entries Source inputs old depth h least most none = none refl
new_entries Sink inputs old depth h least most none = (h.0, none refl)
new_entries (Fifo declared delay) inputs old depth h least most none =
    let (empty, low, high, some, few) = h in (empty, least refl, most refl, some, few)

pub depths_fit : (p : Plan) → FitsEngine p → (ds : List ℕ) → AreDepths p ds → FitsEngine (with_depths p ds)
depths_fit p h ds a = record {
  channel_count = h.channel_count;
  module_count = h.module_count;
  inputs = h.inputs;
  depths = a.count;
  input_count = h.input_count;
  channels = λ f l. let k = h.channels f l in record {
    name = k.name;
    popping = k.popping;
    pushing = k.pushing;
    entries = new_entries (kind_at p f) _ (slice_index p.depths f) (slice_index ds f) k.entries (a.least f) (a.most f) (a.others f);
  };
  modules = h.modules;
  some_cycles = h.some_cycles;
  cycles = h.cycles;
  some_operations = h.some_operations;
  operations = h.operations;
  pace = h.pace;
}
