-- A plan under other limits.
use Rattle.std.proofs.{Common.ℕ, Common.◌≤◌, Common.◌^◌, Common.Option, Common.None, Common.Some, Math.Nat.le_trans}
use Rattle.std.specs.Prelude.{unwrap_or}
use Rattle.whole_answer.specs.{Scale, Plan, limits_at, FitsEngine, KeepsScale, Options, AreLimits, IsLimit, with_limits}
use Rattle.flow_check.proofs.Scales.{limits_most, at_pace}

-- the limit that is given, and else the plan's own
limit_kept : (high own : ℕ) (given : Option ℕ) → 1 ≤ own → own ≤ high → IsLimit high given
    → (1 ≤ unwrap_or given own) × (unwrap_or given own ≤ high)
limit_kept high own None some most within = (some, most)
limit_kept high own (Some n) some most within = within

pub limits_fit : (scale : Scale) (o : Options) (p : Plan) → FitsEngine p → KeepsScale scale p → AreLimits scale o
    → FitsEngine (with_limits o p)
limits_fit scale o p engine keeps limits =
    let cycles = limit_kept (10 ^ 15) p.cycles o.cycles engine.some_cycles engine.cycles limits.0 in
    let ops = limit_kept (limits_at scale).counted_operations p.ops o.ops engine.some_operations keeps.operations limits.1 in
    record {
      channel_count = engine.channel_count;
      module_count = engine.module_count;
      inputs = engine.inputs;
      depths = engine.depths;
      input_count = engine.input_count;
      channels = λ f there. let sound = engine.channels f there in
          record { name = sound.name; popping = sound.popping; pushing = sound.pushing; entries = sound.entries };
      modules = engine.modules;
      some_cycles = cycles.0;
      cycles = cycles.1;
      some_operations = ops.0;
      operations = le_trans ops.1 (limits_most scale).counted_operations;
      pace = λ m dm lm b db lb. at_pace scale _ _ ops.1 (keeps.blocks m dm lm b db lb).clocks;
    }
