use Rattle.std.proofs.Common.{refl, ap, ◌∙◌, ℕ, ◌-◌, set, drop, arith, rules}
use Rattle.std.proofs.lemmas.List.{get_or_read}
use Rattle.engine_view.specs.{log_at, new_step}
use Rattle.engine_view.proofs.Adding.{done_first}
use Rattle.engine_view.proofs.engine.Engine.emit_step.Goals as goal

pub returns : goal.returns
returns c = record {
  emitted = record {
    lanes = let there = c.push_step.ensures.succeeds c.requires.step.lane_room in search rules;
    sound = c.push_step.ensures.sound;
    channels = rw (
      ← c.len.ensures.count,
      ← done_first (new_step c.args.step).accesses
          (drop (new_step c.args.step).first_query (log_at c.args.self.now.log.logs c.args.owner).outcomes),
      ← (c.of_slice.ensures ∙ c.accesses.ensures),
      ← c.first_query.ensures,
    ) c.take_all.ensures.channels;
    kinds = c.take_all.ensures.kinds;
    log = refl;
    ends = refl;
    credits =
        let inside = c.requires.step.owner.credit in
        let there = get_or_read c.args.self.now.credits.items c.args.owner c.index_mut-credit.result.now (omega arith)
        c.index_mut-credit.ensures.value 0 in
        ap (set c.args.self.now.credits.items c.args.owner) (c.saturating_sub.ensures ∙ ap (λ (n : ℕ). n - 2) there);
    room = record {
      place = c.push_step.ensures.rooms;
      one = c.take_all.ensures.one;
      others = rw (← (c.of_slice.ensures ∙ c.accesses.ensures)) c.take_all.ensures.others;
    };
  };
}
