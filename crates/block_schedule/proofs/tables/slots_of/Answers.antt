use Rattle.std.proofs.Common.{◌∙◌, ap, ◌++◌, ◌∷◌, [], ℕ}
use Rattle.block_schedule.proofs.Slots.{slots_more, slots_all}
use Rattle.block_schedule.proofs.tables.slots_of.Goals as goal

pub loop-number-preserved : goal.loop-number-preserved
loop-number-preserved c =
    slots_more c.args.interval c.args.ops.now c.loop-number.number c.index-ops-number.result c.loop-number.slots.items
    c.push.new.self.items c.loop-number-test.true c.index-ops-number.is c.loop-number.invariant
    (c.in_ok-push.ensures.items
    ∙ ap (λ (r : ℕ). c.loop-number.slots.items ++ (record { rank = r; op = c.loop-number.number }) ∷ []) c.rank.ensures)

pub returns : goal.returns
returns c =
    slots_all c.args.interval c.args.ops.now c.loop-number.number c.loop-number.slots.items c.loop-number-test.false
    c.loop-number.invariant
