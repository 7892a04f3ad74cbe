use Rattle.std.proofs.Common.{◌≡◌, ap, ◌∙◌, length, arith}
use Rattle.std.specs.List.{flat_map, range_with_len}
use Rattle.engine_report.specs.{keys_of}
use Rattle.engine_report.proofs.Sorting.{sorted_keys}
use Rattle.engine_report.proofs.events.sorted_steps.Goals as goal

pub returns : goal.returns
returns c =
    let all : c.loop-owner.owner ≡ length c.args.graph.now.lanes = omega arith in
    sorted_keys c.args.graph.now.lanes c.loop-owner.keys.items c.sort_unstable.new.self.items c.modules-owner-end.ensures.sound
    (c.loop-owner.invariant ∙ ap (λ n. flat_map (keys_of c.args.graph.now.lanes) (range_with_len 0 n)) all)
    c.sort_unstable.ensures.permutation c.sort_unstable.ensures.sorted
