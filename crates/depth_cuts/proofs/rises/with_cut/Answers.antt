use Rattle.std.proofs.Common.{ℕ, List, ◌≤◌, ◌≡◌, subst, arith}
use Rattle.std.specs.Prelude.{slice_index_or, slice_index, All, ◌*◌, ◌-◌}
use Rattle.depth_cuts.specs.{Need, Cut}
use Rattle.depth_cuts.proofs.Apart.{cut_reached}
use Rattle.depth_cuts.proofs.rises.with_cut.Goals as goal

pub returns-clause-reached : goal.returns-clause-reached
returns-clause-reached c =
    let demands = c.args.demands.now in
    let ds = c.args.at.now.depths in
    let cut = c.index-as_slice-place.result in
    let needs = c.as_slice-needs.ensures in
    let is = subst (λ (cs : List Cut). cut ≡ slice_index_or cs c.args.place cut) c.as_slice.ensures c.index-as_slice-place.is in
    let free = subst (λ (ns : List Need). All (λ n. slice_index c.args.used.now n.channel ≡ 0) ns) needs
    (subst (λ (us : List ℕ). All (λ n. slice_index us n.channel ≡ 0) c.as_slice-needs.result.now) c.as_slice-else-is_met.ensures
    (c.are_unused.ensures c.if-not-are_unused.false)) in
    let full = subst (λ (ns : List Need). All (λ n. 1 ≤ slice_index c.mark_used.new.used n.channel) ns) needs c.mark_used.ensures.marked in
    let least = subst (λ (ns : List Need). All (λ n. c.least_rise.result.bits
    ≤ (n.depth - slice_index ds n.channel) * slice_index demands.widths n.channel) ns) needs c.least_rise.ensures.least in
    cut_reached demands c.args.used.now c.mark_used.new.used ds c.args.rises c.least_rise.result.bits c.saturating_add.result c.args.place
    cut c.requires.demands c.requires.count c.requires.place is free full c.mark_used.ensures.kept least (omega (
      arith,
      c.saturating_add.ensures,
    ))
    c.requires.reached
