use Rattle.std.proofs.Common.{◌∙◌, ap, arith, ℕ, List, None, length, slice_index}
use Rattle.path_text.proofs.Counting.{clocks_within}
use Rattle.path_text.proofs.counts.clocks_by_module.Goals as goal

pub add_clocks-requires-clause-few : goal.add_clocks-requires-clause-few
add_clocks-requires-clause-few c m l =
    let same = c.as_mut_slice.ensures.value in
    let long = ap (λ (xs : List ℕ). length xs) same in
    let count = c.loop-link.invariant.count in
    let held = ap (λ (xs : List ℕ). slice_index xs m) same ∙ c.loop-link.invariant.each m (omega arith) in
    let within = clocks_within c.args.links.now c.loop-link.link-index m (record { «module» = 0; first = 0; last = 0; crossed = None })
    c.loop-link-test.true in
    let few = c.requires.few in
    omega arith
