use Rattle.std.proofs.Common.{◌≡◌, [], ap₂, ◌∙◌, sym, map, get_or, length, arith}
use Rattle.std.proofs.lemmas.List.{length-map}
use Rattle.core_tests.specs.{others_in}
use Rattle.core_tests.proofs.Counting.{others_more, list_at}
use Rattle.core_tests.proofs.ticks.count_moved.Goals as goal

pub loop-k-preserved : goal.loop-k-preserved
loop-k-preserved g c =
    let old = map (λ v. v.items) c.args.old.now in
    let new = map (λ v. v.items) c.args.new.now in
    let k = c.loop-k.k in
    let counts = length-map c.args.old.now (λ v. v.items) in
    let counts2 = length-map c.args.new.now (λ v. v.items) in
    let more = others_more old new k (omega arith) (omega arith) in
    let here : others_in (get_or old k []) (get_or new k []) ≡ c.count_others-others.result =
    ap₂ others_in (list_at (λ v. v.items) c.args.old.now k c.index-old-k.result (omega arith) c.index-old-k.is ∙ sym
    c.as_slice.ensures.value)
    (list_at (λ v. v.items) c.args.new.now k c.index-new-k.result (omega arith) c.index-new-k.is ∙ sym c.as_slice-in-loop-k.ensures.value)
    ∙ sym c.count_others-others.ensures in
    let so_far = c.loop-k.invariant in
    let sum = (c.in-Some.ensures).1 in
    omega (arith, sum, so_far, more, here)
