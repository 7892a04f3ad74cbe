use Rattle.std.proofs.Common.{◌≡◌, ◌∙◌, ap, subst, arith, ℕ, ◌<◌, ◌-◌, List, [], length, get_or, map, Global}
use Rattle.std.proofs.{lemmas.List.FromFn.length-range_with_len, lemmas.List.FromFn.get_or-range_with_len, Crossing.crosses}
use Rattle.std.specs.{List.range_with_len, List.AllZip, Borrow.Bor}
use Rattle.rayon.specs.{Lists.min_len_base, Lists.range_start, Lists.range_end, Numbers.nat_range}
use Rattle.rayon.proofs.ListFacts.{IfOk-then}
use Rattle.depth_sweep.specs.{Plan, GridShape, grid, point}
use Rattle.depth_sweep.proofs.{Grids.all_places, Found.IsFound, Found.all_found, Crossing.plan_sync}
use denote.Param.Send.{sendable}
use Rattle.depth_sweep.proofs.parallel.map_numbers.Goals as goal

pub map-requires-send-F : goal.map-requires-send-F
map-requires-send-F g c κs within = search (plan_sync, crosses, sendable) depth 60 fits 20000

pub map-requires-sync-F : goal.map-requires-sync-F
map-requires-sync-F g c κs within = search (plan_sync, crosses, sendable) depth 60 fits 20000

pub collect-requires-send-Self : goal.collect-requires-send-Self
collect-requires-send-Self g c κs within = search (plan_sync, crosses, sendable) depth 60 fits 20000

pub collect-requires-clause-ready : goal.collect-requires-clause-ready
collect-requires-clause-ready g c κs within =
    let ends = c.into_par_iter.ensures in
    let lists = c.args.shape.lists in
    let all = c.requires in
    rw (c.map.ensures.base, c.map.ensures.f, c.with_min_len.ensures.base, ends.0, ends.1) (λ k d inside.
    let short : k < lists - 0 = omega (arith, inside, length-range_with_len 0 (lists - 0)) in
    let number = get_or-range_with_len 0 (lists - 0) k d short in
    ((all.channels, all.shape, all.fifos, omega (arith, number, short)), λ y p. tt))

pub returns : goal.returns
returns g c =
    let ends = c.into_par_iter.ensures in
    let shape = c.args.shape in
    let lists = grid shape.lo shape.hi shape.fifos in
    let at = λ (number : ℕ). point c.args.plan.now (get_or lists number []) in
    let whole : shape.lists - 0 ≡ length lists = omega (arith, c.requires.shape.lists) in
    let base = ap min_len_base c.map.ensures.base ∙ c.with_min_len.ensures.base in
    let first = ap range_start base ∙ ends.0 in
    let last = ap range_end base ∙ ends.1 in
    IfOk-then c.collect.result _ _ c.collect.ensures (λ v h.
    let numbers = h.1.1 ∙ (λ i. nat_range (first i) (last i)) ∙ ap (range_with_len 0) whole in
    let given : AllZip (IsFound at) h.1.0 h.0 = subst
    (λ (f : Global × Bor Plan × Bor (List ℕ) × GridShape). AllZip (IsFound (λ (number : ℕ). point f.1.now
    (get_or (grid f.3.lo f.3.hi f.3.fifos) number []))) h.1.0 h.0) c.map.ensures.f h.1.2 in
    IfOk-then v _ _ (all_found at h.1.0 h.0 v _ given h.2)
    (λ points is. is ∙ (ap (map at) numbers ∙ all_places (point c.args.plan.now) lists [])))
