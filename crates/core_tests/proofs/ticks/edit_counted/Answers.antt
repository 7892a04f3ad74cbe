use Rattle.std.proofs.Common.{◌≡◌, ◌∙◌, ap, ap₂, map, length, List, arith, ℕ}
use Rattle.std.proofs.lemmas.List.{length-map}
use Rattle.core_tests.specs.{Plan, Lane, others_of}
use Rattle.core_tests.proofs.Counting.{edit_ticks}
use Rattle.core_tests.proofs.ticks.edit_counted.Goals as goal

pub count_moved-requires : goal.count_moved-requires
count_moved-requires g c =
    let before = ap (λ (xs : List (List ℕ)). length xs) c.in_ok-before.ensures in
    let after = ap (λ (xs : List (List ℕ)). length xs) c.in_ok-after.ensures in
    let first = length-map c.in_ok-before.before.items (λ v. v.items) in
    let last = length-map c.in_ok-after.after.items (λ v. v.items) in
    let old = length-map c.args.core.now.held.lanes (λ (l : Lane). l.cycles) in
    let new = length-map c.edit-same.new.self.held.lanes (λ (l : Lane). l.cycles) in
    let shown = ap length c.as_slice.ensures.value in
    let shown_then = ap length c.as_slice-2.ensures.value in
    let lanes = c.modules-modules.ensures.lanes in
    let count = c.modules-modules.ensures.count in
    let lanes_then = c.modules-modules_after.ensures.lanes in
    let count_then = c.modules-modules_after.ensures.count in
    let plan = ap (λ (p : Plan). length p.design.modules) c.edit-same.ensures.plan in
    omega (arith, before, after, first, last, old, new, shown, shown_then, lanes, count, lanes_then, count_then, plan)

pub returns-clause-ticked : goal.returns-clause-ticked
returns-clause-ticked g c =
    let old = c.args.core.now in
    let new = c.edit-same.new.self in
    let plan = ap (λ (p : Plan). length p.design.modules) c.edit-same.ensures.plan in
    let lanes = c.modules-modules.ensures.lanes in
    let count = c.modules-modules.ensures.count in
    let lanes_then = c.modules-modules_after.ensures.lanes in
    let count_then = c.modules-modules_after.ensures.count in
    let same : length old.held.lanes ≡ length new.held.lanes = omega (arith, plan, lanes, count, lanes_then, count_then) in
    let told =
    c.count_moved.ensures
    ∙ ap₂ others_of (ap (map (λ v. v.items)) c.as_slice.ensures.value ∙ c.in_ok-before.ensures)
    (ap (map (λ v. v.items)) c.as_slice-2.ensures.value ∙ c.in_ok-after.ensures) in
    (edit_ticks old new c.args.edit.now c.edit-same.result c.args.steps.now c.edit-same.new.steps c.edit-same.ensures.edited same
    c.count_moved.result told).0
