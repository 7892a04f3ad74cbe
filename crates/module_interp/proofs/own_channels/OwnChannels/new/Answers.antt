use Rattle.std.proofs.Common.{◌≡◌, ◌∙◌, ap, subst, sym, arith, ℕ, List, length, take, get_or, eqb}
use Rattle.std.proofs.{lemmas.List.take_all, lemmas.List.Filters.dedup_is, lemmas.List.Kept.Contains-dedup_nat}
use Rattle.std.proofs.{lemmas.List.Sorted.Contains-permutation, lemmas.Map.Keys.IsStrictlyIncreasing-dedup}
use Rattle.std.proofs.lemmas.List.Elements.{All-more, All-weaker}
use Rattle.std.specs.{Prelude.All, Prelude.Contains, List.Sorted.IsStrictlyIncreasing}
use Rattle.module_interp.specs.{Block, Timed, IsGathered}
use Rattle.module_interp.proofs.{Gathered.gathered_more, Gathered.used_gathered, Places.position_inside}
use Rattle.module_interp.proofs.own_channels.OwnChannels.new.Goals as goal

pub loop-block-preserved : goal.loop-block-preserved
loop-block-preserved c =
    let blocks = c.args.of.now.blocks in
    let i = c.loop-block.block-index in
    let b = c.block-item.result in
    let side = c.args.side in
    let old = c.loop-block.items.items in
    let new = c.gather.new.channels.items in
    let count = ap (λ (xs : List Block). length xs) c.as_slice-block-items.ensures in
    let same : b ≡ get_or blocks i b = c.block-item.is ∙ ap (λ (xs : List Block). get_or xs i b) c.as_slice-block-items.ensures in
    All-more (λ (x : Block). All (λ t. IsGathered side new t.op) x.ops) blocks i b (omega (arith, c.loop-block-test.true))
    (All-weaker (λ (x : Block). All (λ t. IsGathered side old t.op) x.ops) (λ (x : Block). All (λ t. IsGathered side new t.op) x.ops)
    (λ x h k t l. gathered_more side old new c.in_ok-gather.ensures.kept _ (h k t l)) (take i blocks) c.loop-block.invariant)
    (subst (λ (x : Block). All (λ t. IsGathered side new t.op) x.ops) same
    (subst (All (λ (t : Timed). IsGathered side new t.op)) c.as_slice.ensures c.in_ok-gather.ensures.gathered))

pub invariant_of-result : goal.invariant_of-result
invariant_of-result c =
    subst IsStrictlyIncreasing (sym (dedup_is eqb c.sort.new.self.items c.dedup.new.self.items c.dedup.ensures.filtered))
    (IsStrictlyIncreasing-dedup c.sort.new.self.items c.in_ok-sort.ensures.sorted)

pub returns : goal.returns
returns c = λ f used.
    let blocks = c.args.of.now.blocks in
    let found = c.loop-block.items.items in
    let count = ap (λ (xs : List Block). length xs) c.as_slice-block-items.ensures in
    let same = dedup_is eqb c.sort.new.self.items c.dedup.new.self.items c.dedup.ensures.filtered in
    let all = subst (All (λ (x : Block). All (λ t. IsGathered c.args.side found t.op) x.ops))
    (take_all c.loop-block.block-index blocks (omega (arith, c.loop-block-test.false))) c.loop-block.invariant in
    position_inside c.dedup.new.self.items
    (subst IsStrictlyIncreasing (sym same) (IsStrictlyIncreasing-dedup c.sort.new.self.items c.in_ok-sort.ensures.sorted)) f
    (subst (λ (xs : List ℕ). Contains xs f) (sym same)
    (Contains-dedup_nat c.sort.new.self.items f
    (Contains-permutation found c.sort.new.self.items f c.sort.ensures.permutation
    (used_gathered c.args.side found c.args.of.now all f used))))
