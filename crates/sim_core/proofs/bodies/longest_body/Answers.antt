use Rattle.std.proofs.Common.{◌≡◌, ◌∙◌, ◌<◌, ◌≤◌, sym, ap, subst, arith, List, length, take, get_or}
use Rattle.std.proofs.{lemmas.List.take_all, lemmas.List.Elements.All-more, lemmas.List.Elements.All-weaker}
use Rattle.std.specs.Prelude.{All}
use Rattle.sim_core.specs.{Block}
use Rattle.sim_core.proofs.bodies.longest_body.Goals as goal

pub loop-block-preserved : goal.loop-block-preserved
loop-block-preserved c =
    let blocks = c.args.of.now.blocks in
    let i = c.loop-block.block-index in
    let b = c.block-item.result in
    let is = c.max-longest.ensures in
    let kept : c.loop-block.longest ≤ c.max-longest.result = grind arith in
    let own : c.len.result ≤ c.max-longest.result = grind arith in
    let count = ap (λ (xs : List Block). length xs) c.as_slice-block-items.ensures in
    let same : b ≡ get_or blocks i b = c.block-item.is ∙ ap (λ (xs : List Block). get_or xs i b) c.as_slice-block-items.ensures in
    let inside : i < length blocks = omega (arith, c.loop-block-test.true) in
    record {
      within =
          All-more (λ (x : Block). length x.ops ≤ c.max-longest.result) blocks i b inside
          (All-weaker (λ (x : Block). length x.ops ≤ c.loop-block.longest) (λ (x : Block). length x.ops ≤ c.max-longest.result)
          (λ x h. omega arith) (take i blocks) c.loop-block.invariant.within)
          (subst (λ (x : Block). length x.ops ≤ c.max-longest.result) same (omega (arith, c.len.ensures)));
      least = λ n h.
          let there : length b.ops ≤ n = subst (λ (x : Block). length x.ops ≤ n) (sym same) (h i b inside) in
          let before = c.loop-block.invariant.least n h in
          let told = c.len.ensures in
          grind arith;
    }

pub returns : goal.returns
returns c =
    let count = ap (λ (xs : List Block). length xs) c.as_slice-block-items.ensures in
    record {
      within = subst (All (λ (x : Block). length x.ops ≤ c.loop-block.longest))
          (take_all c.loop-block.block-index c.args.of.now.blocks (omega (arith, c.loop-block-test.false))) c.loop-block.invariant.within;
      least = c.loop-block.invariant.least;
    }
