use Rattle.std.proofs.Common.{◌≡◌, ◌∙◌, ℕ, ◌+◌, List, length, get_or, sym, ap, subst}
use Rattle.std.proofs.lemmas.List.{length_push, get_or_default}
use Rattle.std.specs.Prelude.{All}
use Rattle.module_code.specs.{Block, no_block, block_at, KeepsLimits, BlockCode, IsBlockCodeOf}
use Rattle.module_code.proofs.Codes.{each_more}
use Rattle.module_code.proofs.code.codes_of.Goals as goal

pub code_of-requires : goal.code_of-requires
code_of-requires c =
    subst KeepsLimits (sym c.block-item.is)
    (subst (All KeepsLimits) (sym c.as_slice-blocks.ensures) c.requires c.loop-block.block-index c.block-item.result c.loop-block-test.true)

pub loop-block-preserved : goal.loop-block-preserved
loop-block-preserved c =
    let x = c.in_ok-code_of.field-0 in
    let m = c.args.of.now in
    let i = c.loop-block.block-index in
    let item : c.block-item.result ≡ block_at m i = c.block-item.is
    ∙ (get_or_default c.as_slice-blocks.result.now i c.block-item.result no_block c.loop-block-test.true
    ∙ ap (λ (bs : List Block). get_or bs i no_block) c.as_slice-blocks.ensures) in
    let is : IsBlockCodeOf c.args.channels.now m (block_at m i) x =
    subst (λ (b : Block). IsBlockCodeOf c.args.channels.now m b x) item c.in_ok-code_of.ensures in
    record {
      count = ap (λ (xs : List BlockCode). length xs) c.in_ok-push.ensures.ok
          ∙ (length_push c.loop-block.codes x ∙ ap (λ (n : ℕ). n + 1) c.loop-block.invariant.count);
      each = each_more (λ (n : ℕ) (y : BlockCode). IsBlockCodeOf c.args.channels.now m (block_at m n) y) c.loop-block.codes
          c.push.new.self i x
          c.loop-block.invariant.count c.in_ok-push.ensures.ok is c.loop-block.invariant.each;
    }
