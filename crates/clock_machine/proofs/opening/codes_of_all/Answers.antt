use Rattle.std.proofs.Common.{◌≡◌, ◌∙◌, ◌+◌, ◌++◌, [], ◌∷◌, ℕ, List, length, ap, sym, subst, arith}
use Rattle.std.proofs.lemmas.List.{length_push}
use Rattle.std.specs.Prelude.{All}
use Rattle.clock_machine.specs.{Channel, module_at, no_module, KeepsLimits, BlockCode, AreCodesOf}
use Rattle.flow_design.specs.declared.design.Module.{Module}
use Rattle.block_schedule.proofs.Limits.{blocks_keep_limits}
use Rattle.module_code.proofs.Codes.{each_more}
use Rattle.clock_machine.proofs.opening.codes_of_all.Goals as goal

pub codes_of-requires : goal.codes_of-requires
codes_of-requires c =
    let p = c.args.plan.now in
    let i = c.loop-i.i in
    subst (λ (m : Module). All KeepsLimits m.blocks) (sym c.module_at.ensures)
    (blocks_keep_limits (length p.design.channels) (module_at p i)
    (c.fits.ensures.modules i no_module (omega (arith, ap length c.modules-count.ensures))))

pub loop-i-preserved : goal.loop-i-preserved
loop-i-preserved c =
    let p = c.args.plan.now in
    let i = c.loop-i.i in
    let own = c.in_ok-codes_of.field-0 in
    let added : c.push.new.self ≡ c.loop-i.codes ++ own ∷ [] = c.in_ok-push.ensures.ok in
    let is : AreCodesOf p.design.channels (module_at p i) own =
    subst (λ (m : Module). AreCodesOf p.design.channels m own) c.module_at.ensures
    (subst (λ (cs : List Channel). AreCodesOf cs c.module_at.result.now own) c.channels-channels.ensures c.in_ok-codes_of.ensures) in
    record {
      count = ap (λ (xs : List (List BlockCode)). length xs) added
          ∙ (length_push c.loop-i.codes own ∙ ap (λ (n : ℕ). n + 1) c.loop-i.invariant.count);
      each = each_more (λ (n : ℕ) (xs : List BlockCode). AreCodesOf p.design.channels (module_at p n) xs) c.loop-i.codes c.push.new.self
          i own
          c.loop-i.invariant.count added is c.loop-i.invariant.each;
    }
