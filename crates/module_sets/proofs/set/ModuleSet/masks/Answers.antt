use Rattle.std.proofs.Common.{arith, ◌<◌, length, sym, refl, ◌∙◌}
use Rattle.module_sets.proofs.Words.{masks_more, masks_empty, inside, read}
use Rattle.module_sets.proofs.set.ModuleSet.masks.Goals.{then-bits-ne0+in_ok-push, else-bits-ne0}
use Rattle.module_sets.proofs.set.ModuleSet.masks.Goals as goal

pub loop-word-preserved : goal.loop-word-preserved
loop-word-preserved c =
    let there : c.loop-word.word < length c.self.inside.words.items = omega arith in
    let is = read c.self.inside.words.items c.loop-word.word c.index-bits.result.now there c.index-bits.ensures in
    let before = rw (← c.self.view_is) at c.loop-word.invariant in
    elim c.if-bits-ne0.branch [
      | then-bits-ne0+in_ok-push w ↦ rw (← c.self.view_is, w.masks-is, w.in_ok-push.ensures.ok)
          (masks_more c.self.inside.words.items c.loop-word.word c.loop-word.masks _ before refl is)
      | else-bits-ne0 w ↦ rw (← c.self.view_is, w.masks-is)
          (masks_empty c.self.inside.words.items c.loop-word.word c.loop-word.masks before (sym is ∙ w.if-bits-ne0.false))
    ]

pub returns : goal.returns
returns c = λ n. (
  c.loop-word.invariant.new n,
  λ h. c.loop-word.invariant.old n (let u = inside c.self.inside.words.items n (rw (← c.self.view_is) at h) in omega arith) h,
)
