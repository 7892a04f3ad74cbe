use Rattle.std.proofs.Common.{◌∙◌, ◌+◌, ap, ap₂, sym, subst, ℕ, List, length, get_or, set, arith}
use Rattle.sim_core.specs.{popped_in, Mail, declared.unread.Unread.Unread}
use Rattle.sim_core.proofs.Leaving.{IsKeeping, keeping_more, keeping_on}
use Rattle.sim_core.proofs.unread.keep_unread.Goals.{then-pops+then-place-as_slice, else-pops}
use Rattle.sim_core.proofs.unread.keep_unread.Goals as goal

pub loop-place-preserved : goal.loop-place-preserved
loop-place-preserved c =
    let first = c.args.unread.now in
    let readers = c.args.inlets.now.readers.now in
    let owner = c.args.inlets.now.owner in
    let popped = popped_in c.args.run.now in
    let mail = c.args.mail.now in
    let at = c.loop-place.place in
    let own = c.as_slice.ensures in
    let channel = get_or c.as_slice.result.now at 0 in
    let end = ap (λ (cs : List ℕ). length cs) c.as_slice-place-end.ensures.items in
    let same = ap (λ (cs : List ℕ). length cs) c.loop-place.invariant.pops in
    elim c.if-pops.branch [
      | then-pops+then-place-as_slice w ↦
          let taken = w.take_values-left.ensures in
          keeping_more first readers owner popped mail c.loop-place.unread c.if-pops.unread c.loop-place.mail c.if-pops.mail at channel
          c.loop-place.invariant own.rise (omega (arith, c.loop-place-test.true)) (ap (λ (cs : List ℕ). get_or cs at 0) (sym own.items))
          (c.pops.ensures.mine w.if-pops.true)
          (w.unread-is ∙ (w.put.ensures
          ∙ ap₂ (λ (n : ℕ) (vs : List ℕ). set c.loop-place.unread channel (record { skipped = n; values = vs })) w.popped.ensures.counted
          taken.out))
          (ap (λ (m : Mail). m.channels) w.mail-is) (ap (λ (m : Mail). m.values) w.mail-is ∙ taken.left)
      | else-pops w ↦
          subst (λ (us : List Unread). IsKeeping first readers owner popped mail us c.if-pops.mail (at + 1)) (sym w.unread-is)
          (subst (λ (m : Mail). IsKeeping first readers owner popped mail c.loop-place.unread m (at + 1)) (sym w.mail-is)
          (keeping_on first readers owner popped mail c.loop-place.unread c.loop-place.mail at c.loop-place.invariant))
    ]
