use Rattle.std.proofs.Common.{rules, arith, [], ◌∷◌, ◌++◌, ◌≡◌, length, ap, sym, ◌∙◌, subst, append_assoc, length-append}
use Rattle.run_threads.specs.{IsHere, AreHere}
use Rattle.run_threads.proofs.Lists.{all-snoc}
use Rattle.run_threads.proofs.lead.gather.Goals as goal

pub loop-slot-preserved : goal.loop-slot-preserved
loop-slot-preserved g c =
    let i = c.loop-slot.invariant in
    let ys = c.loop-slot.yielded in
    let s = c.in-Some.slot in
    let rest = c.next.new.self.rest.items in
    let h = c.args.hub.now in let ps = c.loop-slot.passes.items in let p = c.take_one.result in
    let count : c.len-which.result ≡ length ps = search rules in
    let is : IsHere h (length ps) p = subst (λ n. IsHere h n p) count c.take_one.ensures in
    let e = c.push_reserved.ensures in (
      omega (arith, ap length e.items, length-append ps (p ∷ []), length-append ys (s ∷ [])),
      subst (AreHere h) (sym e.items) (all-snoc (IsHere h) ps p i.1 is),
      (i.2 ∙ ap (λ l. ys ++ l) c.in-Some.ensures.steps.0) ∙ sym (append_assoc ys (s ∷ []) rest),
      i.3 ∙ sym e.capacity,
    )
