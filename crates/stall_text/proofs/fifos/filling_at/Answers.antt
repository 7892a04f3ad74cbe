use Rattle.std.proofs.Common.{◌∙◌, ap, get_or, subst, sym, List, ℕ}
use Rattle.flow_word.specs.declared.access.Side.TheVariants.{Pop, Push}
use Rattle.stall_text.specs.{Plan, ArePortClocks}
use Rattle.stall_text.proofs.Whole.{clock_few, filling_told}
use Rattle.stall_text.proofs.fifos.filling_at.Goals as goal

pub filling_of-requires-clause-clock : goal.filling_of-requires-clause-clock
filling_of-requires-clause-clock c =
    clock_few c.args.core.now.plan c.agrees.ensures.fits c.args.clock c.requires.clock

pub returns : goal.returns
returns c =
    let p = c.args.core.now.plan in
    let f = c.args.channel in
    let pops = subst (ArePortClocks p (record { side = Pop; channel = f })) (sym c.as_slice-2.ensures) c.in_ok-clocks.ensures.pops in
    let pushes = subst (ArePortClocks p (record { side = Push; channel = f })) (sym c.as_slice-3.ensures) c.in_ok-clocks.ensures.pushes in
    let depth = ap (λ (ds : List ℕ). get_or ds f 0) (c.as_slice.ensures ∙ ap (λ (q : Plan). q.depths) c.plan.ensures) in
    filling_told p c.agrees.ensures.fits f c.requires.channel c.requires.fifo c.args.clock
    (get_or c.as_slice.result.now f 0) c.args.delay c.requires.clock depth c.requires.delay c.as_slice-2.result.now
    c.as_slice-3.result.now pops pushes c.filling_of.result c.filling_of.ensures.most c.filling_of.ensures.empty
    c.filling_of.ensures.full
