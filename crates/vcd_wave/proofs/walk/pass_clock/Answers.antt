use Rattle.std.proofs.Common.{◌≡◌, ◌∙◌, ap, sym, arith, length, ℕ, List, get_or}
use Rattle.std.proofs.lemmas.List.{length-map}
use Rattle.vcd_wave.specs.{Plan, FifoWalk, FillChange, AreWalks}
use Rattle.vcd_wave.proofs.Walking.{ArePassed, passed_first, passed_next, passed_all}
use Rattle.vcd_wave.proofs.walk.pass_clock.Goals as goal

-- as many walks as at the start
same_count : (p : Plan) (clock k : ℕ) (old ws : List FifoWalk) (changes : List FillChange) → AreWalks p clock old → ArePassed p clock k ws
    changes
    → length ws ≡ length old
same_count p clock k old ws changes h passed =
    sym (length-map ws (λ (w : FifoWalk). w.channel))
    ∙ (ap length (passed.channels ∙ sym h.channels) ∙ length-map old (λ (w : FifoWalk). w.channel))

pub loop-fifo-init : goal.loop-fifo-init
loop-fifo-init c =
    passed_first c.args.core.now.plan c.agrees.ensures.fits c.args.clock c.args.walks.now c.truncate.new.self c.requires.walks
    c.truncate.ensures

pub bounds-as_slice-fifo : goal.bounds-as_slice-fifo
bounds-as_slice-fifo c =
    let count = same_count c.args.core.now.plan c.args.clock c.loop-fifo.fifo c.args.walks.now c.loop-fifo.walks c.loop-fifo.changes
    c.requires.walks c.loop-fifo.invariant in
    let within = c.loop-fifo-test.true in
    omega (arith, ap length c.as_slice.ensures, c.len-fifo-end.ensures)

pub offset_bounds-as_slice-fifo : goal.offset_bounds-as_slice-fifo
offset_bounds-as_slice-fifo c =
    let count = same_count c.args.core.now.plan c.args.clock c.loop-fifo.fifo c.args.walks.now c.loop-fifo.walks c.loop-fifo.changes
    c.requires.walks c.loop-fifo.invariant in
    let within = c.loop-fifo-test.true in
    omega (arith, ap length c.as_slice.ensures, c.len-fifo-end.ensures, c.as_slice.type_inv.0, c.as_slice.type_inv.1)

pub pass_fifo-fill-requires-clause-walk : goal.pass_fifo-fill-requires-clause-walk
pass_fifo-fill-requires-clause-walk c =
    let count = same_count c.args.core.now.plan c.args.clock c.loop-fifo.fifo c.args.walks.now c.loop-fifo.walks c.loop-fifo.changes
    c.requires.walks c.loop-fifo.invariant in
    let within = c.loop-fifo-test.true in
    rw c.as_slice.ensures
    (c.loop-fifo.invariant.others c.loop-fifo.fifo _ (omega arith) (omega (arith, c.len-fifo-end.ensures)))

pub put-requires : goal.put-requires
put-requires c =
    let count = same_count c.args.core.now.plan c.args.clock c.loop-fifo.fifo c.args.walks.now c.loop-fifo.walks c.loop-fifo.changes
    c.requires.walks c.loop-fifo.invariant in
    let within = c.loop-fifo-test.true in
    omega (arith, c.len-fifo-end.ensures)

pub loop-fifo-preserved : goal.loop-fifo-preserved
loop-fifo-preserved c =
    let count = same_count c.args.core.now.plan c.args.clock c.loop-fifo.fifo c.args.walks.now c.loop-fifo.walks c.loop-fifo.changes
    c.requires.walks c.loop-fifo.invariant in
    let within = c.loop-fifo-test.true in
    passed_next c.args.core.now.plan c.agrees.ensures.fits c.args.clock c.loop-fifo.fifo c.loop-fifo.walks c.put.new.walks
    c.loop-fifo.changes c.push_change.new.changes _ c.pass_fifo-fill.new.walk _ c.pass_fifo-fill.result c.loop-fifo.invariant
    (omega (arith, c.len-fifo-end.ensures)) (ap (λ (ws : List FifoWalk). get_or ws c.loop-fifo.fifo _) c.as_slice.ensures)
    c.pass_fifo-fill.ensures.channel c.pass_fifo-fill.ensures.walk c.pass_fifo-fill.ensures.changed c.put.ensures
    c.in_ok-push_change.ensures

pub returns-clause-walks : goal.returns-clause-walks
returns-clause-walks c =
    let count = same_count c.args.core.now.plan c.args.clock c.loop-fifo.fifo c.args.walks.now c.loop-fifo.walks c.loop-fifo.changes
    c.requires.walks c.loop-fifo.invariant in
    (passed_all c.args.core.now.plan c.agrees.ensures.fits c.args.clock c.loop-fifo.fifo c.loop-fifo.walks c.loop-fifo.changes
    c.loop-fifo.invariant (omega (arith, c.len-fifo-end.ensures, c.loop-fifo-test.false, c.loop-fifo.auto.fifo-end))).0

pub returns-clause-changes : goal.returns-clause-changes
returns-clause-changes c =
    let count = same_count c.args.core.now.plan c.args.clock c.loop-fifo.fifo c.args.walks.now c.loop-fifo.walks c.loop-fifo.changes
    c.requires.walks c.loop-fifo.invariant in
    (passed_all c.args.core.now.plan c.agrees.ensures.fits c.args.clock c.loop-fifo.fifo c.loop-fifo.walks c.loop-fifo.changes
    c.loop-fifo.invariant (omega (arith, c.len-fifo-end.ensures, c.loop-fifo-test.false, c.loop-fifo.auto.fifo-end))).1
