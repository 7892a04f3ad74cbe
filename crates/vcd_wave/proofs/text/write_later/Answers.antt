use Rattle.std.proofs.Common.{sym, ◌∙◌, ◌≡◌, ap, subst, arith, ℕ, ◌+◌, ◌<◌, ◌≤◌, Bool, List, ◌++◌, cond, min, map}
use Rattle.std.specs.List.{flat_map}
use Rattle.vcd_wave.specs.{Plan, FitsEngine, clock_of, fills, last_clock, FifoWalk, text_of_lines, IsTold, Change, wave_of, instant_of}
use Rattle.vcd_wave.specs.{changes_between, instant_lines, AreWalks, least_next, change_of}
use Rattle.flow_design.proofs.Failing.{on_err}
use Rattle.sim_io.proofs.Pending.{prefix_as, prefix_none, told_as, told_more, told_none, told_prefix, told_prefix_more}
use Rattle.sim_io.proofs.Pending.{told_kept as pending_kept}
use Rattle.vcd_wave.proofs.Walking.{goes_on}
use Rattle.vcd_wave.proofs.Instants.{told_to, told_to_zero, told_first, told_to_next, told_next, told_to_later, told_later, later_rest}
use Rattle.vcd_wave.proofs.Instants.{told_whole, told_closing}
use Rattle.vcd_wave.proofs.text.write_later.Goals.{then-branch, else-branch, then-told-last+in_ok-print_time, else-told-last}
use Rattle.vcd_wave.proofs.Instants as instants
use Rattle.vcd_wave.proofs.text.write_later.Goals as goal

-- ---- one clock, as the code has it

at_clock : (clock last : ℕ) → clock < last → min clock last ≡ clock
at_clock clock last l = omega arith

-- what is told up to the next clock, after a clock in which the walks stand
module _ (p : Plan) (fits : FitsEngine p) (first : List ℕ) (ws : List FifoWalk) (c clock last : ℕ) (h : AreWalks p c ws) (within : c ≤ last)
    (is : last ≡ last_clock p) (least : clock ≡ least_next ws) where
  next_walks : AreWalks p (min clock last) ws
  next_walks = (goes_on p fits c clock last ws h within is least).walks

  next_told : (told : ℕ) → instants.IsTold p told c → instants.IsTold p told (min clock last)
  next_told told t =
      let on = goes_on p fits c clock last ws h within is least in
      told_later p told c (min clock last) t on.later on.same

  next_text : told_to p first c ≡ told_to p first (min clock last)
  next_text =
      let on = goes_on p fits c clock last ws h within is least in
      told_to_later p first c (min clock last) on.later on.same

pub returns-in_err-walks-clause-err : goal.returns-in_err-walks-clause-err
returns-in_err-walks-clause-err g c = on_err _ (prefix_none _ _)

pub loop-clock-init : goal.loop-clock-init
loop-clock-init g c =
    let p = c.args.core.now.plan in
    let fits = c.agrees.ensures.fits in
    let last : c.clock-last.result ≡ last_clock p = c.clock-last.ensures ∙ ap clock_of c.verdict.ensures in
    let least = c.next_clock-clock.ensures ∙ ap least_next c.as_slice.ensures in
    record {
      walks = next_walks p fits c.args.pending.now c.in_ok-walks.walks 0 c.next_clock-clock.result c.clock-last.result c.in_ok-walks.ensures
          (omega arith) last least;
      least = least;
      told = next_told p fits c.args.pending.now c.in_ok-walks.walks 0 c.next_clock-clock.result c.clock-last.result c.in_ok-walks.ensures
          (omega arith) last least 0 (told_first p);
      text = told_as _ _ _ _ _ (told_none _ c.args.pending.now)
          (told_to_zero p c.args.pending.now
          ∙ next_text p fits c.args.pending.now c.in_ok-walks.walks 0 c.next_clock-clock.result c.clock-last.result c.in_ok-walks.ensures
          (omega arith) last least);
      faults = omega arith;
    }

-- the text with one clock more
clock_told : (p : Plan) (first : List ℕ) (clock last : ℕ) (changes : List Change) → clock < last
    → changes ≡ changes_between (fills p clock) (fills p (clock + 1))
    → told_to p first (min clock last) ++ text_of_lines (flat_map instant_lines (instant_of (clock + 1) changes))
    ≡ told_to p first (clock + 1)
clock_told p first clock last changes l are =
    ap (λ (n : ℕ). told_to p first n ++ text_of_lines (flat_map instant_lines (instant_of (clock + 1) changes))) (at_clock clock last l)
    ∙ told_to_next p first clock changes are

pub pass_clock-requires-clause-walks : goal.pass_clock-requires-clause-walks
pass_clock-requires-clause-walks g c =
    subst (λ (n : ℕ). AreWalks c.args.core.now.plan n c.loop-clock.walks)
    (at_clock c.loop-clock.clock c.clock-last.result c.loop-clock-test.true) c.loop-clock.invariant.walks

pub pass_clock-requires-clause-within : goal.pass_clock-requires-clause-within
pass_clock-requires-clause-within g c =
    let last : c.clock-last.result ≡ last_clock c.args.core.now.plan = c.clock-last.ensures ∙ ap clock_of c.verdict.ensures in
    let early = c.loop-clock-test.true in
    omega arith

pub loop-clock-preserved : goal.loop-clock-preserved
loop-clock-preserved g c =
    let p = c.args.core.now.plan in
    let fits = c.agrees.ensures.fits in
    let first = c.args.pending.now in
    let at = c.loop-clock.clock in
    let end = c.clock-last.result in
    let early : at < end = c.loop-clock-test.true in
    let last : end ≡ last_clock p = c.clock-last.ensures ∙ ap clock_of c.verdict.ensures in
    let next = c.next_clock-clock-in-loop-clock.result in
    let least = c.next_clock-clock-in-loop-clock.ensures ∙ ap least_next c.as_slice-in-loop-clock-2.ensures in
    let changes = ap (map change_of) c.as_slice-in-loop-clock.ensures ∙ c.in_ok-pass_clock.ensures.changes in
    let told : c.if-branch.told ≡ cond c.in_ok-write_instant.field-0 (at + 1) c.loop-clock.told =
    elim c.if-branch.branch [
      | then-branch w ↦ w.told-is ∙ sym (ap (λ (b : Bool). cond b (at + 1) c.loop-clock.told) w.if-branch.true)
      | else-branch w ↦ w.told-is ∙ sym (ap (λ (b : Bool). cond b (at + 1) c.loop-clock.told) w.if-branch.false)
    ] in
    let was = subst (λ (n : ℕ). instants.IsTold p c.loop-clock.told n) (at_clock at end early) c.loop-clock.invariant.told in
    let now = told_next p c.loop-clock.told at _ c.in_ok-write_instant.field-0 was changes c.in_ok-write_instant.ensures.some in
    record {
      walks = next_walks p fits first c.pass_clock.new.walks (at + 1) next end c.in_ok-pass_clock.ensures.walks (omega arith) last least;
      least = least;
      told = subst (λ (n : ℕ). instants.IsTold p n (min next end)) (sym told)
          (next_told p fits first c.pass_clock.new.walks (at + 1) next end c.in_ok-pass_clock.ensures.walks (omega arith) last least _ now);
      text = told_as _ _ _ _ _ (told_more _ _ _ _ _ _ _ c.loop-clock.invariant.text c.in_ok-write_instant.ensures.ok)
          (clock_told p first at end _ early changes
          ∙ next_text p fits first c.pass_clock.new.walks (at + 1) next end c.in_ok-pass_clock.ensures.walks (omega arith) last least);
      faults = omega (arith, c.loop-clock.invariant.faults, c.in_ok-write_instant.ensures.cause.later);
    }

pub loop-clock-smaller : goal.loop-clock-smaller
loop-clock-smaller g c =
    let p = c.args.core.now.plan in
    let at = c.loop-clock.clock in
    let end = c.clock-last.result in
    let early : at < end = c.loop-clock-test.true in
    let last : end ≡ last_clock p = c.clock-last.ensures ∙ ap clock_of c.verdict.ensures in
    let next = c.next_clock-clock-in-loop-clock.result in
    let least = c.next_clock-clock-in-loop-clock.ensures ∙ ap least_next c.as_slice-in-loop-clock-2.ensures in
    let on = goes_on p c.agrees.ensures.fits (at + 1) next end c.pass_clock.new.walks c.in_ok-pass_clock.ensures.walks (omega arith)
    last least in
    let later : at + 1 ≤ min next end = on.later in
    omega arith

pub returns-in_err-pass_clock-clause-err : goal.returns-in_err-pass_clock-clause-err
returns-in_err-pass_clock-clause-err g c =
    let p = c.args.core.now.plan in
    let last : c.clock-last.result ≡ last_clock p = c.clock-last.ensures ∙ ap clock_of c.verdict.ensures in
    let whole = later_rest p c.args.pending.now (min c.loop-clock.clock c.clock-last.result) (omega arith) in
    on_err _ (prefix_as _ _ _ _ (told_prefix _ _ _ _ whole.0 c.loop-clock.invariant.text) whole.1)

pub returns-in_err-write_instant-clause-err : goal.returns-in_err-write_instant-clause-err
returns-in_err-write_instant-clause-err g c =
    let p = c.args.core.now.plan in
    let first = c.args.pending.now in
    let at = c.loop-clock.clock in
    let end = c.clock-last.result in
    let early : at < end = c.loop-clock-test.true in
    let last : end ≡ last_clock p = c.clock-last.ensures ∙ ap clock_of c.verdict.ensures in
    let changes = ap (map change_of) c.as_slice-in-loop-clock.ensures ∙ c.in_ok-pass_clock.ensures.changes in
    let whole = later_rest p first (at + 1) (omega arith) in
    on_err _ (prefix_as _ _ _ _ (told_prefix_more _ _ _ _ _ _ whole.0 c.loop-clock.invariant.text c.in_err-write_instant.ensures.err)
    (ap (λ (t : List ℕ). t ++ whole.0) (clock_told p first at end _ early changes) ∙ whole.1))

pub returns-in_err-print_time-clause-err : goal.returns-in_err-print_time-clause-err
returns-in_err-print_time-clause-err g c =
    let p = c.args.core.now.plan in
    let last : c.clock-last.result ≡ last_clock p = c.clock-last.ensures ∙ ap clock_of c.verdict.ensures in
    let whole = later_rest p c.args.pending.now (min c.loop-clock.clock c.clock-last.result) (omega arith) in
    on_err _ (prefix_as _ _ _ _ (told_prefix _ _ _ _ whole.0 c.loop-clock.invariant.text) whole.1)

pub returns-clause-ok : goal.returns-clause-ok
returns-clause-ok g c =
    let p = c.args.core.now.plan in
    let first = c.args.pending.now in
    let end = c.clock-last.result in
    let last : end ≡ last_clock p = c.clock-last.ensures ∙ ap clock_of c.verdict.ensures in
    let over : end ≤ c.loop-clock.clock = c.loop-clock-test.false in
    let at : min c.loop-clock.clock end ≡ end = omega arith in
    let told = subst (λ (n : ℕ). instants.IsTold p c.loop-clock.told n) at c.loop-clock.invariant.told in
    let text = told_as _ _ _ _ _ c.loop-clock.invariant.text (ap (told_to p first) at) in
    let sent = IsTold (g.K.Sink.held c.args.sink.now) (g.K.Sink.held c.loop-clock.sink) in
    let whole = first ++ text_of_lines (flat_map instant_lines (wave_of p).later) in
    elim c.if-told-last.branch [
      | then-told-last+in_ok-print_time w ↦ subst (λ (t : List ℕ). sent t whole) (sym w.pending-is)
          (told_as _ _ _ _ _ (pending_kept _ _ _ _ _ _ text w.in_ok-print_time.ensures)
          (told_closing p first c.loop-clock.told end last told w.if-told-last.true))
      | else-told-last w ↦ subst (λ (t : List ℕ). sent t whole) (sym w.pending-is)
          (told_as _ _ _ _ _ text (told_whole p first c.loop-clock.told end last told w.if-told-last.false))
    ]
