use Rattle.std.proofs.Common.{◌≡◌, ◌∙◌, ap, ap₂, arith, cond, eqb, not, sym, subst, ℕ, ◌+◌, ◌<◌, ◌≤◌, List, ◌++◌, ◌∷◌, []}
use Rattle.std.specs.Prelude.{codes}
use Rattle.trace_text.specs.{Plan, FitsEngine, channel_name, fill, last_clock, FifoWalk, IsFifoWalk, next_of, fill_event, further}
use Rattle.flow_design.proofs.Failing.{on_err}
use Rattle.sim_io.proofs.Pending.{prefix_as, prefix_longer, told_as, told_more, told_prefix_more}
use Rattle.trace_text.proofs.Filling.{filled_to, filled_first, filled_next, filled_last, filled_rest, walk_early, walk_steady}
use Rattle.trace_text.proofs.fills.write_fifo.Goals as goal

-- what a walk tells of a channel
abbrev TellsFill : FifoWalk → ℕ → Type 0
TellsFill w told = (p : Plan) → FitsEngine p → IsFifoWalk p w → (clock : ℕ) → w.clock ≤ clock → clock ≤ next_of w → clock ≤ last_clock p
    → told ≡ fill p w.channel clock

-- at its own clock
fill_here : (p : Plan) → FitsEngine p → (w : FifoWalk) → IsFifoWalk p w → w.clock ≤ next_of w → (f told : ℕ) → w.channel ≡ f → TellsFill w
    told
    → told ≡ fill p f w.clock
fill_here p fits w h early f told same tells =
    tells p fits h w.clock (omega arith) early h.within ∙ ap (λ (g : ℕ). fill p g w.clock) same

-- the first line
first_told : (p q : Plan) (f clock held : ℕ) (first name : List ℕ) → name ≡ channel_name q.design f → q ≡ p → clock ≡ 0
    → held ≡ fill p f clock → first ++ (codes ",\n" ++ fill_event name 0 held) ≡ filled_to p f first clock
first_told p q f clock held first name named same at is =
    ap (λ (n : List ℕ). first ++ (codes ",\n" ++ fill_event n 0 held)) (named ∙ ap (λ (x : Plan). channel_name x.design f) same)
    ∙ (filled_first p f first held (is ∙ ap (fill p f) at) ∙ ap (filled_to p f first) (sym at))

-- a line more
next_told : (p q : Plan) → FitsEngine p → (w : FifoWalk) → IsFifoWalk p w → (f read now held next : ℕ) (first name : List ℕ)
    → name ≡ channel_name q.design f → q ≡ p → w.channel ≡ f → w.clock ≤ next_of w → next ≡ next_of w + 1 → next_of w < last_clock p
    → read ≡ next → held ≡ fill p f w.clock → now ≡ fill p f next
    → filled_to p f first w.clock ++ further (cond (not (eqb now held)) (fill_event name read now ∷ []) []) ≡ filled_to p f first next
next_told p q fits w h f read now held next first name named same own early at within is was is_now =
    ap₂ (λ (n : List ℕ) (c : ℕ). filled_to p f first w.clock ++ further (cond (not (eqb now held)) (fill_event n c now ∷ []) []))
    (named ∙ ap (λ (x : Plan). channel_name x.design f) same) is
    ∙ filled_next p f first w.clock next held now (omega arith)
    (λ b from until. subst (λ (g : ℕ). fill p g b ≡ fill p g w.clock) own
    (walk_steady p fits w h b from (omega arith) (omega arith)))
    was is_now

-- the text with the first line is the one up to clock 0
opened : (p q : Plan) (f held : ℕ) (first name : List ℕ) → FitsEngine p → (w : FifoWalk) → IsFifoWalk p w → w.channel ≡ f → w.clock ≡ 0
    → TellsFill w held → name ≡ channel_name q.design f → q ≡ p
    → first ++ (codes ",\n" ++ fill_event name 0 held) ≡ filled_to p f first w.clock
opened p q f held first name fits w h own at tells named same =
    first_told p q f w.clock held first name named same at (fill_here p fits w h (walk_early p fits w h) f held own tells)

pub returns-in_err-write_fill-clause-err : goal.returns-in_err-write_fill-clause-err
returns-in_err-write_fill-clause-err g c =
    let p = c.args.core.now.plan in
    let walk = c.new-walk.ensures.walk in
    let most = walk.within in
    let whole = filled_rest p c.args.channel c.args.pending.now c.new-walk.result.clock c.args.last (omega (arith, c.requires.last)) in
    on_err _ (prefix_as _ _ _ _ (prefix_longer _ _ _ whole.0 c.in_err-write_fill.ensures.err)
    (ap (λ (t : List ℕ). t ++ whole.0)
    (opened p c.plan.result.now c.args.channel c.fill-held.result c.args.pending.now c.channel_name-name.result.now
    c.agrees.ensures.fits c.new-walk.result walk c.new-walk.ensures.channel c.new-walk.ensures.clock c.fill-held.ensures
    c.channel_name-name.ensures c.plan.ensures)
    ∙ whole.1))

pub loop-name-init : goal.loop-name-init
loop-name-init g c =
    let p = c.args.core.now.plan in
    let fits = c.agrees.ensures.fits in
    let walk = c.new-walk.ensures.walk in
    record {
      walk = walk;
      channel = c.new-walk.ensures.channel;
      held = fill_here p fits c.new-walk.result walk (walk_early p fits c.new-walk.result walk) c.args.channel c.fill-held.result
          c.new-walk.ensures.channel c.fill-held.ensures;
      told = told_as _ _ _ _ _ c.in_ok-write_fill.ensures.ok
          (opened p c.plan.result.now c.args.channel c.fill-held.result c.args.pending.now c.channel_name-name.result.now fits
          c.new-walk.result walk c.new-walk.ensures.channel c.new-walk.ensures.clock c.fill-held.ensures c.channel_name-name.ensures
          c.plan.ensures);
      faults = omega (arith, c.in_ok-write_fill.ensures.cause.later);
    }

-- the walk and its line, one step on
went_on : (p q : Plan) → FitsEngine p → (w new : FifoWalk) → IsFifoWalk p w → IsFifoWalk p new → (f read held now : ℕ) (first name : List ℕ)
    → w.channel ≡ f → new.channel ≡ w.channel → new.clock ≡ next_of w + 1 → next_of w < last_clock p → read ≡ new.clock
    → held ≡ fill p f w.clock → TellsFill new now → name ≡ channel_name q.design f → q ≡ p
    → (now ≡ fill p f new.clock)
    × (filled_to p f first w.clock ++ further (cond (not (eqb now held)) (fill_event name read now ∷ []) []) ≡ filled_to p f first
    new.clock)
went_on p q fits w new h after f read held now first name own channel at within is was tells named same =
    let told = fill_here p fits new after (walk_early p fits new after) f now (channel ∙ own) tells in (
      told,
      next_told p q fits w h f read now held new.clock first name named same own (walk_early p fits w h) at within is was told,
    )

pub loop-name-preserved : goal.loop-name-preserved
loop-name-preserved g c =
    let p = c.args.core.now.plan in
    let keeps = c.loop-name.invariant in
    let less = c.loop-name-test.true in
    let on = went_on p c.plan.result.now c.agrees.ensures.fits c.loop-name.walk c.pass.new.self keeps.walk c.pass.ensures.walk
    c.args.channel c.clock.result c.loop-name.held c.fill-fill.result c.args.pending.now c.channel_name-name.result.now keeps.channel
    c.pass.ensures.channel c.pass.ensures.clock (omega (arith, c.next.ensures, c.requires.last)) c.clock.ensures keeps.held
    c.fill-fill.ensures c.channel_name-name.ensures c.plan.ensures in
    record {
      walk = c.pass.ensures.walk;
      channel = c.pass.ensures.channel ∙ keeps.channel;
      held = on.0;
      told = told_as _ _ _ _ _ (told_more _ _ _ _ _ _ _ keeps.told c.in_ok-write_change.ensures.ok) on.1;
      faults = omega (arith, keeps.faults, c.in_ok-write_change.ensures.cause.later);
    }

pub returns-in_err-write_change-clause-err : goal.returns-in_err-write_change-clause-err
returns-in_err-write_change-clause-err g c =
    let p = c.args.core.now.plan in
    let keeps = c.loop-name.invariant in
    let less = c.loop-name-test.true in
    let on = went_on p c.plan.result.now c.agrees.ensures.fits c.loop-name.walk c.pass.new.self keeps.walk c.pass.ensures.walk
    c.args.channel c.clock.result c.loop-name.held c.fill-fill.result c.args.pending.now c.channel_name-name.result.now keeps.channel
    c.pass.ensures.channel c.pass.ensures.clock (omega (arith, c.next.ensures, c.requires.last)) c.clock.ensures keeps.held
    c.fill-fill.ensures c.channel_name-name.ensures c.plan.ensures in
    let after = c.pass.ensures.walk in
    let whole = filled_rest p c.args.channel c.args.pending.now c.pass.new.self.clock c.args.last (omega (
      arith,
      after.within,
      c.requires.last,
    )) in
    on_err _ (prefix_as _ _ _ _ (told_prefix_more _ _ _ _ _ _ whole.0 keeps.told c.in_err-write_change.ensures.err)
    (ap (λ (t : List ℕ). t ++ whole.0) on.1 ∙ whole.1))

pub returns-clause-ok : goal.returns-clause-ok
returns-clause-ok g c =
    let p = c.args.core.now.plan in
    let keeps = c.loop-name.invariant in
    let walk = keeps.walk in
    let over = c.loop-name-test.false in
    let w = c.loop-name.walk in
    told_as _ _ _ _ _ keeps.told
    (filled_last p c.args.channel c.args.pending.now w.clock c.args.last (omega (arith, walk.within, c.requires.last))
    (λ b from until. subst (λ (f : ℕ). fill p f b ≡ fill p f w.clock) keeps.channel
    (walk_steady p c.agrees.ensures.fits w walk b from (omega (arith, c.next.ensures)) (omega (arith, c.requires.last)))))
