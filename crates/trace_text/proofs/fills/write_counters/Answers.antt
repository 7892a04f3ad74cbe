use Rattle.std.proofs.Common.{◌≡◌, ◌∙◌, ap, arith, cond, refl, ℕ, ◌+◌, ◌-◌, List, ◌++◌, [], length}
use Rattle.std.specs.List.{flat_map, range_with_len}
use Rattle.trace_text.specs.{Plan, is_fifo, kind_at, clock_of, last_clock, fill_events, further}
use Rattle.flow_design.proofs.Failing.{on_err}
use Rattle.sim_io.proofs.Pending.{prefix_as, told_as, told_more, told_prefix_more}
use Rattle.trace_text.proofs.{Filling.channel_events, Filling.all_channels, Lines.numbers_more, Lines.numbers_rest}
use Rattle.trace_text.proofs.fills.write_counters.Goals as goal

-- the lines of one channel more, up to the last clock
channel_more : (p : Plan) (f last : ℕ) (first : List ℕ) → last ≡ last_clock p
    → (first ++ further (flat_map (channel_events p) (range_with_len 0 f))) ++ further (cond (is_fifo (kind_at p f)) (fill_events p f
    last) [])
    ≡ first ++ further (flat_map (channel_events p) (range_with_len 0 (f + 1)))
channel_more p f last first is =
    numbers_more (channel_events p) f first _ _ refl
    (ap (λ (n : ℕ). (first ++ further (flat_map (channel_events p) (range_with_len 0 f)))
    ++ further (cond (is_fifo (kind_at p f)) (fill_events p f n) [])) is)

-- how many channels there are
count_is : (p q : Plan) (count : ℕ) → count ≡ length q.design.channels → q ≡ p → count ≡ length p.design.channels
count_is p q count is same = is ∙ ap (λ (x : Plan). length x.design.channels) same

pub loop-channel-preserved : goal.loop-channel-preserved
loop-channel-preserved g c = record {
  told = told_as _ _ _ _ _ (told_more _ _ _ _ _ _ _ c.loop-channel.invariant.told c.in_ok-write_channel.ensures.ok)
      (channel_more c.args.core.now.plan c.loop-channel.channel c.clock-last.result c.args.pending.now
      (c.clock-last.ensures ∙ ap clock_of c.verdict.ensures));
  faults = omega (arith, c.loop-channel.invariant.faults, c.in_ok-write_channel.ensures.cause.later);
}

pub returns-in_err-write_channel-clause-err : goal.returns-in_err-write_channel-clause-err
returns-in_err-write_channel-clause-err g c =
    let p = c.args.core.now.plan in
    let f = c.loop-channel.channel in
    let all = length p.design.channels in
    let first = c.args.pending.now in
    let within = c.loop-channel-test.true in
    let rest = further (flat_map (channel_events p) (range_with_len (0 + (f + 1)) (all - (f + 1)))) in
    on_err _ (prefix_as _ _ _ _ (told_prefix_more _ _ _ _ _ _ rest c.loop-channel.invariant.told c.in_err-write_channel.ensures.err)
    (ap (λ (t : List ℕ). t ++ rest)
    (channel_more p f c.clock-last.result first (c.clock-last.ensures ∙ ap clock_of c.verdict.ensures))
    ∙ (numbers_rest (channel_events p) (f + 1) all first
    (omega (arith, count_is p c.plan.result.now c.len-count.result c.len-count.ensures c.plan.ensures))
    ∙ ap (λ (es : List (List ℕ)). first ++ further es) (all_channels p))))

pub returns-clause-ok : goal.returns-clause-ok
returns-clause-ok g c =
    let p = c.args.core.now.plan in
    let over = c.loop-channel-test.false in
    let end = c.loop-channel.auto.channel-end in
    let all : c.loop-channel.channel ≡ length p.design.channels =
    omega (arith, count_is p c.plan.result.now c.len-count.result c.len-count.ensures c.plan.ensures) in
    told_as _ _ _ _ _ c.loop-channel.invariant.told
    (ap (λ (n : ℕ). c.args.pending.now ++ further (flat_map (channel_events p) (range_with_len 0 n))) all
    ∙ ap (λ (es : List (List ℕ)). c.args.pending.now ++ further es) (all_channels p))
