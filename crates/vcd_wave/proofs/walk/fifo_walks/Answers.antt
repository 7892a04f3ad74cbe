use Rattle.std.proofs.Common.{◌≡◌, ◌∙◌, ◌<◌, ap, ap₂, sym, subst, arith, ℕ, List, Bool, true, false, cond, ◌++◌, ◌∷◌, [], get_or, map}
use Rattle.std.proofs.Common.{length}
use Rattle.std.proofs.{lemmas.List.append-nil, lemmas.List.get_or_default, lemmas.List.map-append, lemmas.List.Elements.All-push}
use Rattle.std.specs.{Prelude.All, List.filter, List.range_with_len}
use Rattle.vcd_wave.specs.{Channel, Plan, is_fifo, kind_at, no_channel, FifoWalk, StandsBy}
use Rattle.vcd_wave.proofs.{Walking.chosen_more, walk.fifo_walks.Goals.then-is_fifo+in_ok-push, walk.fifo_walks.Goals.else-is_fifo}
use Rattle.vcd_wave.proofs.walk.fifo_walks.Goals as goal

abbrev channel_of : FifoWalk → ℕ
channel_of w = w.channel

-- the kind that was read is the plan's
kind_read : (p q : Plan) (channels : List Channel) (n : ℕ) (c : Channel) (b : Bool) → channels ≡ q.design.channels → q ≡ p
    → n < length channels → c ≡ get_or channels n c → b ≡ is_fifo c.kind → is_fifo (kind_at p n) ≡ b
kind_read p q channels n c b its same l at told =
    sym (told ∙ ap (λ (x : Channel). is_fifo x.kind)
    (at ∙ (get_or_default channels n c no_channel l
    ∙ ap (λ (cs : List Channel). get_or cs n no_channel) (its ∙ ap (λ (x : Plan). x.design.channels) same))))

pub loop-number-preserved : goal.loop-number-preserved
loop-number-preserved c =
    let p = c.args.core.now.plan in
    let n = c.loop-number.number in
    let walks = c.loop-number.walks in
    let test : ℕ → Bool = λ f. is_fifo (kind_at p f) in
    let read = kind_read p c.plan.result.now c.as_slice-channels.result.now n c.index-channels-number.result c.is_fifo.result
    c.as_slice-channels.ensures c.plan.ensures c.loop-number-test.true c.index-channels-number.is c.is_fifo.ensures in
    elim c.if-is_fifo.branch [
      | then-is_fifo+in_ok-push w ↦
          let yes : test n ≡ true = read ∙ w.if-is_fifo.true in
          let new = w.new.result in
          let are = w.walks-is ∙ w.in_ok-push.ensures.ok in
          record {
            channels = ap (map channel_of) are
                ∙ (map-append channel_of walks (new ∷ [])
                ∙ (ap₂ (λ (xs : List ℕ) (f : ℕ). xs ++ f ∷ []) c.loop-number.invariant.channels w.new.ensures.channel
                ∙ (ap (λ (b : Bool). filter test (range_with_len 0 n) ++ cond b (n ∷ []) []) (sym yes) ∙ sym (chosen_more test n))));
            each = subst (All (StandsBy p 0)) (sym are) (All-push (StandsBy p 0) walks new c.loop-number.invariant.each (record {
              is_walk = w.new.ensures.walk;
              from = omega (arith, w.new.ensures.clock);
              until = omega arith;
            }));
          }
      | else-is_fifo w ↦
          let no : test n ≡ false = read ∙ w.if-is_fifo.false in
          record {
            channels = ap (map channel_of) w.walks-is
                ∙ (c.loop-number.invariant.channels
                ∙ (sym (append-nil (filter test (range_with_len 0 n)))
                ∙ (ap (λ (b : Bool). filter test (range_with_len 0 n) ++ cond b (n ∷ []) []) (sym no) ∙ sym (chosen_more test n))));
            each = subst (All (StandsBy p 0)) (sym w.walks-is) c.loop-number.invariant.each;
          }
    ]
