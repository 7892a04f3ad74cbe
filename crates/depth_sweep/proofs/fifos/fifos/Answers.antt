use Rattle.std.proofs.Common.{◌∙◌, sym, ap, ℕ, List, ◌++◌, ◌∷◌, [], Vec, Global}
use Rattle.depth_sweep.specs.{is_fifo, kind_at}
use Rattle.depth_sweep.proofs.Counting.{kept_more, left_out}
use Rattle.depth_sweep.proofs.fifos.fifos.Goals.{then-is_fifo+in_ok-push, else-is_fifo}
use Rattle.depth_sweep.proofs.fifos.fifos.Goals as goal

pub loop-channel-preserved : goal.loop-channel-preserved
loop-channel-preserved c =
    let p = λ (f : ℕ). is_fifo (kind_at c.args.plan.now f) in
    let n = c.loop-channel.channel in
    elim c.if-is_fifo.branch [
      | then-is_fifo+in_ok-push w ↦
          ap (λ (v : Vec ℕ Global). v.items) w.channels-is
          ∙ (w.in_ok-push.ensures.items ∙ (ap (λ (xs : List ℕ). xs ++ n ∷ []) c.loop-channel.invariant
          ∙ sym (kept_more p n c.is_fifo.result c.is_fifo.ensures w.if-is_fifo.true)))
      | else-is_fifo w ↦
          ap (λ (v : Vec ℕ Global). v.items) w.channels-is
          ∙ (c.loop-channel.invariant ∙ sym (left_out p n c.is_fifo.result c.is_fifo.ensures w.if-is_fifo.false))
    ]
