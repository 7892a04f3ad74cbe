use Rattle.std.proofs.Common.{◌∙◌, ap, arith, ℕ, List, length, slice_index}
use Rattle.path_text.proofs.Counting.{waiting_within}
use Rattle.path_text.proofs.counts.waiting_by_channel.Goals as goal

pub add_waiting-requires-clause-few : goal.add_waiting-requires-clause-few
add_waiting-requires-clause-few c f l =
    let same = c.as_mut_slice.ensures.value in
    let long = ap (λ (xs : List ℕ). length xs) same in
    let count = c.loop-poll.invariant.count in
    let held = ap (λ (xs : List ℕ). slice_index xs f) same ∙ c.loop-poll.invariant.each f (omega arith) in
    let within = waiting_within c.args.polls.now c.loop-poll.poll-index f (record { channel = 0; pushed = 0; found = 0 })
    c.loop-poll-test.true in
    let few = c.requires.few in
    omega arith
