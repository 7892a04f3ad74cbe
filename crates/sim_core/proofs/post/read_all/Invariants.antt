use Rattle.std.proofs.Common.{◌≡◌, ℕ, List, map, take}
use Rattle.sim_core.specs.{popped_in, mailed, AreUnread}
use Rattle.sim_core.proofs.post.read_all.Given as goal

abbrev pub invariant-loop-channel : goal.invariant-loop-channel
invariant-loop-channel l = record {
  read : l.values ≡ map (mailed l.fifos.channels l.inlets.readers.now l.inlets.owner (popped_in l.run)) (take l.channel-index l.channels);
  left : (all : ℕ → List ℕ) (n : ℕ) → AreUnread all n l.initial.unread → AreUnread all n l.unread;
}
