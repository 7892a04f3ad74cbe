use Rattle.std.proofs.Common.{◌≡◌, ◌≤◌, ℕ, ◌++◌, List, take, map, length}
use Rattle.std.specs.Prelude.{All, filter_map}
use Rattle.module_code.specs.{Channel, block_of, temps_of, request_for, IsGuardedOf, passing, standing}
use Rattle.module_code.proofs.Looking.{HaveNotes}
use Rattle.module_code.proofs.noting.note_all.Given as goal

-- the operations so far have their notes, and what the due ones of them ask was added
abbrev pub invariant-loop-at : goal.invariant-loop-at
invariant-loop-at g l = record {
  noted : HaveNotes (block_of l.on.of.now l.on.state.now) l.on.state.now l.oldest l.actions l.items l.at;
  places : length l.items ≡ length l.initial.items;
  count : l.count ≡ length (passing (block_of l.on.of.now l.on.state.now) l.on.state.now (map (standing l.oldest) (take l.at l.actions)));
  few : l.count ≤ l.at;
  asked : (channels : List Channel) (room : ℕ) → All (IsGuardedOf channels l.on.of.now (block_of l.on.of.now l.on.state.now) room) l.actions
      → g.A.Asked.requests l.asked ≡ g.A.Asked.requests l.initial.asked
      ++ filter_map (request_for channels l.on.of.now l.on.state.now)
      (passing (block_of l.on.of.now l.on.state.now) l.on.state.now (map (standing l.oldest) (take l.at l.actions)));
  temps : l.temps ≡ temps_of l.on.state.now l.iteration;
  room : length l.scratch ≡ length l.initial.scratch;
}
