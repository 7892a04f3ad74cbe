use Rattle.std.proofs.Common.{refl, sym}
use Rattle.cycle_changes.specs.{Edit, channel_at, depth_of}
use Rattle.retime.proofs.Cutting.{sound_lanes_of}
use Rattle.cycle_changes.proofs.Changing.{depth_stands, none_put, put_edited, other_cycles, no_room_lost}
use Rattle.cycle_changes.proofs.{Moving.moved_same, SomeCores.some_core}
use Rattle.cycle_changes.proofs.changed.change.Goals as goal

pub put_found-requires-clause-sound : goal.put_found-requires-clause-sound
put_found-requires-clause-sound g c = sound_lanes_of c.args.engine.now c.requires.core

pub returns-then-not-find_seeds-clause-put : goal.returns-then-not-find_seeds-clause-put
returns-then-not-find_seeds-clause-put g c = rw c.clear.ensures.items (none_put c.args.engine.now (sound_lanes_of c.args.engine.now
    c.requires.core))

pub returns-then-not-find_seeds-clause-moved : goal.returns-then-not-find_seeds-clause-moved
returns-then-not-find_seeds-clause-moved g c = rw c.clear.ensures.items (moved_same _)

pub are_found_right-requires-clause-core : goal.are_found_right-requires-clause-core
are_found_right-requires-clause-core g c =
    let old = c.args.engine.now in
    let new = c.put_found.new.engine in
    let puts = c.put_found.new.changes.puts.items in
    let edit : Edit = record { channel = c.args.channel; depth = depth_of (channel_at old.fifos.channels c.args.channel).kind } in
    let put = put_edited old new old.fifos edit puts (sym (depth_stands old.fifos.channels c.args.channel)) refl refl
    c.put_found.ensures.put in
    some_core old new edit c.requires.fifo.0 c.requires.fifo.1 (other_cycles old new edit puts put) (no_room_lost old new edit puts put)
    c.requires.core

pub returns-clause-right : goal.returns-clause-right
returns-clause-right g c = λ yes. record {
  felt = rw c.put_found.ensures.seeds (c.if-not-find_seeds.ensures refl);
  now = rw (← c.as_slice.ensures.value, ← c.as_slice-2.ensures.value) (c.are_found_right.ensures yes);
}
