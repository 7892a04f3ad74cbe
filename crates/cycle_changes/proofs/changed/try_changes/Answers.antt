use Rattle.std.proofs.Common.{refl, ap, ap₂, ◌∙◌, List, [], ℕ, length, arith}
use Rattle.cycle_changes.specs.{Channel, deepened_channels, RoomedChannels, Engine, kinds_in, Put, put_places}
use Rattle.retime.proofs.Cutting.{sound_lanes_of}
use Rattle.cycle_changes.proofs.Changing.{depth_back, none_put, put_edited, puts_are_other, other_cycles, no_room_lost, all_same}
use Rattle.cycle_changes.proofs.{SomeCores.some_core, SomeCores.keeps_room, RightChanges.right_changes}
use Rattle.cycle_changes.proofs.changed.try_changes.Goals as goal

pub change-requires-clause-core : goal.change-requires-clause-core
change-requires-clause-core g c =
    let old = c.args.engine.now in
    let new : Engine = record old { fifos = c.set_depth.new.self } in
    let put = put_edited old new c.set_depth.new.self c.args.edit.now [] c.set_depth.ensures.channels c.set_depth.ensures.push_rooms
    c.set_depth.ensures.pop_rooms (none_put new (sound_lanes_of old c.requires.core)) in
    some_core old new c.args.edit.now c.requires.edit.inside c.requires.edit.is_fifo (other_cycles old new c.args.edit.now [] put)
    (no_room_lost old new c.args.edit.now [] put) c.requires.core

pub returns-then-change-clause-changed : goal.returns-then-change-clause-changed
returns-then-change-clause-changed g c = λ yes.
    let old = c.args.engine.now in
    let new = c.change.new.engine in
    let edit = c.args.edit.now in
    let seeds = c.change.new.changes.seeds.items in
    let puts = c.change.new.changes.puts.items in
    let put = put_edited old new c.set_depth.new.self edit puts c.set_depth.ensures.channels c.set_depth.ensures.push_rooms
    c.set_depth.ensures.pop_rooms c.change.ensures.put in
    let other = other_cycles old new edit puts put in
    let are = puts_are_other old.graph.lanes puts new.graph.lanes put.lanes in
    let found = c.if-change.ensures.right refl in
    let loses = no_room_lost old new edit puts put in
    record {
      right = right_changes old new edit c.args.limit seeds (put_places puts) c.requires.edit.inside c.requires.edit.is_fifo (record {
        other = other;
        felt = rw (← c.set_depth.ensures.channels) found.felt;
        looked = found.now.looked;
        same = are.same;
        around = found.now.around;
        late = found.now.late;
      });
      core = some_core old new edit c.requires.edit.inside c.requires.edit.is_fifo other loses c.requires.core;
      room = keeps_room old new edit c.requires.edit.inside c.requires.edit.is_fifo other loses;
      steps = are.only;
      counts = are.counts;
      kinds = ap kinds_in put.channels;
      log = put.log;
    }

pub returns-then-change-clause-ticked : goal.returns-then-change-clause-ticked
returns-then-change-clause-ticked g c =
    let all = ap (λ (ps : List Put). length ps) c.as_slice.ensures.value in
    let ticks = c.change.ensures.ticks in
    let moved = c.change.ensures.moved in
    let count = c.count_of.ensures in
    let none = c.new-tried.ensures in
    omega arith

pub returns-clause-same : goal.returns-clause-same
returns-clause-same g c = λ no.
    let old = c.args.engine.now in
    let put = c.change.ensures.put in
    all_same old _ (c.undo.ensures.undone old.graph.lanes put.lanes) (c.undo.ensures.rooms ∙ put.rooms)
    (c.set_depth-2.ensures.channels
    ∙ (ap₂ (λ (cs : List Channel) (n : ℕ). deepened_channels cs c.args.edit.now.channel n)
    (ap (λ (q : RoomedChannels). q.channels) put.fifos ∙ c.set_depth.ensures.channels) c.depth-stands.ensures.depth
    ∙ depth_back old.fifos.channels c.args.edit.now.channel c.args.edit.now.depth c.requires.edit.inside))
    (c.set_depth-2.ensures.push_rooms ∙ (ap (λ (q : RoomedChannels). q.push_rooms) put.fifos ∙ c.set_depth.ensures.push_rooms))
    (c.set_depth-2.ensures.pop_rooms ∙ (ap (λ (q : RoomedChannels). q.pop_rooms) put.fifos ∙ c.set_depth.ensures.pop_rooms)) put.log
    put.ends put.credits
