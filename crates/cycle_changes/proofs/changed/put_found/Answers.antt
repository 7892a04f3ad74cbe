use Rattle.std.proofs.Common.{refl, List}
use Rattle.cycle_changes.specs.{Lane, AreDrafted}
use Rattle.cycle_changes.proofs.{Changing.none_put, Moving.moved_same, Moving.none_drafted, changed.put_found.Given.Over}
use Rattle.cycle_changes.proofs.changed.put_found.Goals.{After-search-2-1}
use Rattle.cycle_changes.proofs.changed.put_found.Goals as goal

pub returns-then-not-unwrap_or-clause-put : goal.returns-then-not-unwrap_or-clause-put
returns-then-not-unwrap_or-clause-put g c = rw c.requires.none (none_put _ c.requires.sound)

pub returns-then-not-unwrap_or-clause-moved : goal.returns-then-not-unwrap_or-clause-moved
returns-then-not-unwrap_or-clause-moved g c = rw c.requires.none (moved_same _)

-- what was put, where nothing was before
put_now : (g : Over) (c : After-search-2-1 g) → AreDrafted c.run-found.new.self.draft c.args.engine.now.graph.lanes
    c.put_moved.new.puts.items c.put_moved.new.graph.lanes
put_now g c =
    let lanes : List Lane = c.args.engine.now.graph.lanes in
    c.put_moved.ensures.puts lanes (rw c.requires.none (none_drafted c.run-found.new.self.draft lanes c.requires.sound))

pub returns-clause-put : goal.returns-clause-put
returns-clause-put g c = record {
  lanes = (put_now g c).put;
  rooms = c.put_moved.ensures.rooms;
  fifos = refl;
  log = refl;
  ends = refl;
  credits = refl;
}

pub returns-clause-moved : goal.returns-clause-moved
returns-clause-moved g c = (put_now g c).moved
