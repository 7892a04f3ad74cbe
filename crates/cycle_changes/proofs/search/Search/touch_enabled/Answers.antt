use Rattle.std.proofs.{Common.subst, Common.◌∷◌, lemmas.List.Elements.All-head, lemmas.List.Elements.All-tail}
use Rattle.std.specs.Prelude.{All}
use Rattle.cycle_changes.specs.{IsAccess}
use Rattle.cycle_changes.proofs.search.Search.touch_enabled.Goals.{In-Some}
use Rattle.cycle_changes.proofs.search.Search.touch_enabled.Goals as goal

-- this access and those that are left are accesses of the table
left : (c : In-Some) → All (IsAccess c.args.fifos.now.channels) (c.in-Some.access ∷ c.next.new.self)
left c = subst (All (IsAccess c.args.fifos.now.channels)) c.in-Some.ensures.steps c.loop-access.invariant

pub enabled_by-requires : goal.enabled_by-requires
enabled_by-requires c =
    All-head (IsAccess c.args.fifos.now.channels) c.in-Some.access c.next.new.self (left (goal.at.enabled_by-requires c).In-Some)

pub loop-access-preserved-in-Continue-1 : goal.loop-access-preserved-in-Continue-1
loop-access-preserved-in-Continue-1 c =
    All-tail (IsAccess c.args.fifos.now.channels) c.in-Some.access c.next.new.self
    (left (goal.at.loop-access-preserved-in-Continue-1 c).In-Some)

pub loop-access-preserved : goal.loop-access-preserved
loop-access-preserved c =
    All-tail (IsAccess c.args.fifos.now.channels) c.in-Some.access c.next.new.self (left (goal.at.loop-access-preserved c).In-Some)
