-- What a module asks is what its step holds.
use Rattle.std.proofs.Common.{arith, ◌≡◌, ap, Bool, true, false}
use Rattle.engine_report.specs.{Access, Kind, Side, Request, seen}
use Rattle.flow_word.specs.declared.access.Kind.TheVariants.{Read, Write, TryRead, TryWrite, Empty, Full}
use Rattle.flow_word.specs.declared.access.Side.TheVariants.{Pop, Push}
use Rattle.event_timing.specs.Machines as theory
use Rattle.timing_bridge.specs.Designs as bridge

-- the kind of an access of the theory
abbrev pub kind_by : Side → Bool → Bool → Kind
kind_by Pop true takes = Read
kind_by Pop false true = TryRead
kind_by Pop false false = Empty
kind_by Push true takes = Write
kind_by Push false true = TryWrite
kind_by Push false false = Full

abbrev pub kind_in : theory.Access → Kind
kind_in a = kind_by a.side a.blocks a.takes

pub kind_seen : (a : Access) → kind_in (seen a) ≡ a.kind
kind_seen a = grind arith

kind_asked : (r : Request) → kind_in (bridge.seen_request r) ≡ r.kind
kind_asked r = grind arith

-- they are of the same kind
pub same_kind : (r : Request) (a : Access) → bridge.seen_request r ≡ seen a → r.kind ≡ a.kind
same_kind r a e = let asked = kind_asked r in let there = kind_seen a in cc

pub same_channel : (r : Request) (a : Access) → bridge.seen_request r ≡ seen a → r.channel ≡ a.channel
same_channel r a e = ap (λ (t : theory.Access). t.channel) e
