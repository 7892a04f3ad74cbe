-- The accesses of a step of a graph.
use Rattle.std.proofs.{Common.◌≡◌, Common.List, Common.subst, lemmas.Option.get_or_from_slice_get}
use Rattle.std.specs.Prelude.{All, slice_get, Some}
use Rattle.depth_cuts.specs.{Access, Place, Step, Lane, HasStep, lane_at, no_lane, Channel, IsAccess, HasAccesses}

-- are those of channels of the table
pub of_table : (lanes : List Lane) (channels : List Channel) (place : Place) (step : Step) (accesses : List Access)
    → HasAccesses lanes channels → HasStep lanes place → slice_get (lane_at lanes place.module).steps place.step ≡ Some step
    → step.accesses ≡ accesses → All (IsAccess channels) accesses
of_table lanes channels place step accesses all here is same =
    subst (All (IsAccess channels)) same
    (subst (λ (s : Step). All (IsAccess channels) s.accesses)
    (get_or_from_slice_get (lane_at lanes place.module).steps place.step step step is)
    (all place.module no_lane here.owner place.step step here.step))
