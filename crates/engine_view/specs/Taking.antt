-- The pushes and pops of a step's accesses, as the table takes them.
use Rattle.std.specs.Prelude.{Bool, cond, ◌&&◌, List, [], ◌∷◌, map}
use Rattle.flow_word.specs.{is_taking, side_of, Side, Access, Place}
use Rattle.flow_word.specs.declared.access.Side.TheVariants.{Pop, Push}
use Rattle.fifo_table.specs.{TableChannel, Channel, with_push, with_pop}

-- the kind of each channel
abbrev pub kinds_in : List Channel → List TableChannel
kinds_in channels = map (λ c. c.kind) channels

-- the channels after an access of the step at this place was done
abbrev pub with_access : Side → Place → List Channel → Access → List Channel
with_access Pop at channels a = with_pop channels a.channel at
with_access Push at channels a = with_push channels a.channel at a.value

-- the channels after those of a step's accesses that are done, in order
abbrev pub taken_all : Place → List Channel → List Access → List Bool → List Channel
taken_all at channels [] done = channels
taken_all at channels (a ∷ as') [] = channels
taken_all at channels (a ∷ as') (b ∷ bs) = taken_all at (cond (is_taking a.kind && b) (with_access (side_of a.kind) at channels a) channels)
    as' bs
