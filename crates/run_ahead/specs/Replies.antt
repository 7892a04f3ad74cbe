-- The replies to a step's accesses, from the outcomes and values that they need.
use Rattle.std.specs.Prelude.{Bool, true, false, cond, List, [], ◌∷◌, ◌++◌, ℕ, suc, ◌-◌, Option, None, Some, option_map, is_none, slice_get}
use Rattle.flow_word.specs.{is_blocking, Access, Kind}
use Rattle.flow_word.specs.declared.access.Kind.TheVariants.{Read, Write, TryRead, TryWrite, Empty, Full}
use Rattle.flow_design.specs.{Reply}
use Rattle.flow_design.specs.declared.state.Reply.TheVariants.{Done, Value, Flag, Took, Missed}
use Rattle.fifo_table.specs.{Channel}
use Rattle.engine_view.specs.{values_at}

-- the reply to an access of this kind, from its query's outcome and the value that it pops; none where one that it needs is not
-- there
abbrev pub reply_now : Kind → Option Bool → Option ℕ → Option Reply
reply_now Read outcome value = option_map Value value
reply_now Write outcome value = Some Done
reply_now TryRead None value = None
reply_now TryRead (Some true) value = option_map Took value
reply_now TryRead (Some false) value = Some Missed
reply_now TryWrite outcome value = option_map Flag outcome
reply_now Empty outcome value = option_map Flag outcome
reply_now Full outcome value = option_map Flag outcome

-- a reply and the others after it, if all of them are there
abbrev pub put_first : Option Reply → Option (List Reply) → Option (List Reply)
put_first None rest = None
put_first (Some r) None = None
put_first (Some r) (Some rs) = Some (r ∷ rs)

-- these replies and the others after them, if the others are there
abbrev pub put_before : List Reply → Option (List Reply) → Option (List Reply)
put_before rs None = None
put_before rs (Some qs) = Some (rs ++ qs)

-- a reply that is there, or else that to a write
abbrev pub or_done : Option Reply → Reply
or_done None = Done
or_done (Some r) = r

-- the reply to an access before which its step makes so many queries, where the outcomes are those of this step and later ones
abbrev pub reply_told : List Bool → (Access → Option ℕ) → ℕ → ℕ → Access → Reply
reply_told outcomes value place asked a = or_done (reply_now a.kind (slice_get outcomes asked) (value a))

-- how many outcomes are read after an access of this kind
abbrev pub told_by : Kind → ℕ → ℕ
told_by kind told = cond (is_blocking kind) told (suc told)

-- the replies to a step's accesses, given the outcomes, of which the first ones belong to earlier steps, and the value that each
-- pop gives; none where one of them is not there
abbrev pub replies_from : List Bool → (Access → Option ℕ) → ℕ → List Access → Option (List Reply)
replies_from outcomes value told [] = Some []
replies_from outcomes value told (a ∷ as') =
    put_first (reply_now a.kind (slice_get outcomes told) (value a)) (replies_from outcomes value (told_by a.kind told) as')

-- the number of the first access whose reply is not there
abbrev pub first_missing : List Bool → (Access → Option ℕ) → ℕ → List Access → Option ℕ
first_missing outcomes value told [] = None
first_missing outcomes value told (a ∷ as') =
    cond (is_none (reply_now a.kind (slice_get outcomes told) (value a))) (Some 0)
    (option_map suc (first_missing outcomes value (told_by a.kind told) as'))

-- the value that a table has for a pop, by its ordinal
abbrev pub value_now : List Channel → Access → Option ℕ
value_now channels a = slice_get (values_at channels a.channel) (a.ordinal - 1)

-- an access takes a value, by the outcome that it has if it is a query
abbrev pub takes_by : Kind → Option Bool → Bool
takes_by Read outcome = true
takes_by Write outcome = false
takes_by TryRead None = false
takes_by TryRead (Some done) = done
takes_by TryWrite outcome = false
takes_by Empty outcome = false
takes_by Full outcome = false

-- the reply takes a value
abbrev pub takes_value : Reply → Bool
takes_value Done = false
takes_value (Value v) = true
takes_value (Flag b) = false
takes_value (Took v) = true
takes_value Missed = false
