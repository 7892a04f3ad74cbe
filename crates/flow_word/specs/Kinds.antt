-- The kinds of accesses: where each stands, and what it does there.
use Rattle.std.specs.Prelude.{Bool, true, false}
use Rattle.flow_word.specs.{declared.access.Side.Side, declared.access.Kind.Kind}
use Rattle.flow_word.specs.declared.access.Side.TheVariants.{Pop, Push}
use Rattle.flow_word.specs.declared.access.Kind.TheVariants.{Read, Write, TryRead, TryWrite, Empty, Full}

-- ---- sides

abbrev pub other_side : Side → Side
other_side Pop = Push
other_side Push = Pop

-- the two sides are the same
abbrev pub same_side : Side → Side → Bool
same_side Pop Pop = true
same_side Pop Push = false
same_side Push Pop = false
same_side Push Push = true

-- ---- kinds

-- the side of its channel at which an access stands
abbrev pub side_of : Kind → Side
side_of Read = Pop
side_of Write = Push
side_of TryRead = Pop
side_of TryWrite = Push
side_of Empty = Pop
side_of Full = Push

-- the access blocks: it stalls its module while it cannot be done; an access that does not block is a query
abbrev pub is_blocking : Kind → Bool
is_blocking Read = true
is_blocking Write = true
is_blocking TryRead = false
is_blocking TryWrite = false
is_blocking Empty = false
is_blocking Full = false

-- the access pops or pushes an element when it is done; `empty` and `full` only test
abbrev pub is_taking : Kind → Bool
is_taking Read = true
is_taking Write = true
is_taking TryRead = true
is_taking TryWrite = true
is_taking Empty = false
is_taking Full = false
