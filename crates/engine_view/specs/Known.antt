-- What the code knows of an access, in the theory's words.
use Rattle.time_engine.specs.declared.known.Known as of_code
use Rattle.time_engine.specs.declared.known.Known.TheVariants as code
use Rattle.std.specs.Prelude.{ℕ, Bool, true, ◌&&◌, ◌||◌, List, [], ◌∷◌, map}
use Rattle.flow_word.specs.{is_blocking, Access}
use Rattle.event_graph.specs.{Lane}
use Rattle.fifo_table.specs.{Channel}
use Rattle.time_engine.specs.{when_possible}
use Rattle.event_timing.specs.{Known, answer, is_decided, Enablers.Known.From, Enablers.Known.Never, Enablers.Known.Unknown}

abbrev pub as_known : of_code.Known → Known
as_known (code.From u) = From u
as_known code.Never = Never
as_known code.Unknown = Unknown

-- the flag of an access in clock c, by the graph and the table: true where it blocks, else whether it is known to be possible
abbrev pub flag_found : List Lane → List Channel → ℕ → Access → Bool
flag_found lanes channels c a = is_blocking a.kind || answer (as_known (when_possible lanes channels a)) c

abbrev pub found_flags : List Lane → List Channel → ℕ → List Access → List Bool
found_flags lanes channels c accesses = map (flag_found lanes channels c) accesses

-- each query among these accesses is decided, by the graph and the table
abbrev pub are_decided : List Lane → List Channel → List Access → Bool
are_decided lanes channels [] = true
are_decided lanes channels (a ∷ as') =
    (is_blocking a.kind || is_decided (as_known (when_possible lanes channels a))) && are_decided lanes channels as'
