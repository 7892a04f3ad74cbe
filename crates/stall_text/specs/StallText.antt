-- The text of `stalls`.
use Rattle.std.specs.Prelude.{ℕ, ◌==◌, Bool, if◌then◌else◌, List, [], ◌∷◌, ◌++◌, map, length, codes, decimal}
use Rattle.std.specs.List.{flat_map, range_with_len}
use Rattle.flow_word.specs.{Side, declared.access.Side.TheVariants.Pop, declared.access.Side.TheVariants.Push}
use Rattle.flow_design.specs.{Plan, Token}
use Rattle.lockstep_defs.specs.{verdict}
use Rattle.report_text.specs.{text_of_lines, verdict_tokens, module_name, channel_name, stall_word}
use Rattle.timelines.specs.{fifos, moved_clocks, still_clocks, still_clocks_at}
use Rattle.port_clocks.specs.{peak}
use Rattle.stall_text.specs.{Stalls.port_clocks, Stalls.empty_clocks, Stalls.full_clocks, Polls.poll_lines}

-- the word for a port
abbrev pub port_word : Side → Token
port_word Pop = codes "pop"
port_word Push = codes "push"

-- the tokens of `module M MOVED STILL`
abbrev pub module_tokens : Token → ℕ → ℕ → List Token
module_tokens name moved still = codes "module" ∷ name ∷ decimal moved ∷ decimal still ∷ []

-- the line `stall M empty F N` or `stall M full F N`, if N is not 0
abbrev pub cause_lines : Token → Token → Side → ℕ → List (List Token)
cause_lines name channel side clocks =
    if clocks == 0 then [] else (codes "stall" ∷ name ∷ stall_word side ∷ channel ∷ decimal clocks ∷ []) ∷ []

-- the last of these numbers, or n where there are no further ones
abbrev pub last_after : ℕ → List ℕ → ℕ
last_after n [] = n
last_after n (m ∷ more) = last_after m more

-- the line `port M pop F N FIRST LAST` or `port M push F N FIRST LAST`, if N is not 0
abbrev pub port_lines : Token → Token → Side → List ℕ → List (List Token)
port_lines name channel side [] = []
port_lines name channel side (first ∷ more) =
    (codes "port" ∷ name ∷ port_word side ∷ channel ∷ decimal (length (first ∷ more)) ∷ decimal first
    ∷ decimal (last_after first more) ∷ []) ∷ []

-- for each channel, in order of declaration, the lines of its popping side and then those of its pushing side
abbrev pub at_each_side : ℕ → (ℕ → Side → List (List Token)) → List (List Token)
at_each_side channels lines = flat_map (λ f. lines f Pop ++ lines f Push) (range_with_len 0 channels)

abbrev pub causes_of : Plan → ℕ → ℕ → Side → List (List Token)
causes_of p i f side = cause_lines (module_name p.design i) (channel_name p.design f) side (still_clocks_at p i side f)

abbrev pub ports_of : Plan → ℕ → ℕ → Side → List (List Token)
ports_of p i f side =
    port_lines (module_name p.design i) (channel_name p.design f) side (port_clocks p i (record { side = side; channel = f }))

-- the lines of module i's clocks, and of the causes of its stalls
abbrev pub clock_lines : Plan → ℕ → List (List Token)
clock_lines p i =
    module_tokens (module_name p.design i) (moved_clocks p i) (still_clocks p i) ∷ at_each_side (length p.design.channels) (causes_of p i)

-- all lines of module i: its clocks, the causes of its stalls, its ports, and, if they are asked for, its polls
abbrev pub module_lines : Bool → Plan → ℕ → List (List Token)
module_lines polls p i =
    (clock_lines p i ++ at_each_side (length p.design.channels) (ports_of p i)) ++ (if polls then poll_lines p i else [])

-- the tokens of `fifo F MOST EMPTY FULL`
abbrev pub fifo_tokens : Token → ℕ → ℕ → ℕ → List Token
fifo_tokens name most empty full = codes "fifo" ∷ name ∷ decimal most ∷ decimal empty ∷ decimal full ∷ []

abbrev pub fifo_line : Plan → ℕ → List Token
fifo_line p f = fifo_tokens (channel_name p.design f) (peak p f) (empty_clocks p f) (full_clocks p f)

abbrev pub stall_lines : Bool → Plan → List (List Token)
stall_lines polls p =
    (codes "stalls" ∷ []) ∷ verdict_tokens (verdict p)
    ∷ flat_map (module_lines polls p) (range_with_len 0 (length p.design.modules)) ++ map (fifo_line p) (fifos p)

-- the text of `stalls`, with the lines of polls or without them
unfoldable pub stalls_text : Bool → Plan → List ℕ
stalls_text polls p = text_of_lines (stall_lines polls p)
