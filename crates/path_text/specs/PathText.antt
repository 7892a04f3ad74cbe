-- The text on what decides the latency.
use Rattle.std.specs.Prelude.{ℕ, ◌==◌, Bool, true, false, if◌then◌else◌, List, [], ◌∷◌, ◌++◌, codes, decimal, length, map, reverse}
use Rattle.std.specs.List.{flat_map, range_with_len}
use Rattle.flow_word.specs.{Side, declared.access.Side.TheVariants.Pop, declared.access.Side.TheVariants.Push}
use Rattle.flow_design.specs.{Design, Plan, clock_of, Token, Verdict}
use Rattle.lockstep_defs.specs.{verdict}
use Rattle.report_text.specs.{text_of_lines, verdict_tokens, module_name, channel_name, stall_word}
use Rattle.depth_order.specs.{Link, path}
use Rattle.sim_core.specs.{log_of}
use Rattle.path_text.specs.{declared.link.Polled.Polled, Polls.polled_path, Polls.links_in, Polls.polls_along}
use Rattle.path_text.specs.Counts.{clocks_spent, clocks_waited, crossings, times_polled}

-- the line `spend M N` for N clocks that the chain spends in the module M, if N is not 0
abbrev pub spend_lines : Token → ℕ → List (List Token)
spend_lines name n = if n == 0 then [] else (codes "spend" ∷ name ∷ decimal n ∷ []) ∷ []

-- the line `cross empty F N` or `cross full F N` for a channel F that the chain crosses N times so, if N is not 0
abbrev pub cross_lines : Side → Token → ℕ → List (List Token)
cross_lines side name n = if n == 0 then [] else (codes "cross" ∷ stall_word side ∷ name ∷ decimal n ∷ []) ∷ []

-- the line `poll empty F N W` for N elements polled for on channel F, to whose pushes the chain goes back, and which waited W
-- clocks in all, if N is not 0
abbrev pub polled_lines : Token → ℕ → ℕ → List (List Token)
polled_lines name n w = if n == 0 then [] else (codes "poll" ∷ codes "empty" ∷ name ∷ decimal n ∷ decimal w ∷ []) ∷ []

-- the lines of all modules, in order
abbrev pub all_spend_lines : Design → (ℕ → ℕ) → List (List Token)
all_spend_lines design clocks = flat_map (λ m. spend_lines (module_name design m) (clocks m)) (range_with_len 0 (length design.modules))

abbrev pub lines_at : Token → (Side → ℕ) → ℕ → ℕ → List (List Token)
lines_at name crossed polled waited =
    (cross_lines Pop name (crossed Pop) ++ cross_lines Push name (crossed Push)) ++ polled_lines name polled waited

-- the lines of all channels, in order of declaration
abbrev pub channel_lines : Design → (Side → ℕ → ℕ) → (ℕ → ℕ) → (ℕ → ℕ) → List (List Token)
channel_lines design crossed polled waited = flat_map
    (λ f. lines_at (channel_name design f) (λ side. crossed side f) (polled f) (waited f))
    (range_with_len 0 (length design.channels))

-- the tokens of `link M X T`: the chain spends the clocks from X to T in module M
abbrev pub link_tokens : Design → Link → List Token
link_tokens design l = codes "link" ∷ module_name design l.module ∷ decimal l.first ∷ decimal l.last ∷ []

-- the lines of all links in order of time, if asked for; the chain itself has its latest link first
abbrev pub link_lines : Design → Bool → List Link → List (List Token)
link_lines design asked links = if asked then map (link_tokens design) (reverse links) else []

-- the lines of the modules and channels, for a chain and what was polled for along it
abbrev pub count_lines : Design → List Link → List Polled → List (List Token)
count_lines design links polls =
    all_spend_lines design (clocks_spent links) ++ channel_lines design (crossings links) (times_polled polls) (clocks_waited polls)

abbrev pub path_lines : Design → Bool → Verdict → List Link → List Polled → List (List Token)
path_lines design events v links polls =
    (codes "path" ∷ []) ∷ verdict_tokens v ∷ count_lines design links polls ++ link_lines design events links

-- the links of the chain back from the plan's end, which follows polls if asked for
abbrev pub told_links : Bool → Plan → List Link
told_links false p = path p (clock_of (verdict p))
told_links true p = links_in (polled_path p (log_of p) (clock_of (verdict p)))

-- what was polled for along the chain
abbrev pub told_polls : Bool → Plan → List Polled
told_polls false p = []
told_polls true p = polls_along (polled_path p (log_of p) (clock_of (verdict p)))

-- the text on the latency of a plan, with the links and with the polls, if asked for
unfoldable pub path_text : Bool → Bool → Plan → List ℕ
path_text events polls p = text_of_lines (path_lines p.design events (verdict p) (told_links polls p) (told_polls polls p))
