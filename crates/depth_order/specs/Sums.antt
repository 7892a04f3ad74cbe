-- How many clocks a chain accounts for.
use Rattle.std.specs.Prelude.{◌≡◌, ⊤, ℕ, suc, ◌+◌, ◌-◌, ◌<◌, IsTrue, IsFalse, Option, Some, None, List, [], ◌∷◌, length}
use Rattle.flow_word.specs.{Port}
use Rattle.flow_design.specs.{Plan, Verdict}
use Rattle.flow_design.specs.declared.report.Verdict.TheVariants.{Done, Deadlock, Cycles, Ops}
use Rattle.timing_bridge.specs.{lag_in}
use Rattle.depth_order.specs.{declared.link.Link.Link, Chain.moves_at, Chain.path}

-- the clocks that a chain spends in modules
abbrev pub spent : List Link → ℕ
spent [] = 0
spent (l ∷ ls) = (suc l.last - l.first) + spent ls

-- the clocks between two links: an element is in flight for the channel's delay, of which the clock of its push belongs to a link
abbrev pub clocks_across : Plan → Option Port → ℕ
clocks_across p None = 0
clocks_across p (Some a) = lag_in p a.side a.channel - 1

abbrev pub under_way : Plan → List Link → ℕ
under_way p [] = 0
under_way p (l ∷ ls) = clocks_across p l.crossed + under_way p ls

-- the verdict is that of a settled clock, and no cycle limit
abbrev pub IsEnd : Verdict → Type 0
IsEnd (Done clock) = ⊤
IsEnd (Deadlock clock) = ⊤
IsEnd (Cycles clock) = ⊥
IsEnd (Ops clock) = ⊤

-- the clocks that the chain back from a clock accounts for: those spent in modules, and those in which its elements are in flight
abbrev pub chain_clocks : Plan → ℕ → ℕ
chain_clocks p clock = spent (path p clock) + under_way p (path p clock)

-- the chain back from a clock accounts for all clocks before it
abbrev pub IsWhole : Plan → ℕ → Type 0
IsWhole p clock = chain_clocks p clock ≡ clock

-- t is the last clock before this one in which a module of the plan moves
pub record MovesLast (p : Plan) (clock t : ℕ) : Type 0 where
  pub mover : ℕ
  pub inside : mover < length p.design.modules
  pub moves : IsTrue (moves_at p t mover)
  pub below : t < clock
  pub none_later : (c m : ℕ) → t < c → c < clock → m < length p.design.modules → IsFalse (moves_at p c m)

-- no module of the plan moves before this clock
abbrev pub NoneMoves : Plan → ℕ → Type 0
NoneMoves p clock = (c m : ℕ) → c < clock → m < length p.design.modules → IsFalse (moves_at p c m)
