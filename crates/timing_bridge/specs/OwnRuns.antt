-- A module's own run, local clock by local clock, beside the theory's own run, step by step.
use Rattle.std.specs.Prelude.{◌≡◌, ℕ, zero, suc, ◌+◌, ◌<◌, ◌≤◌, List, [], ◌∷◌, map, length, slice_index_or, ⊤}
use Rattle.std.specs.List.{range_with_len}
use Rattle.flow_design.specs.{Plan, ModuleState, Reply}
use Rattle.lockstep_defs.specs.{requests_of, OwnStep, Own, quiet}
use Rattle.event_timing.specs.{after_skip, ready, own, core_reply, Core.Core}
use Rattle.timing_bridge.specs.Designs.{design, told_all}
use Rattle.event_timing.specs.Machines as theory

-- ---- replies

-- the k-th entry of the list, where there is one, is the theory's reply to module i's step k, in the form that the machine gives
abbrev pub AreTold : Plan → ℕ → (ℕ → List theory.Reply) → List (List Reply) → Type 0
AreTold p i r replies = (k : ℕ) → k < length replies
    → told_all (requests_of p (i, ready (design p) i (own (design p) i r k))) (r k) ≡ slice_index_or replies k []

-- the replies that a core gives to module i's first n steps, in the form that the machine gives
abbrev pub core_replies : Plan → Core ModuleState → ℕ → ℕ → List (List Reply)
core_replies p x i n = map (λ k. told_all (requests_of p (i, x.state i k)) (core_reply (design p) x i k)) (range_with_len 0 n)

-- ---- steps

-- the local clock of the step itself, which counts to the gap of the next step; there is none before the first step
abbrev pub clocks_of_steps : ℕ → ℕ
clocks_of_steps zero = 0
clocks_of_steps (suc k) = 1

-- a step is number k of the theory's own run: its gap is the quiet clocks before it, and its requests are those of the state after
-- them
pub record IsOwnStep (p : Plan) (i : ℕ) (r : ℕ → List theory.Reply) (k : ℕ) (s : OwnStep) : Type 0 where
  pub gap : s.gap ≡ clocks_of_steps k + quiet p i (own (design p) i r k)
  pub requests : s.requests ≡ requests_of p (i, ready (design p) i (own (design p) i r k))

-- these steps are those of the theory's own run from number k on
abbrev pub AreOwnSteps : Plan → ℕ → (ℕ → List theory.Reply) → ℕ → List OwnStep → Type 0
AreOwnSteps p i r k [] = ⊤
AreOwnSteps p i r k (s ∷ ss) = IsOwnStep p i r k s × AreOwnSteps p i r (suc k) ss

-- an own run is `clocks` quiet clocks after its latest step
pub record HasComeTo (p : Plan) (i : ℕ) (r : ℕ → List theory.Reply) (o : Own) (clocks : ℕ) : Type 0 where
  pub steps_are : AreOwnSteps p i r 0 o.steps
  pub state_is : o.state ≡ after_skip (design p) i clocks (own (design p) i r (length o.steps))
  pub since_is : o.since ≡ clocks_of_steps (length o.steps) + clocks
  pub within : clocks ≤ quiet p i (own (design p) i r (length o.steps))
