-- Agreement of a core with a history.
use Rattle.std.specs.Prelude.{Bool, List, Some, [], false, suc, true, ℕ, ◌+◌, ◌<◌, ◌∷◌, ◌≡◌, ◌≤◌, ⊤}
use Rattle.flow_word.specs.declared.access.Side.TheVariants.{Pop, Push}
use Rattle.event_timing.specs.{Machines.Access, Machines.Reply, Machines.Design, Machines.ready, Histories.Trace, Histories.is_possible}
use Rattle.event_timing.specs.{Histories.can_move, Histories.replies, Steps.steps, Steps.done, Views.own, Views.from, Enablers.candidate}
use Rattle.event_timing.specs.Core.{Core, core_accesses, core_tally, all_below, core_reply, values_there, view, has_query, no_outcomes}

-- there is one flag for each access, and it is true where the access blocks
abbrev pub FlagsFit : List Access → List Bool → Type 0
FlagsFit [] [] = ⊤
FlagsFit [] (b ∷ bs) = ⊥
FlagsFit (a ∷ xs) [] = ⊥
FlagsFit (a ∷ xs) (b ∷ bs) = (a.blocks ≡ true → b ≡ true) × FlagsFit xs bs

-- whether each of these accesses is possible in clock c of the history
abbrev pub possible_all : {S : Type 0} → Design S → Trace S → ℕ → List Access → List Bool
possible_all {S} d h c [] = []
possible_all {S} d h c (a ∷ xs) = is_possible d h c a.side a.channel ∷ possible_all d h c xs

-- ---- agreement

-- the marks of each module are those of its own run on the replies that the core gives
pub record AreOwnMarks {S : Type 0} (d : Design S) (x : Core S) : Type 0 where
  pub own_step : (m k : ℕ) → k < x.emitted m → x.state m k ≡ ready d m (own d m (core_reply d x m) k)
  pub own_wait : (m k : ℕ) → k < x.emitted m → x.wait m k ≡ d.quiet m (own d m (core_reply d x m) k)
  pub lives : (m k : ℕ) → k < x.emitted m → d.is_over m (x.state m k) ≡ false
  pub ended : (m : ℕ) → x.over m ≡ true → d.is_over m (ready d m (own d m (core_reply d x m) (x.emitted m))) ≡ true
  pub replied : (m k : ℕ) → suc k < x.emitted m → x.answered m k ≡ true
  pub there : (m k : ℕ) → suc k < x.emitted m → values_there d x m k ≡ true
  pub ended_replied : (m k : ℕ) → x.over m ≡ true → suc k ≡ x.emitted m → x.answered m k ≡ true
  pub ended_there : (m k : ℕ) → x.over m ≡ true → suc k ≡ x.emitted m → values_there d x m k ≡ true
  pub fit : (m k : ℕ) → k < x.emitted m → FlagsFit (core_accesses d x m k) (x.flags m k)
  pub unanswered : (m k : ℕ) → k < x.emitted m → x.answered m k ≡ false → x.flags m k ≡ no_outcomes (core_accesses d x m k)
  pub inside : (m : ℕ) → d.modules ≤ m → x.emitted m ≡ 0

-- how many elements of a channel are known to come: its inputs, and its pushes in steps with a cycle
abbrev pub elements_timed : {S : Type 0} → Design S → Core S → ℕ → ℕ
elements_timed {S} d x ch = d.start Pop ch + core_tally d x (d.owner Push ch) Push ch (x.timed (d.owner Push ch))

-- each pop of step k, by these flags, pops an input or an element that a step with a cycle pushes
abbrev pub pops_timed : {S : Type 0} → Design S → Core S → ℕ → ℕ → List Bool → Bool
pops_timed {S} d x m k flags = all_below (elements_timed d x) (λ ch. core_tally d x m Pop ch k) (core_accesses d x m k) flags

-- the history does step k of module m in clock c
abbrev pub IsStepAt : {S : Type 0} → Design S → Trace S → ℕ → ℕ → ℕ → Type 0
IsStepAt {S} d h m k c = (steps d h c m ≡ true) × (done d h m c ≡ k)

-- the history does step k of module m in some clock before the limit
abbrev pub HappensBefore : {S : Type 0} → Design S → Trace S → ℕ → ℕ → ℕ → Type 0
HappensBefore {S} d h limit m k = (c : ℕ) × (c < limit) × IsStepAt d h m k c

-- the steps with a cycle are steps of the history, in these clocks and with these replies; verified outcomes are the history's
pub record IsTimed {S : Type 0} (d : Design S) (h : Trace S) (limit : ℕ) (x : Core S) : Type 0 where
  pub within : (m : ℕ) → x.timed m ≤ x.emitted m
  pub steps_then : (m k : ℕ) → k < x.timed m → steps d h (x.cycle m k) m ≡ true
  pub done_then : (m k : ℕ) → k < x.timed m → done d h m (x.cycle m k) ≡ k
  pub reply_then : (m k : ℕ) → k < x.timed m → core_reply d x m k ≡ replies d h (x.cycle m k) m
  pub answered_then : (m k : ℕ) → k < x.timed m → x.answered m k ≡ true
  pub there_then : (m k : ℕ) → k < x.timed m → values_there d x m k ≡ true
  pub below : (m k : ℕ) → k < x.timed m → x.cycle m k < limit
  -- in the first step without a cycle, verified outcomes are the history's, and each pop has its push in a step with a cycle
  pub first_flags : (m : ℕ) → x.timed m < x.emitted m → x.verified m (x.timed m) ≡ true → (c : ℕ) → steps d h c m ≡ true
      → done d h m c ≡ x.timed m → x.flags m (x.timed m) ≡ possible_all d h c (core_accesses d x m (x.timed m))
  pub first_sure : (m : ℕ) → x.timed m < x.emitted m → x.verified m (x.timed m) ≡ true → has_query (core_accesses d x m (x.timed m)) ≡ true
      → pops_timed d x m (x.timed m) (x.flags m (x.timed m)) ≡ true
  pub first_happens : (m : ℕ) → x.timed m < x.emitted m → x.verified m (x.timed m) ≡ true
      → has_query (core_accesses d x m (x.timed m)) ≡ true → HappensBefore d h limit m (x.timed m)
  pub verified_then : (m k : ℕ) → k < x.timed m → x.verified m k ≡ true
  pub verified_answered : (m k : ℕ) → k < x.emitted m → x.verified m k ≡ true → x.answered m k ≡ true
  -- of the steps after the first one without a cycle, only those without a query count as verified
  pub later_plain : (m k : ℕ) → x.timed m < k → k < x.emitted m → x.verified m k ≡ true → has_query (core_accesses d x m k) ≡ false

-- each recorded outcome is verified: none is assumed
abbrev pub AllVerified : {S : Type 0} → Core S → Type 0
AllVerified {S} x = (m k : ℕ) → k < x.emitted m → x.answered m k ≡ true → x.verified m k ≡ true

-- the core agrees with the history, below the limit
pub record IsAgreed {S : Type 0} (d : Design S) (h : Trace S) (limit : ℕ) (x : Core S) : Type 0 where
  pub marks : AreOwnMarks d x
  pub time : IsTimed d h limit x

-- ---- what a final core tells about the verdict

-- no module moves from clock c on
abbrev pub IsAtRest : {S : Type 0} → Design S → Trace S → ℕ → Type 0
IsAtRest {S} d h c = (e : ℕ) → c ≤ e → (m : ℕ) → can_move d h e m ≡ false

-- the clock in which module m comes to its first step without a cycle, or to its end
abbrev pub stop : {S : Type 0} → Design S → Core S → ℕ → ℕ
stop {S} d x m = from (x.cycle m) (x.timed m) + d.quiet m (own d m (core_reply d x m) (x.timed m))

-- the core determines no module's first step without a cycle
abbrev pub IsUndetermined : {S : Type 0} → Design S → Core S → Type 0
IsUndetermined {S} d x = (m c : ℕ) → candidate d (view d x) m ≡ Some c → ⊥

-- no module's own run has more than `most` steps, whatever the replies are
abbrev pub IsBounded : {S : Type 0} → Design S → ℕ → Type 0
IsBounded {S} d most = (m : ℕ) (r : ℕ → List Reply) (k : ℕ) → ((j : ℕ) → j ≤ k → d.is_over m (ready d m (own d m r j)) ≡ false) → k < most
