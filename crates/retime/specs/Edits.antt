-- An edit of a final core, and the history of the edited design.
use Rattle.std.specs.Prelude.{Bool, ◌≡◌, ◌≢◌, ℕ, suc, ◌+◌, ◌≤◌, ◌⊎◌, true, false, slice_get, Some, List, length, take, ◌<◌}
use Rattle.flow_word.specs.{is_blocking, side_of, Access, declared.access.Side.TheVariants.Push}
use Rattle.flow_design.specs.{Edit, ModuleState}
use Rattle.event_graph.specs.{Lane}
use Rattle.fifo_table.specs.{Channel, IsFifo, channel_at, depth_of}
use Rattle.query_log.specs.{Query, Log, outcome_of}
use Rattle.outcome_guard.specs.{IsPrefix, Guard}
use Rattle.event_timing.specs.{Design, IsDesign, Trace, IsHistory, is_possible, core_tally, IsFinal, edited, IsAgreed, IsStepAt, Core.Core}
use Rattle.engine_view.specs.{Engine, held_in, IsSound, queries_before, first_of, step_of, queries_in, possible_by, core_of, Held.Held}
use Rattle.retime.specs.{Rounds.only_steps, Cuts.HasRetimed, Touched.IsFirstTouched, Touched.IsNeverTouched}

-- what is held is a final core of the design, and agrees with the history
pub record IsFinalOf {S : Type 0} (d : Design S) (y : Trace S) (limit : ℕ) (h : Held) : Type 0 where
  pub design : IsDesign d
  pub history : IsHistory d y
  pub sound : IsSound d h
  pub agreed : IsAgreed d y limit (core_of d h)
  pub final : IsFinal d limit (core_of d h)

-- the edit changes the depth, and cycles are given anew from clock t on: the first touched clock, or the limit where there is none
pub record IsEditFrom (lanes : List Lane) (channels : List Channel) (e : Edit) (limit t : ℕ) : Type 0 where
  pub inside : e.channel < length channels
  pub is_fifo : IsFifo (channel_at channels e.channel).kind
  pub stood : 1 ≤ depth_of (channel_at channels e.channel).kind
  pub least : 1 ≤ e.depth
  pub changes : depth_of (channel_at channels e.channel).kind ≢ e.depth
  pub from : IsFirstTouched lanes (channel_at channels e.channel) e.depth t
      ⊎ (IsNeverTouched lanes (channel_at channels e.channel) e.depth × (t ≡ limit))

-- the query is the access at this place of its module's step k: its number counts the module's queries before it, and its ordinal
-- is one more than the elements that the module popped, or pushed, on the channel before the step
pub record IsQueryAt {S : Type 0} (d : Design S) (h : Held) (k place : ℕ) (q : Query) : Type 0 where
  pub access : Access
  pub is : slice_get (step_of h q.module k).accesses place ≡ Some access
  pub asks : is_blocking access.kind ≡ false
  pub kind : q.kind ≡ access.kind
  pub channel : q.channel ≡ access.channel
  pub number : q.number ≡ queries_before h q.module k + queries_in (take place (step_of h q.module k).accesses)
  pub ordinal : q.ordinal ≡ suc (core_tally d (core_of d h) q.module (side_of q.kind) q.channel k)

-- the history does the query's step in some clock, and there the query has another outcome than the one that is recorded under its
-- number
pub record IsOtherInHistory {S : Type 0} (d : Design S) (y : Trace S) (h : Held) (q : Query) : Type 0 where
  pub clock : ℕ
  pub step : IsStepAt d y q.module (first_of h q.module) clock
  pub place : ℕ
  pub query : IsQueryAt d h (first_of h q.module) place q
  pub outcome : Bool
  pub recorded : outcome_of h.logs q.module q.number ≡ Some outcome
  pub differs : possible_by q.kind (Some outcome) ≢ is_possible d y clock (side_of q.kind) q.channel

-- each recorded outcome of module m is verified
abbrev pub AreVerified : {S : Type 0} → Core S → ℕ → Type 0
AreVerified {S} x m = (k : ℕ) → k < x.emitted m → x.answered m k ≡ true → x.verified m k ≡ true

-- module m's record of outcomes grows: what was recorded stays, and either nothing is added, or all that is recorded is verified
pub record RecordGrows {S : Type 0} (x y : Core S) (m : ℕ) : Type 0 where
  pub emitted : y.emitted m ≡ x.emitted m
  pub answered : (k : ℕ) → x.answered m k ≡ true → y.answered m k ≡ true
  pub flags : (k : ℕ) → x.answered m k ≡ true → y.flags m k ≡ x.flags m k
  pub verified : (k : ℕ) → x.verified m k ≡ true → y.verified m k ≡ true
  pub ends : ((k : ℕ) → y.answered m k ≡ x.answered m k) ⊎ AreVerified y m

-- a module's outcomes grow: those that it had stay, and either no other is added, or all are verified
pub record OutcomesGrow (old now : Log) : Type 0 where
  pub grew : IsPrefix old.outcomes now.outcomes
  pub ends : (now.outcomes ≡ old.outcomes) ⊎ (now.verified ≡ length now.outcomes)

-- ---- a retiming of a final core

-- the old engine is a final core of the design and agrees with its history `y`; a retiming from the edit's clock on leads to the
-- new engine; `z` is the history of the edited design
pub record IsEditOf (d : Design ModuleState) (y z : Trace ModuleState) (limit : ℕ) (old new : Engine) (guard : Guard)
    (e : Edit) (t : ℕ) : Type 0 where
  pub final : IsFinalOf d y limit (held_in old)
  pub lags : (c : ℕ) → d.lag Push c ≡ 1
  pub from : IsEditFrom old.graph.lanes old.fifos.channels e limit t
  pub history : IsHistory (edited d e.channel e.depth) z
  pub retimed : HasRetimed guard e t limit old new
  pub steps : only_steps new.graph.lanes ≡ only_steps old.graph.lanes
