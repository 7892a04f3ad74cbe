-- A change of one FIFO's depth.
use Rattle.std.specs.Prelude.{cond, eqb, ltb, not, suc, zero, ℕ, ◌&&◌, ◌+◌, ◌-◌, ◌<◌, ◌||◌}
use Rattle.flow_word.specs.{Side, same_side, declared.access.Side.TheVariants.Pop, declared.access.Side.TheVariants.Push}
use Rattle.event_timing.specs.{Machines.Design, Histories.Trace, Core.Core, Core.core_accesses, Core.core_tally, Core.has_query}

-- the design with another depth of one FIFO
abbrev pub edited : {S : Type 0} → Design S → ℕ → ℕ → Design S
edited {S} d fifo depth = record d { start = λ side ch. cond (same_side side Push && eqb ch fifo) depth (d.start side ch) }

-- in no clock before t of the history does the FIFO hold as many elements as the lesser of its depth and the new one
pub record IsUntouched {S : Type 0} (d : Design S) (h : Trace S) (fifo depth t : ℕ) : Type 0 where
  pub old_room : (c : ℕ) → c < t → h.taken c Push fifo < d.start Push fifo + h.taken c Pop fifo
  pub new_room : (c : ℕ) → c < t → h.taken c Push fifo < depth + h.taken c Pop fifo

-- how many of the first n cycles are kept, where those from t on are forgotten
unfoldable pub kept : (ℕ → ℕ) → ℕ → ℕ → ℕ
kept cycle t zero = 0
kept cycle t (suc n) = cond (ltb (cycle n) t) (suc n) (kept cycle t n)

-- the k-th cycle where it is kept, else 0
abbrev pub kept_cycle : (ℕ → ℕ) → ℕ → ℕ → ℕ → ℕ
kept_cycle cycle t n k = cond (ltb k (kept cycle t n)) (cycle k) 0

-- the core from which a retiming begins: cycles from t on are forgotten, and the outcomes of their steps and all later ones are
-- assumed
abbrev pub after_edit : {S : Type 0} → Design S → Core S → ℕ → Core S
after_edit {S} d x t =
    record x {
      timed = λ m. kept (x.cycle m) t (x.timed m);
      cycle = λ m k. kept_cycle (x.cycle m) t (x.timed m) k;
      verified = λ m k. x.verified m k && (ltb k (kept (x.cycle m) t (x.timed m)) || not (has_query (core_accesses d x m k)));
    }

-- how many pops (or pushes) of a channel the core's cycles have before clock c
abbrev pub by_cycles : {S : Type 0} → Design S → Core S → Side → ℕ → ℕ → ℕ
by_cycles {S} d x side ch c = core_tally d x (d.owner side ch) side ch (kept (x.cycle (d.owner side ch)) c (x.timed (d.owner side ch)))

-- how many elements the FIFO holds in clock c, by the core's cycles
abbrev pub held_by_cycles : {S : Type 0} → Design S → Core S → ℕ → ℕ → ℕ
held_by_cycles {S} d x fifo c = by_cycles d x Push fifo c - by_cycles d x Pop fifo c

-- by the core's cycles, the FIFO holds fewer elements than its depth and than the new one, in each clock before t
pub record IsUntouchedByCycles {S : Type 0} (d : Design S) (x : Core S) (fifo depth t : ℕ) : Type 0 where
  pub old_room : (c : ℕ) → c < t → by_cycles d x Push fifo c < d.start Push fifo + by_cycles d x Pop fifo c
  pub new_room : (c : ℕ) → c < t → by_cycles d x Push fifo c < depth + by_cycles d x Pop fifo c
