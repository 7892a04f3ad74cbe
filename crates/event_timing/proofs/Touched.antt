-- What a final core's cycles say of a channel is true up to the limit.
use Rattle.std.proofs.lemmas.Bool.Decides.{nat_tests}
use Rattle.std.proofs.Common.{◌≡◌, ℕ, zero, suc, ◌+◌, ◌<◌, ◌≤◌, min, sym, ap, ◌∙◌, arith}
use Rattle.event_timing.specs.{Side, Design, IsDesign, Trace, IsHistory, done, view, core_tally, IsAgreed, IsTimed, IsFinal, kept}
use Rattle.event_timing.specs.{by_cycles, held_by_cycles, IsUntouched, IsUntouchedByCycles, Core.Core}
use Rattle.flow_word.specs.declared.access.Side.TheVariants.{Pop, Push}
use Rattle.event_timing.proofs.{Steps.done_less, Steps.done_past, Threshold.taken_view, Fronts.agrees, Fronts.core_tally_is}
use Rattle.event_timing.proofs.{Agreement.final_complete, Values.taken_once, OwnRuns.taken_mono}
use Rattle.event_timing.proofs.Editing.{kept_le, kept_below, cycles_rise}

pub kept_ge : (cycle : ℕ → ℕ) (t n b : ℕ) → n ≤ b → ((k : ℕ) → k < n → cycle k < t) → n ≤ kept cycle t b
unfolding kept
kept_ge cycle t n zero l f = omega arith
kept_ge cycle t n (suc b) l f = grind (arith, nat_tests, f b, λ (q : n ≤ b). kept_ge cycle t n b q f)

pub kept_done : {S : Type 0} → (d : Design S) (h : Trace S) (limit : ℕ) (x : Core S) → IsTimed d h limit x → (m c : ℕ)
    → done d h m c ≤ x.timed m → kept (x.cycle m) c (x.timed m) ≡ done d h m c
kept_done {S} d h limit x u m c l =
    let k : ℕ = done d h m c in
    let less = λ (j : ℕ) (q : j < k). done_less d h m (x.cycle m j) c (omega (arith, u.done_then m j (omega arith))) in
    let up = kept_ge (x.cycle m) c k (x.timed m) l less in
    let w = kept_below (x.cycle m) c (x.timed m) (cycles_rise d h limit x u m) k in
    grind (arith, kept_le (x.cycle m) c (x.timed m), u.steps_then m k, u.done_then m k, done_past d h m (x.cycle m k) c)

pub counts_right : {S : Type 0} → (d : Design S) (h : Trace S) → IsDesign d → IsHistory d h → (limit : ℕ) (x : Core S)
    → IsAgreed d h limit x
    → (side : Side) (ch c : ℕ) → done d h (d.owner side ch) c ≤ x.timed (d.owner side ch) → h.taken c side ch ≡ by_cycles d x side ch c
counts_right {S} d h i y limit x g side ch c l =
    let w : ℕ = d.owner side ch in
    taken_view d h i y (view d x) (agrees d h limit x g.marks g.time) side ch c l
    ∙ (core_tally_is d x w side ch (done d h w c) ∙ ap (core_tally d x w side ch) (sym (kept_done d h limit x g.time w c l)))

final_counts : {S : Type 0} → (d : Design S) (h : Trace S) → IsDesign d → IsHistory d h → (limit : ℕ) (x : Core S)
    → IsAgreed d h limit x → IsFinal d limit x → (side : Side) (ch c : ℕ) → c ≤ limit → h.taken c side ch ≡ by_cycles d x side ch c
final_counts {S} d h i y limit x g f side ch c l =
    counts_right d h i y limit x g side ch c (final_complete d h i y limit x g f (d.owner side ch) c l)

-- so the first touched clock may be read off the cycles
pub untouched : {S : Type 0} → (d : Design S) (h : Trace S) → IsDesign d → IsHistory d h → (limit : ℕ) (x : Core S)
    → IsAgreed d h limit x → IsFinal d limit x
    → (fifo depth t : ℕ) → t ≤ limit → IsUntouchedByCycles d x fifo depth t → IsUntouched d h fifo depth t
untouched {S} d h i y limit x g f fifo depth t l u =
    let count = λ (side : Side) (c : ℕ) (q : c < t). final_counts d h i y limit x g f side fifo c (omega arith) in
    record {
      old_room = λ c q. let a = count Push c q in let b = count Pop c q in omega (arith, u.old_room c q);
      new_room = λ c q. let a = count Push c q in let b = count Pop c q in omega (arith, u.new_room c q);
    }

-- the number of elements goes up by one at most, so it is below the first number that it is never seen at
never_reached : {S : Type 0} → (d : Design S) (h : Trace S) → IsDesign d → IsHistory d h → (limit : ℕ) (x : Core S)
    → IsAgreed d h limit x → IsFinal d limit x
    → (fifo most t : ℕ) → t ≤ limit → 0 < most → ((c : ℕ) → c < t → held_by_cycles d x fifo c ≡ most → ⊥)
    → (c : ℕ) → c < t → h.taken c Push fifo < most + h.taken c Pop fifo
never_reached {S} d h i y limit x g f fifo most t l some never zero q = omega (arith, y.taken_0 Push fifo, y.taken_0 Pop fifo)
never_reached {S} d h i y limit x g f fifo most t l some never (suc c) q =
    let before = never_reached d h i y limit x g f fifo most t l some never c (omega arith) in
    let count = λ (side : Side). final_counts d h i y limit x g f side fifo (suc c) (omega arith) in
    grind (arith, count Push, count Pop, taken_once d h i y c Push fifo, taken_mono d h y Pop fifo c (suc c), never (suc c) q)

-- a clock up to which the FIFO never holds the lesser of both depths is untouched
pub before_first : {S : Type 0} → (d : Design S) (h : Trace S) → IsDesign d → IsHistory d h → (limit : ℕ) (x : Core S)
    → IsAgreed d h limit x → IsFinal d limit x → (fifo depth t : ℕ) → t ≤ limit → 0 < d.start Push fifo → 0 < depth
    → ((c : ℕ) → c < t → held_by_cycles d x fifo c ≡ min (d.start Push fifo) depth → ⊥) → IsUntouchedByCycles d x fifo depth t
before_first {S} d h i y limit x g f fifo depth t l old new never =
    let count = λ (side : Side) (c : ℕ) (q : c < t). final_counts d h i y limit x g f side fifo c (omega arith) in
    let below = never_reached d h i y limit x g f fifo (min (d.start Push fifo) depth) t l (omega arith) never in
    record {
      old_room = λ c q. let a = count Push c q in let b = count Pop c q in omega (arith, below c q);
      new_room = λ c q. let a = count Push c q in let b = count Pop c q in omega (arith, below c q);
    }

-- at the limit no cycle is forgotten
pub all_kept : {S : Type 0} → (d : Design S) (h : Trace S) (limit : ℕ) (x : Core S) → IsAgreed d h limit x → (m : ℕ)
    → kept (x.cycle m) limit (x.timed m) ≡ x.timed m
all_kept {S} d h limit x g m =
    omega (
      arith,
      kept_le (x.cycle m) limit (x.timed m),
      kept_ge (x.cycle m) limit (x.timed m) (x.timed m) (omega arith)
          (λ k l. g.time.below m k l),
    )
