-- What a path of steps says of the end of the plan with these depths.
use Rattle.std.proofs.Common.{◌≡◌, ℕ, zero, suc, ◌+◌, ◌-◌, ◌<◌, ◌≤◌, List, length, Option, None, Some, refl, sym, ◌∙◌, arith, inl, inr}
use Rattle.std.proofs.lemmas.Bool.{cases_lt, lt-ltb, le-ltb}
use Rattle.path_check.specs.{Place, Plan, Advance, verdict, lane_at, own, core_reply, design, lockstep_run, start_in, with_depths, Engine}
use Rattle.path_check.specs.{held_in, core_of, emitted_of, IsFinished, IsEndMark, end_at, gap_of_end, IsTried, cycle_at, IsTimedAt}
use Rattle.path_check.specs.{ComesAfter, ComesLater, IsAlong, nth_place, moves_after, Paths.Same}
use Rattle.flow_design.specs.declared.report.Verdict.TheVariants.{Done}
use Rattle.flow_design.specs.declared.state.Advance.TheVariants.{Step, Ended, Spent}
use Rattle.timing_bridge.proofs.History.{plan_is_design, run_is_history, moves_same}
use Rattle.timelines.proofs.Waits.{cycle_moves}
use Rattle.engine_view.specs.Held.{Held}
use Rattle.engine_view.proofs.Knowing.{timed_within}
use Rattle.path_check.proofs.{Late.ends_later, Late.never_ends, Steps.moves_on, Steps.moves_last}

-- ---- after the last step

mark_is : (p : Plan) (h : Held) (i k : ℕ) (o : Option Advance) → emitted_of h i ≡ suc k
    → ((mark : Advance) → o ≡ Some mark → IsEndMark p (core_of (design p) h) i mark)
    → gap_of_end o ≤ suc ((design p).quiet i (own (design p) i (core_reply (design p) (core_of (design p) h) i) (suc k)))
mark_is p h i k None e each = omega arith
mark_is p h i k (Some (Step step)) e each = omega arith
mark_is p h i k (Some (Ended gap)) e each = let gap = rw e at (each (Ended gap) refl).1 in omega arith
mark_is p h i k (Some (Spent gap)) e each = let gap = rw e at (each (Spent gap) refl).1 in omega arith

-- the clocks after a step are among those quiet clocks
after_quiet : (p : Plan) (h : Held) (ends : List (Option Advance)) → IsFinished p h ends → (last : Place) → IsTimedAt h.lanes last
    → moves_after h.lanes ends last
    ≤ (design p).quiet last.module (own (design p) last.module (core_reply (design p) (core_of (design p) h) last.module) (suc last.step))
after_quiet p h ends f last timed =
    elim (cases_lt (last.step + 1) (length (lane_at h.lanes last.module).steps)) [
      | inl l ↦ rw (lt-ltb (last.step + 1) (length (lane_at h.lanes last.module).steps) l) (omega arith)
      | inr l ↦
          let within = timed_within (design p) h f.sound last.module in
          let its = timed.timed in
          let made = timed.step in
          let all : emitted_of h last.module ≡ suc last.step = omega arith in
          let gap = mark_is p h last.module last.step (end_at ends last.module) all (f.marks.each last.module) in
          rw (le-ltb (last.step + 1) (length (lane_at h.lanes last.module).steps) l) (omega arith)
    ]

-- ---- the end

module _ (p : Plan) (e : Engine) (depths : List ℕ) (t : IsTried p e depths) (from last : Place)
    (clocks : ℕ) (timed : IsTimedAt e.graph.lanes last) (c : ComesAfter p (held_in e) depths from last clocks) where
  -- the module of the last step moves so many clocks after it, and is not ended before
  late_by : (j : ℕ)
      → j ≤ (design p).quiet last.module (own (design p) last.module (core_reply (design p) (core_of (design p) (held_in e)) last.module)
      (suc last.step))
      → (end : ℕ) → verdict (with_depths p depths) ≡ Done end → suc (cycle_at e.graph.lanes from + (c.path + j)) ≤ end
  late_by zero q end done =
      let f = t.finished in
      let d = design p in
      let w = lockstep_run p in
      let x = core_of d (held_in e) in
      let cycle = cycle_at e.graph.lanes last in
      let move = cycle_moves d w p.cycles x f.agreed last.module last.step timed.timed in
      let late = ends_later p f.fits t.quiet depths t.fit t.lower from.module (cycle_at e.graph.lanes from) last.module cycle
      c.path c.after (sym (moves_same p f.fits cycle last.module) ∙ move) end done in
      omega arith
  late_by (suc j) q end done =
      let f = t.finished in
      let d = design p in
      let w = lockstep_run p in
      let x = core_of d (held_in e) in
      let i = plan_is_design p f.fits in
      let y = run_is_history p f.fits in
      let start = start_in (with_depths p depths) in
      let cycle = cycle_at e.graph.lanes last in
      let after = moves_on d start w i y p.cycles x f.agreed from.module (cycle_at e.graph.lanes from) last.module last.step j c.path
      timed.timed
      (omega arith) c.after in
      let move = moves_last d start w i y p.cycles x f.agreed from.module (cycle_at e.graph.lanes from) last.module last.step j timed.timed
      (omega arith) in
      let late = ends_later p f.fits t.quiet depths t.fit t.lower from.module (cycle_at e.graph.lanes from) last.module
      (j + suc cycle) (j + suc c.path) after (sym (moves_same p f.fits (j + suc cycle) last.module) ∙ move) end done in
      omega arith

  pub late_end : (clock : ℕ) → clock ≤ cycle_at e.graph.lanes from + clocks + moves_after e.graph.lanes e.ends.items last → (end : ℕ)
      → verdict (with_depths p depths) ≡ Done end → clock < end
  late_end clock l end done =
      let late = late_by (moves_after e.graph.lanes e.ends.items last) (after_quiet p (held_in e) e.ends.items t.finished last timed)
      end done in
      let long = c.long in
      omega arith

  pub no_end : 0 < clocks → from ≡ last → (end : ℕ) → verdict (with_depths p depths) ≡ Done end → ⊥
  no_end some round end done =
      let f = t.finished in
      let d = design p in
      let w = lockstep_run p in
      let x = core_of d (held_in e) in
      let cycle = cycle_at e.graph.lanes last in
      let long = c.long in
      let more : suc (c.path - 1) ≡ c.path = omega arith in
      let move = cycle_moves d w p.cycles x f.agreed last.module last.step timed.timed in
      let after = rw (round, ← more) at c.after in
      never_ends p f.fits t.quiet depths t.fit last.module cycle (c.path - 1) after
      (sym (moves_same p f.fits cycle last.module) ∙ move) end done

-- ---- along a path

pub comes_first : (p : Plan) (h : Held) (depths : List ℕ) (place : Place) → ComesAfter p h depths place place 0
comes_first p h depths place = record { path = 0; long = omega arith; after = Same }

pub fewer_clocks : (p : Plan) (h : Held) (depths : List ℕ) (from to : Place) (less clocks : ℕ) → less ≤ clocks
    → ComesAfter p h depths from to clocks → ComesAfter p h depths from to less
fewer_clocks p h depths from to less clocks l c = let long = c.long in record { path = c.path; long = omega arith; after = c.after }

pub along_first : (e : Engine) (depths : List ℕ) (path : List Place) → 0 < length path → IsTimedAt e.graph.lanes (nth_place path 0)
    → IsAlong e depths path 1 0
along_first e depths path l timed = record {
  some = omega arith;
  within = omega arith;
  first = timed;
  last = timed;
  along = λ p t. comes_first p (held_in e) depths (nth_place path 0);
}

pub along_more : (e : Engine) (depths : List ℕ) (path : List Place) (n clocks more all : ℕ) → n < length path → all ≤ clocks + more
    → IsTimedAt e.graph.lanes (nth_place path n)
    → ((p : Plan) → IsTried p e depths
    → ComesLater p (held_in e) depths (nth_place path (n - 1)) (nth_place path n) more)
    → IsAlong e depths path n clocks → IsAlong e depths path (n + 1) all
along_more e depths path n clocks more all l few timed adds a =
    let at : (n + 1) - 1 ≡ n = omega arith in
    record {
      some = omega arith;
      within = omega arith;
      first = a.first;
      last = rw at timed;
      along = λ p t. rw at
          (fewer_clocks p (held_in e) depths (nth_place path 0) (nth_place path n) all (clocks + more)
          few (adds p t (nth_place path 0) clocks (a.along p t)));
    }

-- ---- what is answered

pub path_ends_late : (e : Engine) (depths : List ℕ) (path : List Place) (clocks : ℕ) → IsAlong e depths path (length path) clocks
    → (clock : ℕ)
    → clock ≤ cycle_at e.graph.lanes (nth_place path 0) + clocks + moves_after e.graph.lanes e.ends.items (nth_place path (length path -
    1))
    → (p : Plan) → IsTried p e depths → (end : ℕ) → verdict (with_depths p depths) ≡ Done end
    → clock < end
path_ends_late e depths path clocks a clock l p t end done =
    late_end p e depths t (nth_place path 0) (nth_place path (length path - 1)) clocks a.last
    (a.along p t) clock l end done

pub path_never_ends : (e : Engine) (depths : List ℕ) (path : List Place) (clocks : ℕ) → IsAlong e depths path (length path) clocks
    → 0 < clocks → nth_place path 0 ≡ nth_place path (length path - 1) → (p : Plan)
    → IsTried p e depths → (end : ℕ) → verdict (with_depths p depths) ≡ Done end → ⊥
path_never_ends e depths path clocks a some round p t end done =
    no_end p e depths t (nth_place path 0) (nth_place path (length path - 1)) clocks a.last
    (a.along p t)
    some round end done
