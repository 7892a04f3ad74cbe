-- The report of a final core, read off its cycles.
use Rattle.std.proofs.Common.{◌≡◌, ℕ, zero, suc, ◌+◌, ◌<◌, ◌≤◌, true, List, [], ◌∷◌, ◌++◌, sym, refl, ◌∙◌, arith}
use Rattle.std.proofs.lemmas.Bool.{lt-ltb}
use Rattle.flow_word.specs.declared.access.Side.TheVariants.{Push}
use Rattle.event_timing.specs.{Design, IsDesign, Access, Each, Trace, IsHistory, is_possible, steps, done, known_of, Known, answer, from}
use Rattle.event_timing.specs.{pushed_in, own, view, core_accesses, core_reply, bare_replies, IsAgreed, IsUndetermined, stop, IsFinal}
use Rattle.event_timing.specs.Core.{Core}
use Rattle.event_timing.proofs.{Steps.done_past, Steps.done_mono, Steps.same_clock, Earliest.answer_late, Verdict.never_more}
use Rattle.event_timing.proofs.{Verdict.done_last, Fronts.agrees, Fronts.core_pushed_is, Values.pushed_view, Agreement.final_complete}
use Rattle.event_timing.proofs.Candidate.{begin, done_begin, EachMeans, first_means, first_ready}

-- in a clock up to which the core has every step, and after all its cycles
pub done_all : {S : Type 0} → (d : Design S) (h : Trace S) (limit : ℕ) (x : Core S) → IsAgreed d h limit x → (m c : ℕ)
    → begin (view d x) m ≤ c → done d h m c ≤ x.timed m → done d h m c ≡ x.timed m
done_all {S} d h limit x g m c l n =
    omega (
      arith,
      n,
      done_mono d h m (begin (view d x) m) c l,
      done_begin d h (view d x) (agrees d h limit x g.marks g.time) m
          (x.timed m) refl,
    )

-- at the limit in particular
limit_begin : {S : Type 0} → (d : Design S) (h : Trace S) (limit : ℕ) (x : Core S) → IsAgreed d h limit x → (m n : ℕ) → n ≡ x.timed m
    → from (x.cycle m) n ≤ limit
limit_begin {S} d h limit x g m zero e = omega arith
limit_begin {S} d h limit x g m (suc n) e = g.time.below m n (omega arith)

pub done_limit : {S : Type 0} → (d : Design S) (h : Trace S) → IsDesign d → IsHistory d h → (limit : ℕ) (x : Core S)
    → IsAgreed d h limit x → IsFinal d limit x → (m : ℕ) → done d h m limit ≡ x.timed m
done_limit {S} d h i y limit x g f m =
    done_all d h limit x g m limit (limit_begin d h limit x g m (x.timed m) refl) (final_complete d h i y limit x g f m limit (omega arith))

-- what a sink holds there
pub outputs_right : {S : Type 0} → (d : Design S) (h : Trace S) → IsDesign d → IsHistory d h → (limit : ℕ) (x : Core S)
    → IsAgreed d h limit x → (ch c : ℕ) → done d h (d.owner Push ch) c ≡ x.timed (d.owner Push ch) → h.pushed c ch ≡ d.inputs ch
    ++ pushed_in ch (core_accesses d x (d.owner Push ch)) (λ j. bare_replies (x.flags (d.owner Push ch) j)) (x.timed (d.owner Push ch))
outputs_right {S} d h i y limit x g ch c k =
    let q = pushed_view d h i y (view d x) (agrees d h limit x g.marks g.time) ch c (omega arith) in
    rw (k, core_pushed_is d x (d.owner Push ch) ch (x.timed (d.owner Push ch))) at q

-- the events in clocks before: each is a step with that cycle
pub event_found : {S : Type 0} → (d : Design S) (h : Trace S) (limit : ℕ) (x : Core S) → IsAgreed d h limit x → (m c last : ℕ) → c < last
    → done d h m last ≤ x.timed m → steps d h c m ≡ true → (k : ℕ) × (k < x.timed m) × (x.cycle m k ≡ c)
event_found {S} d h limit x g m c last l n s =
    let k : done d h m c < x.timed m = omega (arith, done_past d h m c last s l) in (
      done d h m c,
      k,
      same_clock d h m (x.cycle m (done d h m c)) c (g.time.steps_then m (done d h m c) k) s
          (g.time.done_then m (done d h m c) k),
    )

-- and each step with a cycle is an event in a clock before its module's stop
pub event_before : {S : Type 0} → (d : Design S) (h : Trace S) (limit : ℕ) (x : Core S) → IsAgreed d h limit x → (m k : ℕ) → k < x.timed m
    → x.cycle m k < stop d x m
event_before {S} d h limit x g m k l = later (x.timed m) refl
  where
    later : (n : ℕ) → n ≡ x.timed m → x.cycle m k < from (x.cycle m) n + d.quiet m (own d m (core_reply d x m) (x.timed m))
    later zero e = absurd (omega arith)
    later (suc n) e =
        let t = g.time.steps_then m n (omega arith) in
        grind (arith, done_past d h m (x.cycle m n) (x.cycle m k) t, g.time.done_then m n, g.time.done_then m k l)

each_late : {S : Type 0} → (d : Design S) (h : Trace S) (x : Core S) (m c : ℕ) → ((n : ℕ) → done d h n c ≤ x.timed n)
    → (know : Access → Known) (xs : List Access) → EachMeans d h (view d x) c know xs
    → Each (λ a. is_possible d h c a.side a.channel ≡ answer (know a) c) xs
each_late {S} d h x m c n know [] g = tt
each_late {S} d h x m c n know (a ∷ xs) (g, gs) =
    (answer_late d h (view d x) c a.side a.channel (know a) n g, each_late d h x m c n know xs gs)

-- where no step is determined, a module that is not over stands at its first step without a cycle from its stop on,
-- and of each access there, what is known says whether it is possible
pub held_right : {S : Type 0} → (d : Design S) (h : Trace S) → IsDesign d → IsHistory d h → (limit : ℕ) (x : Core S)
    → IsAgreed d h limit x → IsFinal d limit x → IsUndetermined d x → (m c : ℕ) → x.timed m < x.emitted m → stop d x m ≤ c
    → (h.state c m ≡ x.state m (x.timed m))
    × Each (λ a. is_possible d h c a.side a.channel ≡ answer (known_of d (view d x) m a) c) (core_accesses d x m (x.timed m))
held_right {S} d h i y limit x g f u m c l s =
    let a = agrees d h limit x g.marks g.time in
    let k = done_last d h i y limit x g f u m c (omega arith) in
    let o = lt-ltb (x.timed m) (x.emitted m) l in
    let r : from (x.cycle m) (x.timed m) + x.wait m (x.timed m) ≤ c = rw (g.marks.own_wait m (x.timed m) l) s in (
      first_ready d h i y (view d x) a m c o r k ∙ sym (g.marks.own_step m (x.timed m) l),
      each_late d h x m c (λ n. never_more d h i y limit x g f u n c) (known_of d (view d x) m) (core_accesses d x m (x.timed m))
          (first_means d h i y (view d x) a m c o k),
    )
