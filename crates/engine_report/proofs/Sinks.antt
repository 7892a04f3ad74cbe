-- What the sinks hold is what the theory's core tells.
use Rattle.std.proofs.Common.{◌≡◌, refl, sym, ap, ◌∙◌, ℕ, zero, suc, ◌<◌, Bool, true, false, List, [], ◌∷◌, ◌++◌, map, length, take, get_or}
use Rattle.std.proofs.Common.{arith, length-append, inl, inr}
use Rattle.std.proofs.{lemmas.Bool.Decides.nat_tests, lemmas.Bool.cases_lt, lemmas.Bool.lt-ltb, lemmas.Bool.le-ltb}
use Rattle.std.proofs.{Math.Seq.take-append_seam, lemmas.List.length-map, lemmas.List.get_or-map, lemmas.List.take-map}
use Rattle.std.proofs.{lemmas.List.Sums.take_while-cons, lemmas.Option.slice_get-get_or, lemmas.Option.slice_get_past}
use Rattle.std.specs.{Prelude.is_some, Prelude.nat_lt, List.take_while}
use Rattle.flow_word.specs.declared.access.Side.TheVariants.{Push}
use Rattle.engine_report.specs.{ChannelKind, Plan, is_fifo, is_sink, kind_at, sinks, lane_at, cycle_of, Pushed, TableChannel, channel_at}
use Rattle.engine_report.specs.{values_of, pushed_in, core_accesses, core_tally, core_pushed, bare_replies, design, pusher, sink_values}
use Rattle.engine_report.specs.{emitted_of, core_of, IsSound, IsKind, AreTaken, IsTakenAt, timed_values, outputs_of}
use Rattle.fifo_table.specs.declared.channel.TableChannel.TheVariants.{Source}
use Rattle.event_timing.specs.{Reply}
use Rattle.event_timing.proofs.{OwnRuns.tally_mono, Values.length_pushed_in, Values.pushed_in_mono}
use Rattle.engine_view.specs.Held.{Held}
use Rattle.engine_view.proofs.Knowing.{timed_within}
use Rattle.engine_report.proofs.Same.{kept_same}

-- ---- fronts

front_is : {X : Type 0} (p : X → Bool) (xs : List X) (n : ℕ) → ((i : ℕ) (d : X) → i < length xs → p (get_or xs i d) ≡ nat_lt i n)
    → take_while p xs ≡ take n xs
front_is p [] zero tells = refl
front_is p [] (suc n) tells = refl
front_is p (x ∷ xs) zero tells = rw (take_while-cons p x xs, tells 0 x (omega arith)) refl
front_is {X} p (x ∷ xs) (suc n) tells =
    let less : (i : ℕ) → nat_lt (suc i) (suc n) ≡ nat_lt i n = λ i. grind (arith, nat_tests) in
    let first : nat_lt 0 (suc n) ≡ true = grind (arith, nat_tests) in
    rw (take_while-cons p x xs, tells 0 x (omega arith), first, front_is p xs n (λ i d l. tells (suc i) d (omega arith) ∙ less i)) refl

-- ---- the pushes of a channel

-- a push has a cycle where it is among the first so many
push_timed : (p : Plan) (h : Held) (f : ℕ) (pushes : List Pushed)
    → AreTaken (design p) (core_of (design p) h) Push f (map (λ (e : Pushed). e.at) pushes) → (i : ℕ) (d : Pushed) → i < length pushes
    → is_some (cycle_of h.lanes (get_or pushes i d).at)
    ≡ nat_lt i (core_tally (design p) (core_of (design p) h) (pusher p f) Push f (length (lane_at h.lanes (pusher p f)).cycles))
push_timed p h f pushes taken i d l =
    let x = core_of (design p) h in
    let m = pusher p f in
    let n = length (lane_at h.lanes m).cycles in
    let at = (get_or pushes i d).at in
    let t : IsTakenAt (design p) x Push f i at = rw (get_or-map (λ (e : Pushed). e.at) pushes i d d.at l) at
    (taken.each i d.at (omega (arith, length-map pushes (λ (e : Pushed). e.at)))) in
    let mono = tally_mono (core_accesses (design p) x m) (λ j. bare_replies (x.flags m j)) Push f in
    elim (cases_lt at.step n) [
      | inl less ↦ rw (t.owner, slice_get-get_or (lane_at h.lanes m).cycles at.step 0 less)
          (sym (lt-ltb _ _ (let after = mono (suc at.step) n less in let to = t.to in omega arith)))
      | inr more ↦ rw (t.owner, slice_get_past (lane_at h.lanes m).cycles at.step more)
          (sym (le-ltb _ _ (let before = mono n at.step more in let from = t.from in omega arith)))
    ]

-- ---- a sink

pub nothing : (xs : List ℕ) → length xs ≡ 0 → xs ≡ []
nothing [] e = refl
nothing (x ∷ xs) e = cc

sink_by : (p : Plan) (h : Held) → IsSound (design p) h → (f : ℕ) (pushes : List Pushed)
    → AreTaken (design p) (core_of (design p) h) Push f (map (λ (e : Pushed). e.at) pushes)
    → map (λ (e : Pushed). e.value) pushes ≡ (design p).inputs f ++ core_pushed (design p) (core_of (design p) h) (pusher p f) f
    (emitted_of h (pusher p f))
    → timed_values h.lanes pushes ≡ sink_values p (core_of (design p) h) f
sink_by p h s f pushes taken values =
    let d = design p in
    let x = core_of d h in
    let m = pusher p f in
    let a = core_accesses d x m in
    let r : ℕ → List Reply = λ j. bare_replies (x.flags m j) in
    let n = length (lane_at h.lanes m).cycles in
    let count = taken.count in
    let l1 = length_pushed_in f a r (emitted_of h m) in
    let l2 = length_pushed_in f a r n in
    let l3 = length-append (d.inputs f) (pushed_in f a r (emitted_of h m)) in
    let l4 = length-map pushes (λ (e : Pushed). e.at) in
    let l5 = length-map pushes (λ (e : Pushed). e.value) in
    let none : d.inputs f ≡ [] = nothing (d.inputs f) (omega (arith, ap length values)) in
    let (more, begins) = pushed_in_mono f a r n (emitted_of h m) (timed_within d h s m) in
    let t = core_tally d x m Push f n in
    let front = front_is (λ (e : Pushed). is_some (cycle_of h.lanes e.at)) pushes t (push_timed p h f pushes taken) in
    let all : map (λ (e : Pushed). e.value) pushes ≡ pushed_in f a r n ++ more = rw (none, begins) at values in
    rw (front, ← take-map (λ (e : Pushed). e.value) t pushes, all, none, ← l2) (take-append_seam (pushed_in f a r n) more)

sink_kind : (k : ChannelKind) → is_sink k ≡ true → is_fifo k ≡ false
sink_kind k e = grind arith

sink_pushes : (p : Plan) (f : ℕ) → is_sink (kind_at p f) ≡ true → (k : TableChannel) → IsKind (design p) f k → (pushes : List Pushed)
    → values_of k pushes ≡ map (λ (e : Pushed). e.value) pushes
sink_pushes p f e (Source inputs) (k1, k2) pushes = let sink = sink_kind (kind_at p f) e in grind arith
sink_pushes p f e kind k pushes = refl

sink_is : (p : Plan) (h : Held) → IsSound (design p) h → (f : ℕ) → f < length h.channels → is_sink (kind_at p f) ≡ true
    → timed_values h.lanes (channel_at h.channels f).pushes ≡ sink_values p (core_of (design p) h) f
sink_is p h s f inside e =
    let channel = channel_at h.channels f in
    sink_by p h s f channel.pushes (s.taken Push f inside)
    (sym (sink_pushes p f e channel.kind (s.kinds f inside) channel.pushes) ∙ s.values f inside)

pub outputs_are : (p : Plan) (h : Held) → IsSound (design p) h → length h.channels ≡ length p.design.channels
    → outputs_of p h.lanes h.channels ≡ map (sink_values p (core_of (design p) h)) (sinks p)
outputs_are p h s count =
    kept_same (λ f. timed_values h.lanes (channel_at h.channels f).pushes) (sink_values p (core_of (design p) h))
    (λ f. is_sink (kind_at p f)) 0 (length p.design.channels)
    (λ f l e. sink_is p h s f (omega arith) e)
