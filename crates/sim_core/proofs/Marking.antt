-- The mark of a run's next rest is the next step of the theory's core, or its end.
use Rattle.std.proofs.Common.{◌≡◌, refl, sym, ap, ap₂, subst, ◌∙◌, ℕ, zero, suc, ◌+◌, ◌<◌, ◌≤◌, ◌^◌, Bool, true, false, not, cond, ◌||◌}
use Rattle.std.proofs.Common.{List, [], ◌∷◌, ◌++◌, length, map, get_or, filter, arith, length-append, append-nil, drop}
use Rattle.std.proofs.lemmas.List.{map-append, get_or-map, length-map}
use Rattle.std.proofs.lemmas.List.FromFn.{get_or-map-range_with_len, length-map-range_with_len}
use Rattle.std.proofs.lemmas.List.Elements.{All-map, All-weaker, filter-append, All-from_recursion}
use Rattle.std.specs.{Prelude.All, List.range_with_len}
use Rattle.sim_core.specs.{Access, Step as StepOf, side_of, is_blocking, Side, ChannelKind, Plan, ModuleState, Reply, Request, FitsEngine}
use Rattle.sim_core.specs.{kind_at, Exchange, moved, moved_by, has_port, StandsAtPort, requests_of, is_over, is_spent, Own, access_of}
use Rattle.sim_core.specs.{paired, quiet, queries, done_in, mark_at, TableChannel, Channel, HasSide, channel_at, unused, kinds_in, IsSound}
use Rattle.sim_core.specs.{queries_before, IsNextStep, step_of, emitted_of, seen, queries_in, waited, core_of, IsAccess, ready, own, newest}
use Rattle.sim_core.specs.{AreOwnMarks, core_reply, core_tally, design, told_all, core_step, clocks_of_steps, exchanges_before, IsRestAfter}
use Rattle.sim_core.specs.{kind_by, kind_in, kinds_of}
use Rattle.flow_word.specs.declared.access.Side.TheVariants.{Pop, Push}
use Rattle.flow_design.specs.declared.state.Advance.TheVariants.{Step, Ended, Spent}
use Rattle.lockstep_defs.proofs.Queue.{moved-append, moved_by-append}
use Rattle.fifo_table.specs.declared.channel.TableChannel.TheVariants.{Sink}
use Rattle.engine_view.specs.Held.{Held}
use Rattle.event_timing.specs.Core.{Core}
use Rattle.event_timing.proofs.Running.{newest_own}
use Rattle.timing_bridge.proofs.{Ordinals.ordinals, Requests.stand}
use Rattle.flow_word.proofs.Ranges.{range_more}
use Rattle.event_timing.specs.Machines as theory
use Rattle.timing_bridge.specs.Designs as bridge

-- ---- accesses

all_seen : (before : List Exchange) (rs : List Request) → map seen (map (access_of before) rs) ≡ map bridge.seen_request rs
all_seen before [] = refl
all_seen before (r ∷ rs) = ap₂ (λ (a : theory.Access) (xs : List theory.Access). a ∷ xs) refl (all_seen before rs)

-- ---- what was done before

moved_by_nil : (side : Side) (f : ℕ) → moved_by side f [] ≡ []
unfolding moved_by
moved_by_nil side f = refl

-- what is moved in the steps is what is moved in their exchanges
pub moved_before : (p : Plan) (x : Core ModuleState) (i : ℕ) (side : Side) (f n : ℕ)
    → moved_by side f (exchanges_before p x i n) ≡ moved side f (map (core_step p x i) (range_with_len 0 n))
unfolding exchanges_before moved
moved_before p x i side f zero = moved_by_nil side f
moved_before p x i side f (suc n) =
    let z : 0 + n ≡ n = omega arith in
    let steps : map (core_step p x i) (range_with_len 0 (suc n)) ≡ map (core_step p x i) (range_with_len 0 n) ++ core_step p x i n ∷ [] =
    ap (map (core_step p x i)) (range_more 0 n ∙ ap (λ (j : ℕ). range_with_len 0 n ++ j ∷ []) z)
    ∙ map-append (core_step p x i) (range_with_len 0 n) (n ∷ []) in
    moved_by-append side f (exchanges_before p x i n) (core_step p x i n).exchanges
    ∙ (ap₂ (λ (a b : List ℕ). a ++ b) (moved_before p x i side f n) (sym (append-nil (moved_by side f (core_step p x i n).exchanges)))
    ∙ (sym (moved-append side f (map (core_step p x i) (range_with_len 0 n)) (core_step p x i n ∷ [])) ∙ ap (moved side f) (sym steps)))

-- the number of queries, by the accesses alone
abbrev open_in : List theory.Access → ℕ
open_in xs = length (filter (λ (a : theory.Access). not a.blocks) xs)

open_seen : (xs : List Access) → queries_in xs ≡ open_in (map seen xs)
open_seen [] = refl
open_seen (a ∷ xs) = let later = open_seen xs in grind arith

open_asked : (rs : List Request) (qs : List Reply) → length (queries (paired rs qs)) ≡ open_in (map bridge.seen_request rs)
open_asked [] qs = refl
open_asked (r ∷ rs) qs = let later = open_asked rs (drop 1 qs) in grind arith

pub queries_done : (p : Plan) (h : Held) → IsSound (design p) h → (i n : ℕ) → n ≤ emitted_of h i
    → length (queries (exchanges_before p (core_of (design p) h) i n)) ≡ queries_before h i n
unfolding exchanges_before queries_before
queries_done p h s i zero l = refl
queries_done p h s i (suc n) l =
    let x = core_of (design p) h in
    let rs = requests_of p (i, x.state i n) in
    let before = exchanges_before p x i n in
    let now = paired rs (told_all rs (core_reply (design p) x i n)) in
    let same : open_in (map bridge.seen_request rs) ≡ queries_in (step_of h i n).accesses = ap open_in (s.accesses i n (omega arith))
    ∙ sym (open_seen (step_of h i n).accesses) in
    ap length (filter-append (λ (e : Exchange). not (is_blocking e.request.kind)) before now)
    ∙ (length-append (queries before) (queries now) ∙ ap₂ (λ (a b : ℕ). a + b) (queries_done p h s i n (omega arith))
    (open_asked rs (told_all rs (core_reply (design p) x i n)) ∙ same))

-- ---- the step

pub step_of_mark : (a b : Bool) (n : ℕ) (s t : StepOf) → cond a (Ended n) (cond b (Spent n) (Step s)) ≡ Step t → ((a || b) ≡ false) × (s ≡
    t)
step_of_mark a b n s t e = (grind arith, grind arith)

gap_waited : (k q : ℕ) → waited k (clocks_of_steps k + q) ≡ q
gap_waited zero q = omega arith
gap_waited (suc k) q = omega arith

has_side : (side : Side) (k : ChannelKind) (inputs : List ℕ) (depth : ℕ) → has_port k side ≡ true → HasSide (kind_by k inputs depth) side
has_side Pop k inputs depth e = grind arith
has_side Push k inputs depth e = grind arith

-- a channel of the table is the plan's
module _ (p : Plan) (channels : List Channel) (t : kinds_in channels ≡ kinds_of p) where
  pub table_count : length channels ≡ length p.design.channels
  table_count = sym (length-map channels (λ (c : Channel). c.kind)) ∙ (ap (λ (ks : List TableChannel). length ks) t
      ∙ length-map-range_with_len (kind_in p) 0 (length p.design.channels))

  pub table_kind : (c : ℕ) → c < length channels → (channel_at channels c).kind ≡ kind_in p c
  table_kind c l =
      sym (get_or-map (λ (k : Channel). k.kind) channels c (unused Sink) Sink l)
      ∙ (ap (λ (ks : List TableChannel). get_or ks c Sink) t ∙ get_or-map-range_with_len (kind_in p) 0 (length p.design.channels) c c Sink
      (let n = table_count in omega arith) (omega arith))

  access_inside : (i : ℕ) (before : List Exchange) (r : Request) → StandsAtPort p i r → IsAccess channels (access_of before r)
  access_inside i before r s =
      let inside : r.channel < length channels = let e = table_count in let l = s.in_range in omega arith in
      record {
        channel = inside;
        ordinal = omega arith;
        side = subst (λ (k : TableChannel). HasSide k (side_of r.kind)) (sym (table_kind r.channel inside))
            (has_side (side_of r.kind) (kind_at p r.channel) _ _ s.is_there);
      }

-- an ordinal is one more than the theory's count
pub ordinal_is : (p : Plan) (h : Held) → AreOwnMarks (design p) (core_of (design p) h) → (i n : ℕ) → n ≤ emitted_of h i
    → (before : List Exchange) → before ≡ exchanges_before p (core_of (design p) h) i n
    → (r : Request) → (access_of before r).ordinal ≡ suc (core_tally (design p) (core_of (design p) h) i (side_of r.kind) r.channel n)
ordinal_is p h b i n l before e r =
    let x = core_of (design p) h in
    let same = ordinals p x b i (side_of r.kind) r.channel n l ∙ ap length
    (sym (moved_before p x i (side_of r.kind) r.channel n) ∙ ap (moved_by (side_of r.kind) r.channel) (sym e)) in
    let one : 1 + length (moved_by (side_of r.kind) r.channel before) ≡ suc (core_tally (design p) x i (side_of r.kind) r.channel n) = omega
    arith in
    one

pub next_step : (p : Plan) → FitsEngine p → (h : Held) → kinds_in h.channels ≡ kinds_of p → IsSound (design p) h
    → AreOwnMarks (design p) (core_of (design p) h) → (i : ℕ) (o : Own) (t : StepOf)
    → IsRestAfter p (core_of (design p) h) i (emitted_of h i) o → o.since < 10 ^ 18 → length t.accesses < 2 ^ 32
    → (0 < emitted_of h i → 1 ≤ o.since)
    → mark_at p i o ≡ Step t → IsNextStep (design p) h i t × ((design p).is_over i
    (ready (design p) i (newest (design p) (core_of (design p) h) i)) ≡ false)
unfolding is_over
next_step p f h table s b i o t g short few apart m =
    let d = design p in
    let x = core_of d h in
    let e = emitted_of h i in
    let (lives, is) = step_of_mark o.state.ended (is_spent p.ops o.state) o.since _ t m in
    let own_is : newest d x i ≡ own d i (core_reply d x i) e = newest_own d x b i e (omega arith) in
    let state : o.state ≡ ready d i (newest d x i) = g.state ∙ ap (ready d i) (sym own_is) in
    let accesses : t.accesses ≡ map (access_of (done_in o.steps)) (requests_of p (i, o.state)) = ap (λ (z : StepOf). z.accesses) (sym is) in
    let gap : t.gap ≡ o.since = ap (λ (z : StepOf). z.gap) (sym is) in
    let first : t.first_query ≡ length (queries (done_in o.steps)) = ap (λ (z : StepOf). z.first_query) (sym is) in
    let count = λ (side : Side) (c : ℕ). ordinals p x b i side c e (omega arith) in (
      record {
        sound = record { gap = let y = gap in omega arith; accesses = few };
        inside = subst (All (IsAccess h.channels)) (sym accesses)
            (All-map (IsAccess h.channels) (access_of (done_in o.steps)) (requests_of p (i, o.state))
            (All-weaker (StandsAtPort p i) (λ (r : Request). IsAccess h.channels (access_of (done_in o.steps) r))
            (access_inside p h.channels table i (done_in o.steps)) (requests_of p (i, o.state))
            (All-from_recursion (StandsAtPort p i) (requests_of p (i, o.state)) (stand p f i o.state))));
        accesses = ap (d.accesses i) (sym state) ∙ (sym (all_seen (done_in o.steps) (requests_of p (i, o.state)))
            ∙ ap (map seen) (sym accesses));
        gap = ap (waited e) (gap ∙ g.since) ∙ (gap_waited e (quiet p i (own d i (core_reply d x i) e)) ∙ ap (quiet p i) (sym own_is));
        apart = λ l. let y = gap in let z = apart l in omega arith;
        ordinals = subst (All (λ (a : Access). a.ordinal ≡ suc (core_tally d x i (side_of a.kind) a.channel e))) (sym accesses)
            (All-map (λ (a : Access). a.ordinal ≡ suc (core_tally d x i (side_of a.kind) a.channel e)) (access_of (done_in o.steps))
            (requests_of p (i, o.state))
            (λ j y l. ordinal_is p h b i e (omega arith) (done_in o.steps) g.done (get_or (requests_of p (i, o.state)) j y)));
        first_query = first ∙ (ap (λ (xs : List Exchange). length (queries xs)) g.done ∙ queries_done p h s i e (omega arith));
      },
      ap (λ (z : ModuleState). d.is_over i z) (sym state) ∙ lives,
    )
