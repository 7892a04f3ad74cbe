-- The marks of a run are sound, and a step makes few queries.
use Rattle.std.proofs.Common.{◌≡◌, ℕ, ◌+◌, ◌*◌, ◌^◌, ◌<◌, ◌≤◌, ◌↔◌, Bool, true, false, not, cond, List, [], ◌∷◌, map, length, refl, sym}
use Rattle.std.proofs.Common.{◌∙◌, ap, All, get_or, arith}
use Rattle.std.proofs.{lemmas.Bool.cond_both, lemmas.List.length-map, lemmas.List.Elements.All-map, lemmas.List.Sums.length-filter}
use Rattle.std.specs.{Prelude.count_by, List.filter}
use Rattle.module_interp.specs.{Access, side_of, is_blocking, Plan, Advance, ModuleState, Request, block_of, FitsEngine, is_spent, Exchange}
use Rattle.module_interp.specs.{is_query, Own, access_of, request_from, module_at, IsStateSound, ModuleRun, requests_at, done_in}
use Rattle.module_interp.specs.{accesses_at, mark_at, listed_step, few_accesses, IsFew, IsSmall, IsSmallAccess, IsSoundMark, gap_of}
use Rattle.module_interp.specs.{StandsAt, declared.path.Stage.TheVariants.Asked}
use Rattle.flow_design.specs.declared.limits.TheConstants.{LIVE_ITERATIONS, OPERATIONS}
use Rattle.flow_design.specs.declared.state.Advance.TheVariants.{Ended, Spent}
use Rattle.lockstep_defs.proofs.{Once.asks_once, Rules.keeps_ports, Standing.requests_stand}
use Rattle.module_code.proofs.Readiness.{few_due}
use Rattle.module_interp.proofs.Feeding.{fewer_requests, waits_at}
use Rattle.module_interp.proofs.{Gaps.short_gap, Tallies.moved_few, Tallies.queries_few, Timing.module_sound}

-- ---- marks

pub gap_at : (p : Plan) (i : ℕ) (o : Own) → gap_of (mark_at p i o) ≡ o.since
gap_at p i o =
    cond_both o.state.ended (Ended o.since) _ (λ (m : Advance). gap_of m ≡ o.since) (λ e. refl)
    (λ e. cond_both (is_spent p.ops o.state) (Spent o.since) _ (λ (m : Advance). gap_of m ≡ o.since) (λ f. refl) (λ f. refl))

pub sound_mark : (p : Plan) (i : ℕ) (o : Own) (r : ModuleRun) (mark : Advance) → StandsAt p i o r → mark ≡ mark_at p i o → IsSmall mark
    → IsSoundMark (length o.steps) mark
sound_mark p i o r mark s is small =
    let gap : gap_of mark ≡ o.since = ap gap_of is ∙ gap_at p i o in
    let short = short_gap p i o r s in
    record { small = small; short = omega arith; after = λ some. let later = s.after some in omega arith }

-- ---- steps

-- the numbers of a step that waits
pub small_step : (p : Plan) (i : ℕ) (o : Own) (r : ModuleRun) → StandsAt p i o r → r.path.value.stage ≡ Asked
    → (length r.path.value.asked ≤ LIVE_ITERATIONS * OPERATIONS) × (length (done_in o.steps) < 2 ^ 40)
small_step p i o r s asked =
    let w = waits_at p i o r.path.value s.leads asked in
    let b = s.leads.path in
    let m = module_at p i in
    let count : o.state.count ≡ r.path.value.state.count = ap (λ (z : ModuleState). z.count) w.rest.state in
    let sound : IsStateSound m r.path.value.state = record { state = w.state; running = w.alive } in
    let due_few = few_due (length p.design.channels) m r.path.value.state (module_sound p b.fits i b.owner) sound in
    let less = fewer_requests p.design.channels m r.path.value.state in
    let size = ap (λ (rs : List Request). length rs) w.asked in
    let as_many = length-map r.path.value.asked request_from in
    let few = s.few in
    let small = w.can.answer.count in
    (omega arith, omega arith)

-- no more was done than the operation limit, so its other numbers are small
pub few_done : (p : Plan) (i : ℕ) (o : Own) (r : ModuleRun) → StandsAt p i o r → r.path.value.stage ≡ Asked
    → length (done_in o.steps) + 1 < 2 ^ 32
few_done p i o r s asked =
    let w = waits_at p i o r.path.value s.leads asked in
    let count : o.state.count ≡ r.path.value.state.count = ap (λ (z : ModuleState). z.count) w.rest.state in
    let few = s.few in
    let limit = w.few in
    let most = s.leads.path.fits.operations in
    omega arith

pub small_queries : (p : Plan) (i : ℕ) (o : Own) (r : ModuleRun) → StandsAt p i o r → r.path.value.stage ≡ Asked → r.tally.queries < 2 ^ 32
small_queries p i o r s asked =
    let few = few_done p i o r s asked in
    let made = s.tally.queries_are in
    let less = queries_few (done_in o.steps) in
    omega arith

pub small_accesses : (p : Plan) (i : ℕ) (o : Own) (r : ModuleRun) → StandsAt p i o r → r.path.value.stage ≡ Asked
    → All IsSmallAccess r.path.value.asked
small_accesses p i o r s asked =
    let b = s.leads.path in
    let few = few_done p i o r s asked in
    let channels = b.fits.channel_count in
    let small : All (λ (q : Request). IsSmallAccess (access_of (done_in o.steps) q)) (requests_at p i o) = λ k d l.
    let inside = (requests_stand p b.fits i b.owner o.state k d l).in_range in
    let q = get_or (requests_at p i o) k d in
    let moved = moved_few (side_of q.kind) q.channel (done_in o.steps) in
    record { channel = omega arith; ordinal = omega arith } in
    rw (s.accesses asked) (All-map IsSmallAccess (access_of (done_in o.steps)) (requests_at p i o) small)

-- a step that waits is one of few accesses, where it has few and its gap is small
pub few_listed : (p : Plan) (i : ℕ) (o : Own) (r : ModuleRun) → StandsAt p i o r → r.path.value.stage ≡ Asked
    → 1 ≤ length (listed_step r).accesses → length (listed_step r).accesses ≤ few_accesses → r.path.value.since < 2 ^ 32
    → IsFew (listed_step r)
few_listed p i o r s asked some most gap = record {
  some = some;
  most = most;
  gap = gap;
  first_query = small_queries p i o r s asked;
  small = small_accesses p i o r s asked;
}

-- a step that waits has an access
pub some_accesses : (p : Plan) (i : ℕ) (o : Own) (r : ModuleRun) → StandsAt p i o r → r.path.value.stage ≡ Asked
    → 0 < length (accesses_at p i o)
some_accesses p i o r s asked =
    let some = (waits_at p i o r.path.value s.leads asked).can.some in
    let as_many = ap (λ (xs : List Access). length xs) (s.accesses asked) in
    omega arith

pub some_wait : (xs ys : List Access) (waits : Bool) → waits ≡ true → xs ≡ ys → 0 < length ys → (xs ≡ []) ↔ (waits ≡ false)
some_wait xs ys false e same some = cc
some_wait xs ys true e same some =
    (λ none. let zero : length ys ≡ 0 = ap (λ (zs : List Access). length zs) (sym same ∙ none) in absurd (omega arith), λ f. cc)

-- ---- queries

same_queries : (before : List Exchange) (rs : List Request)
    → length (filter (λ (a : Access). not (is_blocking a.kind)) (map (access_of before) rs))
    ≡ length (filter (λ (r : Request). not (is_blocking r.kind)) rs)
same_queries before [] = refl
same_queries before (r ∷ rs) = by_test (not (is_blocking r.kind)) (same_queries before rs)
  where
    by_test : (b : Bool)
        → length (filter (λ (a : Access). not (is_blocking a.kind)) (map (access_of before) rs))
        ≡ length (filter (λ (r : Request). not (is_blocking r.kind)) rs)
        → length (cond b (access_of before r ∷ filter (λ (a : Access). not (is_blocking a.kind)) (map (access_of before) rs))
        (filter (λ (a : Access). not (is_blocking a.kind)) (map (access_of before) rs)))
        ≡ length (cond b (r ∷ filter (λ (r : Request). not (is_blocking r.kind)) rs)
        (filter (λ (r : Request). not (is_blocking r.kind)) rs))
    by_test true rest = omega arith
    by_test false rest = rest

pub few_queries : (p : Plan) → FitsEngine p → (i : ℕ) (o : Own)
    → count_by (λ (a : Access). not (is_blocking a.kind)) (accesses_at p i o)
    ≤ count_by (λ t. is_query t.op) (block_of (module_at p i) o.state).ops
few_queries p h i o =
    let same = same_queries (done_in o.steps) (requests_at p i o) in
    let asked = length-filter (λ (r : Request). not (is_blocking r.kind)) (requests_at p i o) in
    let listed = length-filter (λ (a : Access). not (is_blocking a.kind)) (accesses_at p i o) in
    let once = asks_once p (keeps_ports p h) i o.state in
    omega arith
