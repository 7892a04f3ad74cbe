-- A chain that crosses no full FIFO leads to a clock that no depths make earlier.
use Rattle.std.proofs.Common.{◌≡◌, ℕ, zero, suc, ◌+◌, ◌-◌, ◌≤◌, ◌<◌, Bool, true, false, ◌||◌, not, ltb, List, [], ◌∷◌, map, length, get_or}
use Rattle.std.proofs.Common.{refl, sym, ◌∙◌, ap, subst, arith, inl, inr, ◌⊎◌, Option, Some, None, cond, eqb}
use Rattle.std.proofs.Math.Bool.{or-true}
use Rattle.std.proofs.lemmas.Bool.{cases_Bool, cases_lt, and_parts, and_from, or_parts, or_from, cond-true, cond-false, eq-eqb, lt-ltb}
use Rattle.std.proofs.lemmas.Bool.{not-true}
use Rattle.std.specs.Prelude.{find, option_map, ⊤}
use Rattle.std.specs.List.{list_any, range_with_len, enumerate_from, AllByRecursion}
use Rattle.depth_order.specs.{Side, side_of, other_side, same_side, Plan, ModuleState, Request, FitsEngine, ClockState, stalls, owner}
use Rattle.depth_order.specs.{verdict, some_moves, is_settled, nobody, requests_of, moves, state, state_at, Design, IsDesign, Trace}
use Rattle.depth_order.specs.{can_all, is_possible, design, lockstep_run, seen_request, lag_in, waits_for, pops_of, IsSoonest, moves_at}
use Rattle.depth_order.specs.{span_start, request_port, stood_at, chain_across, chain, is_push, crosses_full, first_mover, chain_from, path}
use Rattle.depth_order.specs.{NoneEndsBefore, AsksNothing, Earliest.Start, Earliest.Own, Earliest.Empty}
use Rattle.flow_word.specs.declared.access.Side.TheVariants.{Pop, Push}
use Rattle.flow_design.specs.declared.report.Verdict.TheVariants.{Done}
use Rattle.lockstep_defs.proofs.{Settled.state-suc, Settled.still_step, Settled.settled_at, Agrees.all_modules}
use Rattle.event_timing.proofs.Standing.{moves_lives, moves_can, moves_from}
use Rattle.timing_bridge.proofs.Alike.{Alike, alike, can_same}
use Rattle.timing_bridge.proofs.History.{plan_is_design, run_is_history, moves_same}
use Rattle.depth_order.proofs.Order.{done_ended, done_none_before, ended_settled}
use Rattle.depth_order.proofs.{Latency.no_earlier_end, Bound.waited, Bound.came, Bound.waits_owned}
use Rattle.event_timing.specs.Histories as counted

-- ---- spans

-- what is said of the first clock of a module's moves: it moves there, and not in the clock before
abbrev pub IsStill : Plan → ℕ → ℕ → Type 0
IsStill p m zero = ⊤
IsStill p m (suc b) = moves_at p b m ≡ false

pub record IsStart (p : Plan) (m t x : ℕ) : Type 0 where
  pub within : x ≤ t
  pub moves : moves_at p x m ≡ true
  pub still : IsStill p m x

pub start_more : (p : Plan) (m c : ℕ) → moves_at p c m ≡ true → span_start p m (suc c) ≡ span_start p m c
unfolding span_start
start_more p m c e = cond-true _ _ _ e

pub start_new : (p : Plan) (m c : ℕ) → moves_at p c m ≡ false → span_start p m (suc c) ≡ suc c
unfolding span_start
start_new p m c e = cond-false _ _ _ e

pub start_0 : (p : Plan) (m : ℕ) → span_start p m 0 ≡ 0
unfolding span_start
start_0 p m = refl

pub starts : (p : Plan) (m t : ℕ) → moves_at p t m ≡ true → IsStart p m t (span_start p m t)
starts p m zero e = rw (start_0 p m) (record { within = omega arith; moves = e; still = tt })
starts p m (suc c) e = elim (cases_Bool (moves_at p c m)) [
  | inl here ↦
      let s = starts p m c here in
      let l = s.within in
      rw (start_more p m c here) (record { within = omega arith; moves = s.moves; still = s.still })
  | inr still ↦ rw (start_new p m c still) (record { within = omega arith; moves = e; still = still })
]

-- no depths make the later clocks of a span earlier, if not its first
along : (p : Plan) → FitsEngine p → (m t : ℕ) → IsSoonest (design p) (lockstep_run p) m (span_start p m t)
    → IsSoonest (design p) (lockstep_run p) m t
along p h m zero early = subst (λ (x : ℕ). IsSoonest (design p) (lockstep_run p) m x) (start_0 p m) early
along p h m (suc c) early = elim (cases_Bool (moves_at p c m)) [
  | inl here ↦ Own m c (moves_same p h c m ∙ here)
      (along p h m c (subst (λ (x : ℕ). IsSoonest (design p) (lockstep_run p) m x) (start_more p m c here) early))
  | inr still ↦ subst (λ (x : ℕ). IsSoonest (design p) (lockstep_run p) m x) (start_new p m c still) early
]

-- ---- who stands still

pub find_any : {X : Type 0} (P : X → Bool) (xs : List X) → find P xs ≡ None → list_any P xs ≡ false
find_any P [] e = refl
find_any P (x ∷ xs) e = by_test (P x) refl (find_any P xs) e
  where
    by_test : (b : Bool) → P x ≡ b → (find P xs ≡ None → list_any P xs ≡ false) → cond b (Some x) (find P xs) ≡ None
        → (P x || list_any P xs) ≡ false
    by_test true at rest e = absurd (cc)
    by_test false at rest e = rw at (rest e)

-- the first request that stalls is one of the requests: where it pops, the module waits for an element
found_waits : (p : Plan) (c : ℕ) (rs : List Request) (r : Request) → find (stalls p c (state p c).contents) rs ≡ Some r
    → side_of r.kind ≡ Pop → waits_for r.channel (map seen_request rs) ≡ true
found_waits p c [] r e side = absurd (cc)
found_waits p c (q ∷ rs) r e side = by_test (stalls p c (state p c).contents q) refl (λ f. found_waits p c rs r f side) e
  where
    by_test : (b : Bool) → stalls p c (state p c).contents q ≡ b
        → (find (stalls p c (state p c).contents) rs ≡ Some r → waits_for r.channel (map seen_request rs) ≡ true)
        → cond b (Some q) (find (stalls p c (state p c).contents) rs) ≡ Some r
        → (pops_of r.channel (seen_request q) || waits_for r.channel (map seen_request rs)) ≡ true
    by_test true at rest e =
        let same : q ≡ r = cc in
        let blocks = (and_parts _ _ at).0 in
        let first : pops_of r.channel (seen_request q) ≡ true =
        and_from _ _ blocks (and_from _ _ (ap (λ (x : Request). same_side (side_of x.kind) Pop) same
        ∙ ap (λ (s : Side). same_side s Pop) side)
        (ap (λ (x : Request). eqb x.channel r.channel) same ∙ eq-eqb r.channel r.channel refl)) in
        rw first refl
    by_test false at rest e =
        let more = rest e in
        ap (λ (b : Bool). pops_of r.channel (seen_request q) || b) more ∙ or-true (pops_of r.channel (seen_request q))

pub found_stalls : (p : Plan) (c : ℕ) (rs : List Request) (r : Request) → find (stalls p c (state p c).contents) rs ≡ Some r
    → stalls p c (state p c).contents r ≡ true
found_stalls p c [] r e = absurd (cc)
found_stalls p c (q ∷ rs) r e = by_test (stalls p c (state p c).contents q) refl (λ f. found_stalls p c rs r f) e
  where
    by_test : (b : Bool) → stalls p c (state p c).contents q ≡ b
        → (find (stalls p c (state p c).contents) rs ≡ Some r → stalls p c (state p c).contents r ≡ true)
        → cond b (Some q) (find (stalls p c (state p c).contents) rs) ≡ Some r → stalls p c (state p c).contents r ≡ true
    by_test true at rest e = let same : q ≡ r = cc in subst (λ (x : Request). stalls p c (state p c).contents x ≡ true) same at
    by_test false at rest e = rest e

pub found_in : (p : Plan) (m : ℕ) (P : Request → Type 0) (test : Request → Bool) (rs : List Request) (r : Request) → AllByRecursion P rs
    → find test rs ≡ Some r → P r
found_in p m P test [] r all e = absurd (cc)
found_in p m P test (q ∷ rs) r all e = by_test (test q) (λ f. found_in p m P test rs r all.1 f) e
  where
    by_test : (b : Bool) → (find test rs ≡ Some r → P r) → cond b (Some q) (find test rs) ≡ Some r → P r
    by_test true rest e = let same : q ≡ r = cc in subst P same all.0
    by_test false rest e = rest e

-- a module that stands still and moves in the next clock is kept still by a request
pub kept_still : (p : Plan) → FitsEngine p → (b m : ℕ) → moves_at p b m ≡ false → moves_at p (suc b) m ≡ true
    → find (stalls p b (state p b).contents) (requests_of p (m, state_at p b m)) ≡ None → ⊥
kept_still p h b m still move none =
    let d = design p in
    let w = lockstep_run p in
    let stays = (run_is_history p h).state_stays b m (moves_same p h b m ∙ still) in
    let lives = moves_lives d w (suc b) m (moves_same p h (suc b) m ∙ move) in
    let can : can_all d w b (map seen_request (requests_of p (m, state_at p b m))) ≡ true =
    can_same p b (requests_of p (m, state_at p b m)) (alike p h b m (state_at p b m))
    ∙ ap not (find_any (stalls p b (state p b).contents) (requests_of p (m, state_at p b m)) none) in
    let lived : d.is_over m (w.state b m) ≡ false = ap (d.is_over m) (sym stays) ∙ lives in
    let moved = sym (moves_same p h b m) ∙ moves_from d w b m lived can in
    absurd (cc)

-- ---- an element that was missing

-- fewer elements came than in the next clock, so one was pushed then, by a module that moves
record WasPushed (p : Plan) (b f : ℕ) : Type 0 where
  few : (design p).start Pop f + (lockstep_run p).taken (suc b - (design p).lag Pop f) Push f ≤ (lockstep_run p).taken (suc b) Pop f
  moves : moves_at p (suc b - (design p).lag Pop f) ((design p).owner Push f) ≡ true

not_come : {S : Type 0} → (d : Design S) (h : Trace S) → IsDesign d → (c ch : ℕ) → is_possible d h c Pop ch ≡ false
    → d.start Pop ch + h.taken (suc c - d.lag Pop ch) Push ch ≤ h.taken c Pop ch
not_come {S} d h i c ch e =
    let limited = ap (λ (b : Bool). b || ltb (h.taken c Pop ch) (d.start Pop ch + h.taken (suc c - d.lag Pop ch) Push ch))
    (sym (i.pops_limited ch)) in
    let no = limited ∙ e in
    elim (cases_lt (h.taken c Pop ch) (d.start Pop ch + h.taken (suc c - d.lag Pop ch) Push ch)) [
      | inl l ↦ let yes = lt-ltb (h.taken c Pop ch) (d.start Pop ch + h.taken (suc c - d.lag Pop ch) Push ch) l in absurd (cc)
      | inr l ↦ l
    ]

pub next_clock : (b lag : ℕ) → (suc (suc b) - lag ≡ suc (suc b - lag)) ⊎ (suc (suc b) - lag ≡ suc b - lag)
next_clock b lag = elim (cases_lt (suc b) lag) [ inl l ↦ inr (omega arith) | inr l ↦ inl (omega arith) ]

was_pushed : (p : Plan) → FitsEngine p → (b m f : ℕ) → moves_at p b m ≡ false → (design p).owner Pop f ≡ m
    → is_possible (design p) (lockstep_run p) b Pop f ≡ false → is_possible (design p) (lockstep_run p) (suc b) Pop f ≡ true
    → WasPushed p b f
was_pushed p h b m f still owned absent present =
    let d = design p in
    let w = lockstep_run p in
    let y = run_is_history p h in
    let i = plan_is_design p h in
    let stays = y.taken_stays b Pop f (subst (λ (k : ℕ). counted.can_move d w b k ≡ false) (sym owned) (moves_same p h b m ∙ still)) in
    let before = not_come d w i b f absent in
    let there = came d w i (suc b) f present in
    by_clock (next_clock b (d.lag Pop f)) stays before there (cases_Bool (counted.can_move d w (suc b - d.lag Pop f) (d.owner Push f)))
  where
    by_clock : (suc (suc b) - (design p).lag Pop f ≡ suc (suc b - (design p).lag Pop f))
        ⊎ (suc (suc b) - (design p).lag Pop f ≡ suc b - (design p).lag Pop f)
        → (lockstep_run p).taken (suc b) Pop f ≡ (lockstep_run p).taken b Pop f
        → (design p).start Pop f + (lockstep_run p).taken (suc b - (design p).lag Pop f) Push f ≤ (lockstep_run p).taken b Pop f
        → (lockstep_run p).taken (suc b) Pop f < (design p).start Pop f + (lockstep_run p).taken (suc (suc b) - (design p).lag Pop f) Push f
        → (counted.can_move (design p) (lockstep_run p) (suc b - (design p).lag Pop f) ((design p).owner Push f) ≡ true)
        ⊎ (counted.can_move (design p) (lockstep_run p) (suc b - (design p).lag Pop f) ((design p).owner Push f) ≡ false)
        → WasPushed p b f
    by_clock q stays before there (inl move) = record {
      few = omega arith;
      moves = sym (moves_same p h (suc b - (design p).lag Pop f) ((design p).owner Push f)) ∙ move;
    }
    by_clock (inr same) stays before there (inr rest) = let there = rw same at there in absurd (omega arith)
    by_clock (inl next) stays before there (inr rest) =
        let there = rw next at there in
        let same = (run_is_history p h).taken_stays (suc b - (design p).lag Pop f) Push f rest in
        absurd (omega arith)

-- ---- the chain

back_again : (c lag : ℕ) → c ≤ (c - lag) + lag
back_again c lag = omega arith

goes_back : (b n lag : ℕ) → 0 < lag → suc b < suc n → suc b - lag < n
goes_back b n lag positive l = omega arith

-- what is to be shown of each shorter chain
abbrev AreEarliest : Plan → ℕ → Type 0
AreEarliest p n = (m t : ℕ) → t < n → moves_at p t m ≡ true → crosses_full (chain p n m t) ≡ false
    → IsSoonest (design p) (lockstep_run p) m t

from_pop : (p : Plan) → FitsEngine p → (n : ℕ) → AreEarliest p n → (m b : ℕ) → suc b < suc n → moves_at p b m ≡ false
    → moves_at p (suc b) m ≡ true → (r : Request)
    → find (stalls p b (state p b).contents) (requests_of p (m, state_at p b m)) ≡ Some r → side_of r.kind ≡ Pop
    → crosses_full (chain p n (owner p (record { side = Push; channel = r.channel })) (suc b - (design p).lag Pop r.channel)) ≡ false
    → IsSoonest (design p) (lockstep_run p) m (suc b)
from_pop p h n all m b l still move r e side clear =
    let d = design p in
    let w = lockstep_run p in
    let f = r.channel in
    let i = plan_is_design p h in
    let rs = requests_of p (m, state_at p b m) in
    let stays = (run_is_history p h).state_stays b m (moves_same p h b m ∙ still) in
    let waits : waits_for f (d.accesses m (w.state b m)) ≡ true = found_waits p b rs r e side in
    let waits_then : waits_for f (d.accesses m (w.state (suc b) m)) ≡ true =
    ap (λ (s : ModuleState). waits_for f (d.accesses m s)) stays ∙ waits in
    let owned = waits_owned d m f (d.accesses m (w.state b m)) (i.owned m (w.state b m)) waits in
    let present = waited d w (suc b) f (d.accesses m (w.state (suc b) m)) waits_then
    (moves_can d w (suc b) m (moves_same p h (suc b) m ∙ move)) in
    let absent : is_possible d w b Pop f ≡ false =
    ap (λ (s : Side). is_possible d w b s f) (sym side)
    ∙ ((found_in p m (Alike p b) (stalls p b (state p b).contents) rs r (alike p h b m (state_at p b m)) e).possible
    ∙ not-true _ (and_parts _ _ (found_stalls p b rs r e)).1) in
    let pushed = was_pushed p h b m f still owned absent present in
    Empty m (suc b) (suc b - d.lag Pop f) f waits_then pushed.few (back_again (suc b) (d.lag Pop f))
    (all (d.owner Push f) (suc b - d.lag Pop f) (goes_back b n (d.lag Pop f) (i.lag_positive Pop f) l) pushed.moves clear)

from_start : (p : Plan) → FitsEngine p → (n : ℕ) → AreEarliest p n → (m x : ℕ) → x < suc n → moves_at p x m ≡ true → IsStill p m x
    → is_push (stood_at p x m) ≡ false → crosses_full (chain_across p (λ k c. chain p n k c) x (stood_at p x m)) ≡ false
    → IsSoonest (design p) (lockstep_run p) m x
from_start p h n all m zero l move still first rest = Start m
from_start p h n all m (suc b) l move still first rest =
    by_found (find (stalls p b (state p b).contents) (requests_of p (m, state_at p b m))) refl first rest
  where
    by_found : (o : Option Request) → find (stalls p b (state p b).contents) (requests_of p (m, state_at p b m)) ≡ o
        → is_push (option_map request_port o) ≡ false
        → crosses_full (chain_across p (λ k c. chain p n k c) (suc b) (option_map request_port o)) ≡ false
        → IsSoonest (design p) (lockstep_run p) m (suc b)
    by_found None e first rest = absurd (kept_still p h b m still move e)
    by_found (Some r) e first rest = by_side (side_of r.kind) refl first rest
      where
        by_side : (side : Side) → side_of r.kind ≡ side → same_side side Push ≡ false
            → crosses_full (chain p n (owner p (record { side = other_side side; channel = r.channel }))
            (suc b - lag_in p side r.channel)) ≡ false
            → IsSoonest (design p) (lockstep_run p) m (suc b)
        by_side Pop side first rest = from_pop p h n all m b l still move r e side rest
        by_side Push side first rest = absurd (cc)

pub chain_more : (p : Plan) (n m t : ℕ) → chain p (suc n) m t
    ≡ record { «module» = m; first = span_start p m t; last = t; crossed = stood_at p (span_start p m t) m }
    ∷ chain_across p (λ k c. chain p n k c) (span_start p m t) (stood_at p (span_start p m t) m)
unfolding chain
chain_more p n m t = refl

pub all_earliest : (p : Plan) → FitsEngine p → (n : ℕ) → AreEarliest p n
all_earliest p h zero m t l move clear = absurd (omega arith)
all_earliest p h (suc n) m t l move clear =
    let start = starts p m t move in
    let within = start.within in
    let parts = or_parts _ _ (ap crosses_full (sym (chain_more p n m t)) ∙ clear) in
    along p h m t
    (from_start p h n (all_earliest p h n) m (span_start p m t) (omega arith) start.moves start.still parts.0 parts.1)

-- ---- the last clock in which a module moves

pub found_true : {X : Type 0} (P : X → Bool) (xs : List X) (x : X) → find P xs ≡ Some x → P x ≡ true
found_true P [] x e = absurd (cc)
found_true P (y ∷ xs) x e = by_test (P y) refl (found_true P xs x) e
  where
    by_test : (b : Bool) → P y ≡ b → (find P xs ≡ Some x → P x ≡ true) → cond b (Some y) (find P xs) ≡ Some x → P x ≡ true
    by_test true at rest e = let same : y ≡ x = cc in ap P (sym same) ∙ at
    by_test false at rest e = rest e

pub none_among : (P : ℕ → Bool) (a n : ℕ) → list_any P (range_with_len a n) ≡ false → (i : ℕ) → i < n → P (a + i) ≡ false
none_among P a zero e i l = absurd (omega arith)
none_among P a (suc n) e zero l =
    let at : a + 0 ≡ a = omega arith in
    rw at (or_parts _ _ e).0
none_among P a (suc n) e (suc i) l =
    let at : a + suc i ≡ (a + 1) + i = omega arith in
    rw at (none_among P (a + 1) n (or_parts _ _ e).1 i (omega arith))

none_of : {X : Type 0} (P : ℕ × X → Bool) (d : X) (n : ℕ) (xs : List X)
    → ((i : ℕ) → i < length xs → P (n + i, get_or xs i d) ≡ false) → list_any P (enumerate_from n xs) ≡ false
none_of P d n [] h = refl
none_of P d n (x ∷ xs) h =
    let at : n + 0 ≡ n = omega arith in
    let first = rw at at (h 0 (omega arith)) in
    or_from _ _ first (none_of P d (n + 1) xs (λ i l.
    let next : n + suc i ≡ (n + 1) + i = omega arith in
    rw next at (h (suc i) (omega arith))))

-- in the clock before the first settled one some module moves
pub someone_moved : (p : Plan) (c : ℕ) → is_settled p c (state p c) ≡ false → is_settled p (suc c) (state p (suc c)) ≡ true
    → first_mover p c ≡ None → ⊥
someone_moved p c before settled none =
    let each = none_among (moves_at p c) 0 (length p.design.modules)
    (find_any (moves_at p c) (range_with_len 0 (length p.design.modules)) none) in
    let unmoved : some_moves p c (state p c).contents (state p c) ≡ false =
    none_of (moves p c (state p c).contents) nobody 0 (state p c).modules (λ i l.
    let at : 0 + i ≡ i = omega arith in
    let inside : i < length p.design.modules = omega (arith, all_modules p c) in
    rw at (rw at at (each i inside))) in
    let same = state-suc p c ∙ still_step p c (state p c) unmoved in
    let now = settled_at p (suc c) c (state p c) (subst (λ (st : ClockState). is_settled p (suc c) st ≡ true) same settled) in
    absurd (cc)

pub path_more : (p : Plan) (c : ℕ) → path p (suc c) ≡ chain_from p c (first_mover p c) (path p c)
unfolding path
path_more p c = refl

pub none_ends_before : (p : Plan) → FitsEngine p → AsksNothing p → (clock : ℕ) → verdict p ≡ Done clock
    → crosses_full (path p clock) ≡ false → NoneEndsBefore p clock
none_ends_before p h none zero done clear ds a earlier e = omega arith
none_ends_before p h none (suc c) done clear ds a earlier e =
    by_mover (first_mover p c) refl (ap crosses_full (sym (path_more p c)) ∙ clear)
  where
    by_mover : (o : Option ℕ) → first_mover p c ≡ o → crosses_full (chain_from p c o (path p c)) ≡ false → suc c ≤ earlier
    by_mover (Some m) found clear =
        let move = found_true (moves_at p c) (range_with_len 0 (length p.design.modules)) m found in
        no_earlier_end p h none m c (all_earliest p h (suc c) m c (omega arith) move clear) (moves_same p h c m ∙ move) ds a earlier e
    by_mover None found clear =
        let settled = ended_settled p (suc c) (done_ended p (suc c) done).1 in
        let unsettled = done_none_before p (suc c) done c (omega arith) in
        absurd (someone_moved p c unsettled settled found)

pub none_ends_by : (p : Plan) → FitsEngine p → AsksNothing p → (m t : ℕ) → IsSoonest (design p) (lockstep_run p) m t
    → moves_at p t m ≡ true → NoneEndsBefore p (suc t)
none_ends_by p h none m t early move ds a earlier e =
    no_earlier_end p h none m t early (moves_same p h t m ∙ move) ds a earlier e
