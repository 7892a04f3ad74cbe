-- The clocks that a chain spends in modules, and those of elements under way, are all clocks up to its end.
use Rattle.std.proofs.Common.{◌≡◌, ℕ, zero, suc, ◌+◌, ◌-◌, ◌≤◌, ◌<◌, Bool, true, false, ◌||◌, ltb, List, [], ◌∷◌, map, length, refl, sym}
use Rattle.std.proofs.Common.{◌∙◌, ap, subst, arith, inl, inr, ◌⊎◌, Option, Some, None, cond}
use Rattle.std.proofs.lemmas.Bool.{cases_Bool, cases_lt, and_parts, ltb-true, lt-ltb, not-true}
use Rattle.std.specs.{Prelude.find, Prelude.option_map, List.AllByRecursion, List.range_with_len}
use Rattle.depth_order.specs.{Side, side_of, other_side, is_blocking, Plan, Request, FitsEngine, clock_of, ModuleState, stalls, owner}
use Rattle.depth_order.specs.{StandsAtPort, verdict, is_settled, NoneBefore, requests_of, state, state_at, can_do, can_all, is_possible}
use Rattle.depth_order.specs.{design, lockstep_run, seen_request, lag_in, moves_at, span_start, request_port, stood_at, chain_across, chain}
use Rattle.depth_order.specs.{first_mover, chain_from, path, spent, clocks_across, under_way, chain_clocks, IsEnd, IsWhole, MovesLast}
use Rattle.depth_order.specs.{NoneMoves}
use Rattle.event_timing.proofs.Standing.{moves_can}
use Rattle.timing_bridge.proofs.{Alike.Alike, Alike.alike, Requests.stand}
use Rattle.timing_bridge.proofs.History.{plan_is_design, run_is_history, moves_same}
use Rattle.depth_order.proofs.{First.IsFirst, First.first_among, First.verdict_first, Bound.must_be}
use Rattle.depth_order.proofs.Chained.{IsStill, starts, found_in, found_stalls, kept_still, next_clock, chain_more, path_more, found_true}
use Rattle.depth_order.proofs.Chained.{someone_moved, find_any, none_among}
use Rattle.lockstep_defs.proofs.{Found.verdict_none, Exits.clock_settled}
use Rattle.event_timing.specs.Histories as counted

-- ---- what becomes possible

-- what was not possible at a side of a channel in clock b and is in the next: the other side's module moved, as long before as it is seen
pub record WasMoved (p : Plan) (b : ℕ) (side : Side) (f : ℕ) : Type 0 where
  pub within : lag_in p side f ≤ suc b
  pub moves : moves_at p (suc b - lag_in p side f) (owner p (record { side = other_side side; channel = f })) ≡ true

limited : (unlimited : Bool) (n m : ℕ) → (unlimited || ltb n m) ≡ false → (unlimited ≡ false) × (m ≤ n)
limited true n m e = absurd (cc)
limited false n m e = elim (cases_lt n m) [
  | inl l ↦ let less = lt-ltb n m l in absurd (cc)
  | inr l ↦ (refl, l)
]

enough : (unlimited : Bool) (n m : ℕ) → unlimited ≡ false → (unlimited || ltb n m) ≡ true → n < m
enough true n m u e = absurd (cc)
enough false n m u e = ltb-true n m e

was_moved : (p : Plan) → FitsEngine p → (b m : ℕ) (side : Side) (f : ℕ) → moves_at p b m ≡ false
    → owner p (record { side = side; channel = f }) ≡ m
    → is_possible (design p) (lockstep_run p) b side f ≡ false → is_possible (design p) (lockstep_run p) (suc b) side f ≡ true
    → WasMoved p b side f
was_moved p h b m side f still owned absent present =
    let d = design p in
    let w = lockstep_run p in
    let y = run_is_history p h in
    let stays = y.taken_stays b side f (subst (λ (k : ℕ). counted.can_move d w b k ≡ false) (sym owned) (moves_same p h b m ∙ still)) in
    let before = limited (d.unlimited side f) (w.taken b side f)
    (d.start side f + w.taken (suc b - d.lag side f) (other_side side) f) absent in
    let there = enough (d.unlimited side f) (w.taken (suc b) side f)
    (d.start side f + w.taken (suc (suc b) - d.lag side f) (other_side side) f) before.0 present in
    by_clock (next_clock b (d.lag side f)) stays before.1 there
    (cases_Bool (counted.can_move d w (suc b - d.lag side f) (d.owner (other_side side) f)))
  where
    by_clock : (suc (suc b) - (design p).lag side f ≡ suc (suc b - (design p).lag side f))
        ⊎ (suc (suc b) - (design p).lag side f ≡ suc b - (design p).lag side f)
        → (lockstep_run p).taken (suc b) side f ≡ (lockstep_run p).taken b side f
        → (design p).start side f + (lockstep_run p).taken (suc b - (design p).lag side f) (other_side side) f
        ≤ (lockstep_run p).taken b side f
        → (lockstep_run p).taken (suc b) side f
        < (design p).start side f + (lockstep_run p).taken (suc (suc b) - (design p).lag side f) (other_side side) f
        → (counted.can_move (design p) (lockstep_run p) (suc b - (design p).lag side f) ((design p).owner (other_side side) f) ≡ true)
        ⊎ (counted.can_move (design p) (lockstep_run p) (suc b - (design p).lag side f) ((design p).owner (other_side side) f) ≡ false)
        → WasMoved p b side f
    by_clock (inr same) stays before there move = let there = rw same at there in absurd (omega arith)
    by_clock (inl next) stays before there (inl move) = record {
      within = omega arith;
      moves = sym (moves_same p h (suc b - (design p).lag side f) ((design p).owner (other_side side) f)) ∙ move;
    }
    by_clock (inl next) stays before there (inr rest) =
        let there = rw next at there in
        let same = (run_is_history p h).taken_stays (suc b - (design p).lag side f) (other_side side) f rest in
        absurd (omega arith)

-- ---- at the first clock of a span

abbrev CanDo : Plan → ℕ → Request → Type 0
CanDo p c r = can_do (design p) (lockstep_run p) c (seen_request r) ≡ true

can_each : (p : Plan) (c : ℕ) (rs : List Request) → can_all (design p) (lockstep_run p) c (map seen_request rs) ≡ true
    → AllByRecursion (CanDo p c) rs
can_each p c [] e = tt
can_each p c (r ∷ rs) e = let parts = and_parts _ _ e in (parts.0, can_each p c rs parts.1)

pub crossing_moves : (p : Plan) → FitsEngine p → (b m : ℕ) → moves_at p b m ≡ false → moves_at p (suc b) m ≡ true → (r : Request)
    → find (stalls p b (state p b).contents) (requests_of p (m, state_at p b m)) ≡ Some r
    → WasMoved p b (side_of r.kind) r.channel
crossing_moves p h b m still move r e =
    let d = design p in
    let w = lockstep_run p in
    let test = stalls p b (state p b).contents in
    let rs = requests_of p (m, state_at p b m) in
    let stays = (run_is_history p h).state_stays b m (moves_same p h b m ∙ still) in
    let stalled = and_parts _ _ (found_stalls p b rs r e) in
    let owned = (found_in p m (StandsAtPort p m) test rs r (stand p h m (state_at p b m)) e).owned in
    let absent : is_possible d w b (side_of r.kind) r.channel ≡ false =
    (found_in p m (Alike p b) test rs r (alike p h b m (state_at p b m)) e).possible ∙ not-true _ stalled.1 in
    let can : can_all d w (suc b) (map seen_request rs) ≡ true =
    ap (λ (s : ModuleState). can_all d w (suc b) (map seen_request (requests_of p (m, s)))) (sym stays)
    ∙ moves_can d w (suc b) m (moves_same p h (suc b) m ∙ move) in
    let done = found_in p m (CanDo p (suc b)) test rs r (can_each p (suc b) rs can) e in
    was_moved p h b m (side_of r.kind) r.channel still owned absent
    (must_be (is_blocking r.kind) (is_possible d w (suc b) (side_of r.kind) r.channel) stalled.0 done)

-- ---- the sum

-- what is to be shown of each shorter chain
abbrev AddsUp : Plan → ℕ → Type 0
AddsUp p n = (m t : ℕ) → t < n → moves_at p t m ≡ true → spent (chain p n m t) + under_way p (chain p n m t) ≡ suc t

before_start : (p : Plan) → FitsEngine p → (n : ℕ) → AddsUp p n → (m x : ℕ) → x < suc n → moves_at p x m ≡ true → IsStill p m x
    → let rest = chain_across p (λ k c. chain p n k c) x (stood_at p x m) in
    (spent rest + (clocks_across p (stood_at p x m) + under_way p rest)) ≡ x
before_start p h n all m zero l move still = refl
before_start p h n all m (suc b) l move still =
    by_found (find (stalls p b (state p b).contents) (requests_of p (m, state_at p b m))) refl
  where
    by_found : (o : Option Request) → find (stalls p b (state p b).contents) (requests_of p (m, state_at p b m)) ≡ o
        → let rest = chain_across p (λ k c. chain p n k c) (suc b) (option_map request_port o) in
        (spent rest + (clocks_across p (option_map request_port o) + under_way p rest)) ≡ suc b
    by_found None e = absurd (kept_still p h b m still move e)
    by_found (Some r) e =
        let crossing = crossing_moves p h b m still move r e in
        let within = crossing.within in
        let positive = (plan_is_design p h).lag_positive (side_of r.kind) r.channel in
        let k = owner p (record { side = other_side (side_of r.kind); channel = r.channel }) in
        let c = suc b - lag_in p (side_of r.kind) r.channel in
        let sum = all k c (omega arith) crossing.moves in
        omega arith

pub adds_up : (p : Plan) → FitsEngine p → (n : ℕ) → AddsUp p n
adds_up p h zero m t l move = absurd (omega arith)
adds_up p h (suc n) m t l move =
    let start = starts p m t move in
    let x = span_start p m t in
    let within = start.within in
    let rest = before_start p h n (adds_up p h n) m x (omega arith) start.moves start.still in
    rw (chain_more p n m t) (omega arith)

-- ---- up to the verdict

path_whole : (p : Plan) → FitsEngine p → (c : ℕ) → NoneBefore p c → is_settled p c (state p c) ≡ true → IsWhole p c
unfolding path
path_whole p h zero none settled = refl
path_whole p h (suc c) none settled = rw (path_more p c) (by_mover (first_mover p c) refl)
  where
    by_mover : (o : Option ℕ) → first_mover p c ≡ o
        → spent (chain_from p c o (path p c)) + under_way p (chain_from p c o (path p c)) ≡ suc c
    by_mover None found = absurd (someone_moved p c (none c (omega arith)) settled found)
    by_mover (Some m) found = adds_up p h (suc c) m c (omega arith)
        (found_true (moves_at p c) (range_with_len 0 (length p.design.modules)) m found)

pub whole_chain : (p : Plan) → FitsEngine p → IsEnd (verdict p) → IsWhole p (clock_of (verdict p))
whole_chain p h ends = by_first (first_among p (suc p.cycles))
  where
    by_first : ((c : ℕ) × IsFirst p (suc p.cycles) c) ⊎ NoneBefore p (suc p.cycles) → IsWhole p (clock_of (verdict p))
    by_first (inl (c, f)) =
        let at : clock_of (verdict p) ≡ c = ap clock_of (verdict_first p c f) ∙ clock_settled p c (state p c) in
        subst (IsWhole p) (sym at) (path_whole p h c f.none f.settled)
    by_first (inr none) = absurd (subst IsEnd (verdict_none p none) ends)

-- ---- up to any clock

-- the first number that passes is one of them
found_inside : (P : ℕ → Bool) (a n m : ℕ) → find P (range_with_len a n) ≡ Some m → m < a + n
found_inside P a zero m e = absurd (cc)
found_inside P a (suc n) m e = by_test (P a) (found_inside P (a + 1) n m) e
  where
    by_test : (b : Bool) → (find P (range_with_len (a + 1) n) ≡ Some m → m < (a + 1) + n)
        → cond b (Some a) (find P (range_with_len (a + 1) n)) ≡ Some m → m < a + suc n
    by_test true rest e = let same : a ≡ m = cc in omega arith
    by_test false rest e = let inside = rest e in omega arith

still_all : (p : Plan) (c m : ℕ) → first_mover p c ≡ None → m < length p.design.modules → moves_at p c m ≡ false
still_all p c m none l =
    let at : 0 + m ≡ m = omega arith in
    subst (λ (k : ℕ). moves_at p c k ≡ false) at
    (none_among (moves_at p c) 0 (length p.design.modules)
    (find_any (moves_at p c) (range_with_len 0 (length p.design.modules)) none) m l)

-- who is found is a module of the plan, and moves
record IsMover (p : Plan) (c m : ℕ) : Type 0 where
  pub inside : m < length p.design.modules
  pub moves : moves_at p c m ≡ true

mover : (p : Plan) (c m : ℕ) → first_mover p c ≡ Some m → IsMover p c m
mover p c m e =
    let inside = found_inside (moves_at p c) 0 (length p.design.modules) m e in
    record { inside = omega arith; moves = found_true (moves_at p c) (range_with_len 0 (length p.design.modules)) m e }

pub chain_to : (p : Plan) → FitsEngine p → (c t : ℕ) → MovesLast p c t → chain_clocks p c ≡ suc t
chain_to p h zero t l = let below = l.below in absurd (omega arith)
chain_to p h (suc c) t l = rw (path_more p c) (by_mover (first_mover p c) refl (λ k. chain_to p h c t k))
  where
    by_mover : (o : Option ℕ) → first_mover p c ≡ o → (MovesLast p c t → chain_clocks p c ≡ suc t)
        → spent (chain_from p c o (path p c)) + under_way p (chain_from p c o (path p c)) ≡ suc t
    by_mover None found rest = elim (cases_lt t c) [
      | inl before ↦ rest (record {
        mover = l.mover;
        inside = l.inside;
        moves = l.moves;
        below = before;
        none_later = λ b m after within. l.none_later b m after (omega arith);
      })
      | inr at ↦
          let below = l.below in
          let same : t ≡ c = omega arith in
          let moves = subst (λ (b : ℕ). moves_at p b l.mover ≡ true) same l.moves in
          let still = still_all p c l.mover found l.inside in
          absurd (cc)
    ]
    by_mover (Some m) found rest =
        let x = mover p c m found in
        elim (cases_lt t c) [
          | inl before ↦
              let moves = x.moves in
              let still = l.none_later c m before (omega arith) x.inside in
              absurd (cc)
          | inr at ↦
              let below = l.below in
              let same : suc c ≡ suc t = omega arith in
              adds_up p h (suc c) m c (omega arith) x.moves ∙ same
        ]

pub no_chain : (p : Plan) (c : ℕ) → NoneMoves p c → path p c ≡ []
unfolding path
no_chain p zero none = refl
no_chain p (suc c) none =
    path_more p c ∙ by_mover (first_mover p c) refl (no_chain p c (λ b m l. none b m (omega arith)))
  where
    by_mover : (o : Option ℕ) → first_mover p c ≡ o → path p c ≡ [] → chain_from p c o (path p c) ≡ []
    by_mover None found rest = rest
    by_mover (Some m) found rest =
        let x = mover p c m found in
        let moves = x.moves in
        let still = none c m (omega arith) x.inside in
        absurd (cc)
