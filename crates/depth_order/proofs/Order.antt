-- A plan without queries that ends with some depths ends as early with greater ones.
use Rattle.std.proofs.Common.{◌≡◌, ℕ, zero, suc, ◌+◌, ◌-◌, ◌≤◌, List, [], ◌∷◌, map, length, Bool, true, false, not, cond, refl, sym, ◌∙◌}
use Rattle.std.proofs.Common.{ap, subst, arith, inl, inr, ◌⊎◌, get_or}
use Rattle.std.proofs.lemmas.Bool.{cases_Bool, cases_lt, and_parts, and_from, or_from}
use Rattle.std.proofs.{lemmas.List.get_or_past, lemmas.List.Sums.sum_by-cons}
use Rattle.std.specs.{Prelude.slice_index, Prelude.All, Prelude.count_by, List.list_all, List.list_any, List.enumerate_from}
use Rattle.depth_order.specs.{Side, is_blocking, Block, Timed, Plan, ClockState, Element, ModuleState, Request, is_fifo, kind_at, no_block}
use Rattle.depth_order.specs.{block_at, block_of, FitsEngine, nobody, is_spent, is_over, all_ready, is_query, NoneBefore, owner, quiet}
use Rattle.depth_order.specs.{quiet_below, measure, no_module, module_at, requests_of, moves, opening, moment, state, state_at}
use Rattle.depth_order.specs.{settled_verdict, verdict, is_settled, Design, Each, IsDesign, IsHistory, design, lockstep_run, seen_request}
use Rattle.depth_order.specs.{start_in, lag_in, with_depths, AreDepths, AreDeeper, AsksNothing, IsDoneBy, IsNoSlower}
use Rattle.flow_word.specs.declared.access.Side.TheVariants.{Pop, Push}
use Rattle.flow_design.specs.declared.design.Module.{Module}
use Rattle.flow_design.specs.declared.report.Verdict.TheVariants.{Done, Deadlock, Ops}
use Rattle.lockstep_defs.proofs.{Found.verdict_none, Once.asks_once, Rules.keeps_ports, Settled.settled_from, Settled.settled_stays}
use Rattle.event_timing.proofs.Standing.{moves_lives}
use Rattle.timing_bridge.proofs.History.{plan_is_design, run_is_history}
use Rattle.depth_order.proofs.{First.IsFirst, First.first_among, First.verdict_first, Plans.depths_fit}
use Rattle.depth_order.proofs.Ahead.{with_start, HasMore, NoQueries, all_reached}
use Rattle.event_timing.specs.Histories as counted

-- ---- no request is a query

-- what holds of each element and of what stands past the end holds at each place
all_at : {X : Type 0} (P : X → Type 0) (xs : List X) (k : ℕ) (d : X) → All P xs → P d → P (get_or xs k d)
all_at P xs k d h e = elim (cases_lt k (length xs)) [
  | inl l ↦ h k d l
  | inr l ↦ subst P (sym (get_or_past xs k d l)) e
]

no_queries_there : (p : Plan) → AsksNothing p → (m n : ℕ) → All (λ t. is_query t.op ≡ false) (block_at (module_at p m) n).ops
no_queries_there p none m n =
    let nothing : All (λ t. is_query t.op ≡ false) no_block.ops = λ k d l. absurd (omega arith) in
    all_at (λ (b : Block). All (λ t. is_query t.op ≡ false) b.ops) (module_at p m).blocks n no_block
    (all_at (λ (x : Module). All (λ b. All (λ t. is_query t.op ≡ false) b.ops) x.blocks) p.design.modules m no_module none
    (λ k d l. absurd (omega arith))) nothing

tail_of : {X : Type 0} (P : X → Type 0) (x : X) (xs : List X) → All P (x ∷ xs) → All P xs
tail_of P x xs h k d l = h (suc k) d (omega arith)

count_none : (ts : List Timed) → All (λ t. is_query t.op ≡ false) ts → count_by (λ t. is_query t.op) ts ≡ 0
count_none [] h = refl
count_none (t ∷ ts) h =
    let first : is_query t.op ≡ false = h 0 t (omega arith) in
    rw first (count_none ts (tail_of (λ (t : Timed). is_query t.op ≡ false) t ts h))

-- a request that is a query is counted
counted_query : (blocks : Bool) (n : ℕ) → cond (not blocks) 1 0 + n ≤ 0 → (blocks ≡ true) × (n ≤ 0)
counted_query true n h = (refl, omega arith)
counted_query false n h = absurd (omega arith)

all_block : (rs : List Request) → count_by (λ r. not (is_blocking r.kind)) rs ≤ 0 → Each (λ a. a.blocks ≡ true) (map seen_request rs)
all_block [] h = tt
all_block (r ∷ rs) h =
    let more = sum_by-cons (λ r. cond (not (is_blocking r.kind)) 1 0) r rs in
    let (first, rest) = counted_query (is_blocking r.kind) (count_by (λ r. not (is_blocking r.kind)) rs) (omega arith) in
    (first, all_block rs rest)

pub no_queries : (p : Plan) → FitsEngine p → AsksNothing p → NoQueries (design p)
no_queries p h none m s =
    let few = asks_once p (keeps_ports p h) m s in
    let no = count_none (block_of (module_at p m) s).ops (no_queries_there p none m s.control.block) in
    all_block (requests_of p (m, s)) (omega arith)

-- ---- the same design with other depths

same_lag : (p : Plan) (ds : List ℕ) (side : Side) (f : ℕ) → lag_in (with_depths p ds) side f ≡ lag_in p side f
same_lag p ds Pop f = refl
same_lag p ds Push f = refl

pub same_design : (p : Plan) (ds : List ℕ) → design (with_depths p ds) ≡ with_start (design p) (start_in (with_depths p ds))
unfolding moment opening owner quiet quiet_below measure
same_design p ds = λ i. record (with_start (design p) (start_in (with_depths p ds))) { lag = λ side f. same_lag p ds side f i }

pub same_elements : (p : Plan) (ds : List ℕ) (f : ℕ) → start_in (with_depths p ds) Pop f ≡ start_in p Pop f
unfolding moment opening
same_elements p ds f = refl

-- ---- who has ended stays ended

pub over_of : (limit : ℕ) (s : ModuleState) → s.ended ≡ true → is_over limit s ≡ true
unfolding is_over
over_of limit s e = rw e refl

pub over_stays : (p : Plan) → FitsEngine p → (m c n : ℕ) → (state_at p c m).ended ≡ true → (state_at p (n + c) m).ended ≡ true
over_stays p h m c zero e = let at : 0 + c ≡ c = omega arith in rw at e
over_stays p h m c (suc n) e =
    let before = over_stays p h m c n e in
    let at : suc n + c ≡ suc (n + c) = omega arith in
    let d = design p in
    let w = lockstep_run p in
    let over = over_of p.ops (state_at p (n + c) m) before in
    rw at (elim (cases_Bool (counted.can_move d w (n + c) m)) [
      | inl e ↦ let lives = moves_lives d w (n + c) m e in absurd (cc)
      | inr e ↦ ap (λ (s : ModuleState). s.ended) ((run_is_history p h).state_stays (n + c) m e) ∙ before
    ])

-- ---- done

-- each module is ended in this clock
abbrev pub AreEnded : Plan → ℕ → Type 0
AreEnded p c = (m : ℕ) → (state_at p c m).ended ≡ true

ended_each : (ss : List ModuleState) → list_all (λ s. s.ended) ss ≡ true → (m : ℕ) → (get_or ss m nobody).ended ≡ true
ended_each [] h m = refl
ended_each (s ∷ ss) h zero = (and_parts s.ended (list_all (λ s. s.ended) ss) h).0
ended_each (s ∷ ss) h (suc m) = ended_each ss (and_parts s.ended (list_all (λ s. s.ended) ss) h).1 m

ended_all : (ss : List ModuleState) → ((m : ℕ) → (get_or ss m nobody).ended ≡ true) → list_all (λ s. s.ended) ss ≡ true
ended_all [] h = refl
ended_all (s ∷ ss) h = and_from s.ended (list_all (λ s. s.ended) ss) (h 0) (ended_all ss (λ m. h (suc m)))

none_moves : (p : Plan) (c n : ℕ) (contents : List (List Element)) (ss : List ModuleState) → list_all (λ s. s.ended) ss ≡ true
    → list_any (moves p c contents) (enumerate_from n ss) ≡ false
unfolding moves
none_moves p c n contents [] h = refl
none_moves p c n contents (s ∷ ss) h =
    let parts = and_parts s.ended (list_all (λ s. s.ended) ss) h in
    let over = over_of p.ops s parts.0 in
    or_from _ _ (rw over refl) (none_moves p c (n + 1) contents ss parts.1)

pub ended_settled : (p : Plan) (c : ℕ) → AreEnded p c → is_settled p c (state p c) ≡ true
ended_settled p c h =
    settled_from p c (state p c) (none_moves p c 0 (all_ready (state p c).contents) (state p c).modules (ended_all (state p c).modules h))

-- the verdict of a settled clock is done where all are ended, and only there
done_means : (p : Plan) (c clock : ℕ) (st : ClockState) → settled_verdict p c st ≡ Done clock
    → (c ≡ clock) × (list_all (λ s. s.ended) st.modules ≡ true)
done_means p c clock st h = by_tests (list_all (λ s. s.ended) st.modules) (list_any (is_spent p.ops) st.modules) h
  where
    by_tests : (a b : Bool) → cond a (Done c) (cond b (Ops c) (Deadlock c)) ≡ Done clock → (c ≡ clock) × (a ≡ true)
    by_tests true b e = (cc, refl)
    by_tests false true e = absurd (cc)
    by_tests false false e = absurd (cc)

pub done_ended : (p : Plan) (clock : ℕ) → verdict p ≡ Done clock → (clock ≤ p.cycles) × AreEnded p clock
done_ended p clock h = by_first (first_among p (suc p.cycles))
  where
    by_first : ((c : ℕ) × IsFirst p (suc p.cycles) c) ⊎ NoneBefore p (suc p.cycles) → (clock ≤ p.cycles) × AreEnded p clock
    by_first (inl (c, f)) =
        let (at, all) = done_means p c clock (state p c) (sym (verdict_first p c f) ∙ h) in
        let within = f.within in
        (omega arith, subst (AreEnded p) at (ended_each (state p c).modules all))
    by_first (inr none) = let no = sym (verdict_none p none) ∙ h in absurd (cc)

-- the clock of an end is the first settled one
pub done_none_before : (p : Plan) (clock : ℕ) → verdict p ≡ Done clock → NoneBefore p clock
done_none_before p clock h = by_first (first_among p (suc p.cycles))
  where
    by_first : ((c : ℕ) × IsFirst p (suc p.cycles) c) ⊎ NoneBefore p (suc p.cycles) → NoneBefore p clock
    by_first (inl (c, f)) =
        let (at, all) = done_means p c clock (state p c) (sym (verdict_first p c f) ∙ h) in
        subst (NoneBefore p) at f.none
    by_first (inr none) = let no = sym (verdict_none p none) ∙ h in absurd (cc)

ended_done : (p : Plan) (clock : ℕ) → clock ≤ p.cycles → AreEnded p clock → IsDoneBy clock (verdict p)
ended_done p clock l h = by_first (first_among p (suc p.cycles))
  where
    by_first : ((c : ℕ) × IsFirst p (suc p.cycles) c) ⊎ NoneBefore p (suc p.cycles) → IsDoneBy clock (verdict p)
    by_first (inl (c, f)) = elim (cases_lt clock c) [
      | inl before ↦ let no = f.none clock before in let yes = ended_settled p clock h in absurd (cc)
      | inr later ↦
          let at : (clock - c) + c ≡ clock = omega arith in
          let stays = settled_stays p c (clock - c) f.settled in
          let same = rw at at stays in
          let all : list_all (λ s. s.ended) (state p c).modules ≡ true =
          subst (λ (st : ClockState). list_all (λ s. s.ended) st.modules ≡ true) same (ended_all (state p clock).modules h) in
          subst (IsDoneBy clock) (sym (verdict_first p c f)) (rw all later)
    ]
    by_first (inr none) = let no = none clock (omega arith) in let yes = ended_settled p clock h in absurd (cc)

-- ---- greater depths

more_places : (p : Plan) (ds : List ℕ) → ((f : ℕ) → slice_index p.depths f ≤ slice_index ds f)
    → HasMore (design p) (start_in (with_depths p ds))
more_places p ds more = record { elements = same_elements p ds; places = more }

ended_with_more : (p : Plan) → FitsEngine p → AsksNothing p → (ds : List ℕ) → FitsEngine (with_depths p ds)
    → ((f : ℕ) → slice_index p.depths f ≤ slice_index ds f) → (clock : ℕ) → AreEnded p clock → AreEnded (with_depths p ds) clock
ended_with_more p h none ds fits more clock ended m =
    let q = with_depths p ds in
    let d = design p in
    let start = start_in q in
    let same = same_design p ds in
    let is = subst (λ (x : Design ModuleState). IsDesign x) same (plan_is_design q fits) in
    let hist = subst (λ (x : Design ModuleState). IsHistory x (lockstep_run q)) same (run_is_history q fits) in
    let at = all_reached d start (lockstep_run p) (lockstep_run q) (plan_is_design p h) is (more_places p ds more) (no_queries p h none)
    (run_is_history p h) hist clock clock (omega arith) m in
    let early = at.early in
    let there : (clock - at.clock) + at.clock ≡ clock = omega arith in
    let then : (state_at q at.clock m).ended ≡ true = ap (λ (s : ModuleState). s.ended) at.alike.state ∙ ended m in
    subst (λ (c : ℕ). (state_at q c m).ended ≡ true) there (over_stays q fits m at.clock (clock - at.clock) then)

-- at each channel, since what is no FIFO has no depth
deeper_all : (p : Plan) (ds es : List ℕ) → AreDepths p ds → AreDepths p es → AreDeeper p ds es → (f : ℕ)
    → slice_index ds f ≤ slice_index es f
deeper_all p ds es a b more f = elim (cases_Bool (is_fifo (kind_at p f))) [
  | inl e ↦ more f e
  | inr e ↦ let none = a.others f e in omega arith
]

pub never_slower : (p : Plan) → FitsEngine p → AsksNothing p → (ds es : List ℕ) → AreDepths p ds → AreDepths p es → AreDeeper p ds es
    → IsNoSlower p ds es
never_slower p h none ds es a b more clock e =
    let narrow = with_depths p ds in
    let (within, ended) = done_ended narrow clock e in
    ended_done (with_depths p es) clock within
    (ended_with_more narrow (depths_fit p h ds a) none es (depths_fit p h es b) (deeper_all p ds es a b more) clock ended)
