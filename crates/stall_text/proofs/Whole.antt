-- The whole text, and the lines of a module and of a FIFO.
use Rattle.std.proofs.Common.{◌≡◌, ℕ, ◌+◌, ◌<◌, ◌≤◌, Bool, true, false, Option, Some, None, cond, is_some, List, [], ◌++◌, refl, sym, ap}
use Rattle.std.proofs.Common.{ap₂, ◌∙◌, arith, length, map, get_or, append_assoc, subst}
use Rattle.std.specs.Prelude.{codes, IfOk, IfSome, Result, Ok, Err}
use Rattle.std.specs.List.{flat_map, range_with_len}
use Rattle.stall_text.specs.{Side, Kind, is_blocking, Plan, Verdict, delay_at, is_fifo, kind_at, FitsEngine, Token, verdict, line}
use Rattle.stall_text.specs.{text_of_lines, verdict_tokens, module_name, channel_name, fifos, last_clock, moved_clocks, still_clocks}
use Rattle.stall_text.specs.{still_clocks_at, most_ahead, ahead_clocks, ArePortClocks, causes_by, empty_by, IsFilling, poll_lines}
use Rattle.stall_text.specs.{polls_lines, tries_of, module_tokens, cause_lines, at_each_side, causes_of, ports_of, clock_lines}
use Rattle.stall_text.specs.{module_lines, fifo_line, stalls_text, ArePollsOf, HavePolls, all_queries, polled_so_far, polling_lines}
use Rattle.stall_text.specs.{declared.fifos.Filling.Filling, declared.polls.Polls.Polls}
use Rattle.flow_word.specs.declared.access.Side.TheVariants.{Pop, Push}
use Rattle.flow_word.specs.declared.access.Kind.TheVariants.{Read, Write, TryRead, TryWrite, Empty, Full}
use Rattle.flow_design.specs.declared.limits.TheConstants.{CYCLES}
use Rattle.report_text.proofs.LineLemmas.{text-append, numbers_more}
use Rattle.timelines.proofs.Ending.{last_within}
use Rattle.port_clocks.proofs.Filled.{peak_told}
use Rattle.stall_text.proofs.Lines.{same_sides, same_queries, two_more}
use Rattle.stall_text.proofs.{Asked.own_tries, Polled.polled_is, Fills.empty_clocks_are, Fills.full_clocks_are}

pub clock_few : (p : Plan) → FitsEngine p → (clock : ℕ) → clock ≡ last_clock p → clock ≤ CYCLES
clock_few p fits clock e = let most = fits.cycles in omega (arith, last_within p)

-- ---- a module

causes_are : (p : Plan) (i : ℕ) (empty full : List ℕ)
    → ((f : ℕ) → f < length p.design.channels → get_or empty f 0 ≡ still_clocks_at p i Pop f)
    → ((f : ℕ) → f < length p.design.channels → get_or full f 0 ≡ still_clocks_at p i Push f)
    → (f : ℕ) → f < length p.design.channels → (side : Side) → causes_by p.design i empty full f side ≡ causes_of p i f side
causes_are p i empty full a b f l Pop = ap (cause_lines (module_name p.design i) (channel_name p.design f) Pop) (a f l)
causes_are p i empty full a b f l Push = ap (cause_lines (module_name p.design i) (channel_name p.design f) Push) (b f l)

pub module_text : (p : Plan) (i moved still : ℕ) (empty full text t u : List ℕ)
    → ((f : ℕ) → f < length p.design.channels → get_or empty f 0 ≡ still_clocks_at p i Pop f)
    → ((f : ℕ) → f < length p.design.channels → get_or full f 0 ≡ still_clocks_at p i Push f)
    → moved ≡ moved_clocks p i → still ≡ still_clocks p i
    → t ≡ text ++ line (module_tokens (module_name p.design i) moved still)
    → u ≡ t ++ text_of_lines (at_each_side (length p.design.channels) (causes_by p.design i empty full))
    → u ≡ text ++ text_of_lines (clock_lines p i)
module_text p i moved still empty full text t u a b m s q r =
    let causes = text_of_lines (at_each_side (length p.design.channels) (causes_of p i)) in
    r
    ∙ (ap₂ (λ (x : List ℕ) (ls : List (List Token)). x ++ text_of_lines ls)
    (q ∙ ap₂ (λ (x y : ℕ). text ++ line (module_tokens (module_name p.design i) x y)) m s)
    (same_sides (length p.design.channels) (causes_by p.design i empty full) (causes_of p i) (causes_are p i empty full a b))
    ∙ append_assoc text (line (module_tokens (module_name p.design i) (moved_clocks p i) (still_clocks p i))) causes)

-- the lines of how a module polls
polling_is : (p : Plan) → FitsEngine p → (i : ℕ) → i < length p.design.modules → (polls : Option Polls) → ArePollsOf p polls
    → polling_lines p.design i polls ≡ cond (is_some polls) (poll_lines p i) []
polling_is p fits i l None h = refl
polling_is p fits i l (Some polls) h =
    let clocks = ap polled_so_far (h.0.each i l) ∙ polled_is p i in
    ap₂ (λ (n : ℕ) (ls : List (List Token)). polls_lines (module_name p.design i) n ++ ls) clocks
    (same_queries (length p.design.channels) (all_queries p.design i polls.queries) (tries_of p i) by_kind)
  where
    by_kind : (f : ℕ) → f < length p.design.channels → (kind : Kind) → is_blocking kind ≡ false
        → all_queries p.design i polls.queries f kind ≡ tries_of p i f kind
    by_kind f m TryRead e = own_tries p fits i f TryRead polls.queries.tryreads m h.1.tryreads
    by_kind f m TryWrite e = own_tries p fits i f TryWrite polls.queries.trywrites m h.1.trywrites
    by_kind f m Empty e = own_tries p fits i f Empty polls.queries.empties m h.1.empties
    by_kind f m Full e = own_tries p fits i f Full polls.queries.fulls m h.1.fulls
    by_kind f m Read e = absurd cc
    by_kind f m Write e = absurd cc

pub module_more : (p : Plan) → FitsEngine p → (i : ℕ) → i < length p.design.modules → (polls : Option Polls) → ArePollsOf p polls
    → (first text t u v : List ℕ) → text ≡ first ++ text_of_lines (flat_map (module_lines (is_some polls) p) (range_with_len 0 i))
    → t ≡ text ++ text_of_lines (clock_lines p i)
    → u ≡ t ++ text_of_lines (at_each_side (length p.design.channels) (ports_of p i))
    → v ≡ u ++ text_of_lines (polling_lines p.design i polls)
    → v ≡ first ++ text_of_lines (flat_map (module_lines (is_some polls) p) (range_with_len 0 (i + 1)))
module_more p fits i l polls y first text t u v e q r s =
    let ports = at_each_side (length p.design.channels) (ports_of p i) in
    let polled = s ∙ ap (λ (ls : List (List Token)). u ++ text_of_lines ls) (polling_is p fits i l polls y) in
    numbers_more (module_lines (is_some polls) p) i first text v e
    (two_more text u v (clock_lines p i ++ ports) (cond (is_some polls) (poll_lines p i) [])
    (two_more text t u (clock_lines p i) ports q r) polled)

-- ---- a FIFO

pub filling_is : (p : Plan) → FitsEngine p → (f : ℕ) → f < length p.design.channels → is_fifo (kind_at p f) ≡ true → (clock : ℕ)
    → clock ≡ last_clock p → (pops pushes : List ℕ) → ArePortClocks p (record { side = Pop; channel = f }) pops
    → ArePortClocks p (record { side = Push; channel = f }) pushes → (filling : Filling) → filling.most ≡ most_ahead pushes pops clock
    → filling.empty ≡ empty_by (delay_at p f) clock pops pushes
    → filling.full ≡ ahead_clocks (get_or p.depths f 0) pushes pops clock → IsFilling p f filling
filling_is p fits f l fifo clock last pops pushes h k filling a b c = record {
  most = a ∙ (ap (most_ahead pushes pops) last ∙ sym (peak_told p fits f l fifo pops pushes h k));
  empty = b ∙ (ap (λ (n : ℕ). empty_by (delay_at p f) n pops pushes) last ∙ sym (empty_clocks_are p fits f l fifo pops pushes h k));
  full = c ∙ (ap (ahead_clocks (get_or p.depths f 0) pushes pops) last ∙ sym (full_clocks_are p fits f l fifo pops pushes h k));
}

pub filling_told : {E : Type 0} (p : Plan) → FitsEngine p → (f : ℕ) → f < length p.design.channels → is_fifo (kind_at p f) ≡ true
    → (clock depth delay : ℕ) → clock ≡ last_clock p → depth ≡ get_or p.depths f 0 → delay ≡ delay_at p f → (pops pushes : List ℕ)
    → ArePortClocks p (record { side = Pop; channel = f }) pops → ArePortClocks p (record { side = Push; channel = f }) pushes
    → (r : Result Filling E) → IfOk r (λ filling. filling.most ≡ most_ahead pushes pops clock)
    → IfOk r (λ filling. filling.empty ≡ empty_by delay clock pops pushes)
    → IfOk r (λ filling. filling.full ≡ ahead_clocks depth pushes pops clock) → IfOk r (IsFilling p f)
filling_told p fits f l fifo clock depth delay last d w pops pushes h k (Ok filling) a b c =
    filling_is p fits f l fifo clock last pops pushes h k filling a (b ∙ ap (λ (n : ℕ). empty_by n clock pops pushes) w)
    (c ∙ ap (λ (n : ℕ). ahead_clocks n pushes pops clock) d)
filling_told p fits f l fifo clock depth delay last d w pops pushes h k (Err e) a b c = tt

-- ---- all of them

pub whole_text : (p : Plan) (polls : Bool) (v : Verdict) (t u w x : List ℕ) → v ≡ verdict p → t ≡ codes "stalls\n"
    → u ≡ t ++ line (verdict_tokens v)
    → w ≡ u ++ text_of_lines (flat_map (module_lines polls p) (range_with_len 0 (length p.design.modules)))
    → x ≡ w ++ text_of_lines (map (fifo_line p) (fifos p)) → x ≡ stalls_text polls p
unfolding stalls_text
whole_text p polls v t u w x vs a b c d =
    let ms = flat_map (module_lines polls p) (range_with_len 0 (length p.design.modules)) in
    let fs = map (fifo_line p) (fifos p) in
    let first = codes "stalls\n" in
    let second = line (verdict_tokens (verdict p)) in
    let start : u ≡ first ++ second = b ∙ ap₂ (λ (y : List ℕ) (z : Verdict). y ++ line (verdict_tokens z)) a vs in
    d
    ∙ (ap (λ (y : List ℕ). y ++ text_of_lines fs) (c ∙ ap (λ (y : List ℕ). y ++ text_of_lines ms) start)
    ∙ (append_assoc (first ++ second) (text_of_lines ms) (text_of_lines fs)
    ∙ (append_assoc first second (text_of_lines ms ++ text_of_lines fs)
    ∙ ap (λ (l : List ℕ). first ++ (second ++ l)) (sym (text-append ms fs)))))

-- ---- how modules poll

pub have_polls : (p q : Plan) (polls : Option Polls) → ArePollsOf p polls → q ≡ p → IfSome polls (HavePolls q.design)
have_polls p q None h e = tt
have_polls p q (Some polls) h e =
    subst (λ (r : Plan). HavePolls r.design polls) (sym e) (record {
      modules = h.0.count;
      channels = record {
        tryreads = h.1.tryreads.count;
        trywrites = h.1.trywrites.count;
        empties = h.1.empties.count;
        fulls = h.1.fulls.count;
      };
      few = h.0.few;
    })
