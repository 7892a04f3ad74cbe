-- A link of the chain, by the spans of its module.
use Rattle.std.proofs.Common.{◌≡◌, ℕ, zero, suc, ◌+◌, ◌-◌, ◌<◌, ◌≤◌, true, false, Option, Some, None, List, get_or, refl, sym, ◌∙◌, ap}
use Rattle.std.proofs.Common.{subst, arith, inl, inr}
use Rattle.std.proofs.{lemmas.Bool.cases_Bool, lemmas.List.Elements.Contains-get_or}
use Rattle.path_text.specs.{Port, Plan, Doing, Span, doing, IsSpan, AreSpansBelow, moves_at, span_start, stood_at, AreSpansSorted, IsWith}
use Rattle.path_text.specs.{StoodBefore, link_at, stalled_port}
use Rattle.timelines.specs.declared.span.Doing.TheVariants.{Moves, Still}
use Rattle.timelines.proofs.Extending.{some_same}
use Rattle.depth_order.proofs.Chained.{IsStill, starts, start_more, start_new, start_0}
use Rattle.path_text.proofs.{Doings.doing_moves, Doings.moves_doing, Doings.doing_stands, Doings.still_before, Covered.covered}

pub spans_sorted : (p : Plan) (m end : ℕ) (spans : List Span) → AreSpansBelow p m end spans → AreSpansSorted spans
spans_sorted p m end spans a = record {
  in_order = a.in_order;
  some = λ k d l. ((a.all (get_or spans k d)).0 (Contains-get_or spans k d l)).some;
}

-- ---- the span that has a clock

pub record IsFound (p : Plan) (m end c : ℕ) (d : Doing) (o : Option Span) : Type 0 where
  pub span : Span
  pub is : o ≡ Some span
  pub one : IsSpan p m end span
  pub from : span.first ≤ c
  pub until : c < span.until
  pub says : span.doing ≡ d

pub found_span : (p : Plan) (m end : ℕ) (spans : List Span) → AreSpansBelow p m end spans → (c : ℕ) (d : Doing) → c < end
    → doing p c m ≡ Some d → (o : Option Span) → IsWith spans c o → IsFound p m end c d o
found_span p m end spans a c d l e None h =
    let x = covered p m end spans a c d l e in
    absurd (h x.span x.there x.from x.until)
found_span p m end spans a c d l e (Some s) h =
    let one = (a.all s).0 h.0 in
    record {
      span = s;
      is = refl;
      one = one;
      from = h.1;
      until = h.2;
      says = some_same s.doing d (sym (one.throughout c h.1 h.2) ∙ e);
    }

-- ---- the first clock of a span of moves

start_first : (p : Plan) (m x : ℕ) → ((k : ℕ) → k + 1 ≡ x → moves_at p k m ≡ false) → span_start p m x ≡ x
start_first p m zero h = start_0 p m
start_first p m (suc c) h = start_new p m c (h c (omega arith))

start_after : (p : Plan) (m x n t : ℕ) → t ≡ n + x → ((k : ℕ) → x ≤ k → k < t → moves_at p k m ≡ true)
    → span_start p m t ≡ span_start p m x
start_after p m x zero t e h = let at : t ≡ x = omega arith in ap (span_start p m) at
start_after p m x (suc n) t e h =
    let at : t ≡ suc (n + x) = omega arith in
    rw at (start_more p m (n + x) (h (n + x) (omega arith) (omega arith))
    ∙ start_after p m x n (n + x) refl (λ k a b. h k a (omega arith)))

pub start_is : (p : Plan) (m end : ℕ) (s : Span) → IsSpan p m end s → s.doing ≡ Moves → (t : ℕ) → s.first ≤ t → t < s.until
    → span_start p m t ≡ s.first
start_is p m end s one says t a b =
    start_after p m s.first (t - s.first) t (omega arith) (λ k x y.
    doing_moves p k m (one.throughout k x (omega arith) ∙ ap Some says))
    ∙ start_first p m s.first (λ k e. elim (cases_Bool (moves_at p k m)) [
      | inl move ↦ absurd (one.begins k e (moves_doing p k m move ∙ ap Some (sym says)))
      | inr still ↦ still
    ])

pub start_found : (p : Plan) (m end : ℕ) (spans : List Span) → AreSpansBelow p m end spans → (t : ℕ) → t < end
    → moves_at p t m ≡ true → (s : Span) → IsWith spans t (Some s) → s.first ≡ span_start p m t
start_found p m end spans a t l move s h =
    let x = found_span p m end spans a t Moves l (moves_doing p t m move) (Some s) h in
    let same : s ≡ x.span = cc in
    ap (λ (u : Span). u.first) same ∙ sym (start_is p m end x.span x.one x.says t x.from x.until)

pub start_there : (p : Plan) (m end : ℕ) (spans : List Span) → AreSpansBelow p m end spans → (t : ℕ) → t < end
    → moves_at p t m ≡ true → IsWith spans t None → ⊥
start_there p m end spans a t l move h =
    let x = found_span p m end spans a t Moves l (moves_doing p t m move) None h in
    let no_span = x.is in
    absurd (cc)

-- ---- where it stood before

pub stood_found : (p : Plan) (m end : ℕ) (spans : List Span) → AreSpansBelow p m end spans → (t : ℕ) → 0 < t → t < end
    → moves_at p t m ≡ true → (s : Span) → IsWith spans (t - 1) (Some s) → StoodBefore p m t (stalled_port s.doing)
stood_found p m end spans a zero some l move s h = absurd (omega arith)
stood_found p m end spans a (suc b) some l move s h = λ still.
    let before : suc b - 1 ≡ b = omega arith in
    let (port, e) = still_before p b m move still in
    let x = found_span p m end spans a b (Still port) (omega arith) e (Some s) (rw before at h) in
    let same : s ≡ x.span = cc in
    ap (λ (u : Span). stalled_port u.doing) same ∙ (ap stalled_port x.says ∙ sym (doing_stands p b m port e))

pub stood_there : (p : Plan) (m end : ℕ) (spans : List Span) → AreSpansBelow p m end spans → (t : ℕ) → 0 < t → t < end
    → moves_at p t m ≡ true → IsWith spans (t - 1) None → StoodBefore p m t None
stood_there p m end spans a zero some l move h = absurd (omega arith)
stood_there p m end spans a (suc b) some l move h = λ still.
    let before : suc b - 1 ≡ b = omega arith in
    let (port, e) = still_before p b m move still in
    let x = found_span p m end spans a b (Still port) (omega arith) e None (rw before at h) in
    let no_span = x.is in
    absurd (cc)

-- ---- the link

pub link_is : (p : Plan) (m end t x : ℕ) (o : Option Port) → t < end → moves_at p t m ≡ true → x ≡ span_start p m t
    → (x < end → moves_at p x m ≡ true → StoodBefore p m x o)
    → record { «module» = m; first = x; last = t; crossed = o } ≡ link_at p m t
link_is p m end t x o l move e stood =
    let start = starts p m t move in
    let within = start.within in
    let there = subst (λ (k : ℕ). moves_at p k m ≡ true) (sym e) start.moves in
    let still = subst (IsStill p m) (sym e) start.still in
    let crossed = by_start x still (stood (omega arith) there) in
    (λ i. record { «module» = m; first = e i; last = t; crossed = crossed i })
    ∙ ap (λ (k : ℕ). record { «module» = m; first = span_start p m t; last = t; crossed = stood_at p k m }) e
  where
    by_start : (x : ℕ) → IsStill p m x → StoodBefore p m x o → o ≡ stood_at p x m
    by_start zero still h = h
    by_start (suc b) still h = h still
