-- The last clock in which a module moves.
use Rattle.std.proofs.Common.{◌≡◌, ◌≢◌, ℕ, zero, suc, ◌+◌, ◌-◌, ◌<◌, ◌≤◌, Bool, true, false, cond, Option, Some, None, List, [], ◌∷◌}
use Rattle.std.proofs.Common.{length, get_or, refl, sym, ◌∙◌, ap, ap₂, subst, arith, inl, inr, ◌⊎◌}
use Rattle.std.proofs.lemmas.Bool.{cases_Bool, cases_lt, cases_eq, le-leb, lt-leb}
use Rattle.std.proofs.lemmas.List.{get_or_default}
use Rattle.std.specs.{Prelude.find, Prelude.fold, List.range_with_len}
use Rattle.path_text.specs.{Plan, Doing, Span, EndsBefore, AreSpansBelow, moves_at, first_mover, At, last_move, move_by, end_by, end_with}
use Rattle.path_text.specs.{moving_end, HasSpans, IsLastMove, last_with}
use Rattle.timelines.specs.declared.span.Doing.TheVariants.{Moves, Still}
use Rattle.timelines.proofs.{Lists.Member, Lists.Rising, Lists.all_of, Lists.contains_member, Extending.Listed, Extending.spans_listed}
use Rattle.depth_order.proofs.Chained.{find_any, none_among}
use Rattle.path_text.proofs.{Doings.doing_moves, Doings.moves_doing, Doings.mover_inside, Covered.covered}

-- ---- the last of the spans in which the module moves

-- the last moving span among these, or none, and then what stood before
abbrev EndsWith : List Span → Option ℕ → Option ℕ → Type 0
EndsWith ss before end =
    ((s : Span) × Member ss s × (s.doing ≡ Moves) × (end ≡ Some s.until) × ((t : Span) → Member ss t → t.doing ≡ Moves → t.until ≤ s.until))
    ⊎ ((end ≡ before) × ((t : Span) → Member ss t → t.doing ≢ Moves))

ends_with : (ss : List Span) → Rising ss → ((t : Span) → Member ss t → t.first < t.until) → (before : Option ℕ)
    → EndsWith ss before (fold end_with before ss)
ends_with [] rising some before = inr (refl, λ t m. absurd m)
ends_with (s ∷ ss) rising some before = later (ends_with ss rising.1 (λ t m. some t (inr m)) (end_with before s))
  where
    by_doing : (d : Doing) → s.doing ≡ d → (end : Option ℕ) → end ≡ end_by before s.until d → ((t : Span) → Member ss t → t.doing ≢ Moves)
        → EndsWith (s ∷ ss) before end
    by_doing Moves says end e none = inl (
      s,
      inl refl,
      says,
      e,
      λ t m moving. elim m [
        | inl same ↦ let until = ap (λ (u : Span). u.until) same in omega arith
        | inr rest ↦ absurd (none t rest moving)
      ],
    )
    by_doing (Still a) says end e none = inr (
      e,
      λ t m moving. elim m [
        | inl same ↦ let moves = sym says ∙ (ap (λ (u : Span). u.doing) same ∙ moving) in absurd (cc)
        | inr rest ↦ none t rest moving
      ],
    )

    later : EndsWith ss (end_with before s) (fold end_with (end_with before s) ss)
        → EndsWith (s ∷ ss) before (fold end_with (end_with before s) ss)
    later (inl (x, m, says, e, most)) = inl (
      x,
      inr m,
      says,
      e,
      λ t n moving. elim n [
        | inl same ↦
            let until = ap (λ (u : Span). u.until) same in
            let before = all_of (EndsBefore s) ss rising.0 x m in
            let len = some x (inr m) in
            omega arith
        | inr rest ↦ most t rest moving
      ],
    )
    later (inr (e, none)) = by_doing s.doing refl (fold end_with (end_with before s) ss) e none

-- the clock after the last in which module m moves, below the end
pub record IsEndOf (p : Plan) (m end until : ℕ) : Type 0 where
  pub some : 0 < until
  pub within : until ≤ end
  pub moves : moves_at p (until - 1) m ≡ true
  pub after : (c : ℕ) → until ≤ c → c < end → moves_at p c m ≡ false

abbrev pub IsMovingEnd : Plan → ℕ → ℕ → Option ℕ → Type 0
IsMovingEnd p m end None = (c : ℕ) → c < end → moves_at p c m ≡ false
IsMovingEnd p m end (Some until) = IsEndOf p m end until

-- where each clock of a moving span is below this one
no_move_after : (p : Plan) (m end : ℕ) (spans : List Span) → AreSpansBelow p m end spans → (until : ℕ)
    → ((t : Span) → Member spans t → t.doing ≡ Moves → t.until ≤ until) → (c : ℕ) → until ≤ c → c < end → moves_at p c m ≡ false
no_move_after p m end spans a until most c l k = elim (cases_Bool (moves_at p c m)) [
  | inr still ↦ still
  | inl move ↦
      let x = covered p m end spans a c Moves k (moves_doing p c m move) in
      let bound = most x.span (contains_member spans x.span x.there) x.doing in
      let later = x.until in
      absurd (omega arith)
]

pub moving_end_is : (p : Plan) (m end : ℕ) (spans : List Span) → AreSpansBelow p m end spans → IsMovingEnd p m end (moving_end spans)
moving_end_is p m end spans a = by_ends (moving_end spans) (ends_with spans listed.rising (λ t n. (listed.are t n).some) None)
  where
    listed : Listed p m end spans
    listed = spans_listed p m end spans a

    by_ends : (e : Option ℕ) → EndsWith spans None e → IsMovingEnd p m end e
    by_ends e (inl (s, n, says, is, most)) =
        let one = listed.are s n in
        let some = one.some in
        subst (IsMovingEnd p m end) (sym is) (record {
          some = omega arith;
          within = one.below;
          moves = doing_moves p (s.until - 1) m (one.throughout (s.until - 1) (omega arith) (omega arith) ∙ ap Some says);
          after = no_move_after p m end spans a s.until most;
        })
    by_ends e (inr (is, none)) =
        subst (IsMovingEnd p m end) (sym is) (λ c l. no_move_after p m end spans a 0 (λ t n moving. absurd (none t n moving)) c
        (omega arith) l)

-- ---- module after module

pub last_more : (p : Plan) (end n : ℕ) (o : Option At) (e : Option ℕ) → IsLastMove p end n o → IsMovingEnd p n end e
    → IsLastMove p end (suc n) (last_with o n e)
last_more p end n None None all h = λ m c l k. elim (cases_eq m n) [
  | inl at ↦ rw at (h c k)
  | inr other ↦ all m c (omega arith) k
]
last_more p end n None (Some until) all h =
    let some = h.some in
    let within = h.within in
    record {
      within = omega arith;
      below = omega arith;
      moves = h.moves;
      none_later = λ m c l a b. elim (cases_eq m n) [
        | inl at ↦ rw at (h.after c (omega arith) b)
        | inr other ↦ all m c (omega arith) b
      ];
      none_before = λ m l. all m (until - 1) l (omega arith);
    }
last_more p end n (Some at) None all h =
    let within = all.within in
    record {
      within = omega arith;
      below = all.below;
      moves = all.moves;
      none_later = λ m c l a b. elim (cases_eq m n) [
        | inl same ↦ rw same (h c b)
        | inr other ↦ all.none_later m c (omega arith) a b
      ];
      none_before = all.none_before;
    }
last_more p end n (Some at) (Some until) all h =
    let some = h.some in
    let below = h.within in
    let within = all.within in
    elim (cases_lt at.clock (until - 1)) [
      | inr early ↦ rw (le-leb (until - 1) at.clock early) (record {
        within = omega arith;
        below = all.below;
        moves = all.moves;
        none_later = λ m c l a b. elim (cases_eq m n) [
          | inl same ↦ rw same (h.after c (omega arith) b)
          | inr other ↦ all.none_later m c (omega arith) a b
        ];
        none_before = all.none_before;
      })
      | inl late ↦ rw (lt-leb (until - 1) at.clock late) (record {
        within = omega arith;
        below = omega arith;
        moves = h.moves;
        none_later = λ m c l a b. elim (cases_eq m n) [
          | inl same ↦ rw same (h.after c (omega arith) b)
          | inr other ↦ all.none_later m c (omega arith) (omega arith) b
        ];
        none_before = λ m l. all.none_later m (until - 1) l late (omega arith);
      })
    ]

-- ---- where the chain begins

-- the first number in a range that passes
record IsFirstOf (P : ℕ → Bool) (a n m : ℕ) : Type 0 where
  pub from : a ≤ m
  pub within : m < a + n
  pub passes : P m ≡ true
  pub none : (k : ℕ) → a ≤ k → k < m → P k ≡ false

first_of : (P : ℕ → Bool) (a n m : ℕ) → find P (range_with_len a n) ≡ Some m → IsFirstOf P a n m
first_of P a zero m e = absurd (cc)
first_of P a (suc n) m e = by_test (P a) refl (first_of P (a + 1) n m) e
  where
    by_test : (b : Bool) → P a ≡ b → (find P (range_with_len (a + 1) n) ≡ Some m → IsFirstOf P (a + 1) n m)
        → cond b (Some a) (find P (range_with_len (a + 1) n)) ≡ Some m → IsFirstOf P a (suc n) m
    by_test true at rest e =
        let same : a ≡ m = cc in
        record {
          from = omega arith;
          within = omega arith;
          passes = ap P (sym same) ∙ at;
          none = λ k l b. absurd (omega arith);
        }
    by_test false at rest e =
        let x = rest e in
        let from = x.from in
        let within = x.within in
        record {
          from = omega arith;
          within = omega arith;
          passes = x.passes;
          none = λ k l b. elim (cases_eq k a) [ inl same ↦ rw same at | inr other ↦ x.none k (omega arith) b ];
        }

nobody_in : (p : Plan) (c m : ℕ) → first_mover p c ≡ None → m < length p.design.modules → moves_at p c m ≡ false
nobody_in p c m e l =
    let at : 0 + m ≡ m = omega arith in
    subst (λ (k : ℕ). moves_at p c k ≡ false) at
    (none_among (moves_at p c) 0 (length p.design.modules) (find_any (moves_at p c) (range_with_len 0 (length p.design.modules)) e) m l)

last_more_move : (p : Plan) (c : ℕ) → last_move p (suc c) ≡ move_by c (first_mover p c) (last_move p c)
unfolding last_move
last_more_move p c = refl

no_last_move : (p : Plan) → last_move p zero ≡ None
unfolding last_move
no_last_move p = refl

pub last_is : (p : Plan) (end : ℕ) (o : Option At) → IsLastMove p end (length p.design.modules) o → last_move p end ≡ o
last_is p zero None all = no_last_move p
last_is p zero (Some at) all = let below = all.below in absurd (omega arith)
last_is p (suc c) o all = last_more_move p c ∙ by_mover (first_mover p c) refl o all (last_is p c)
  where
    by_module : (m : ℕ) → first_mover p c ≡ Some m → (at : At) → IsLastMove p (suc c) (length p.design.modules) (Some at)
        → (m < at.module) ⊎ (at.module ≤ m) → (at.module < m) ⊎ (m ≤ at.module) → at.clock ≡ c
        → Some (record { «module» = m; clock = c }) ≡ Some at
    by_module m e at all (inl l) k same =
        let x = first_of (moves_at p c) 0 (length p.design.modules) m e in
        let nobody = rw same at (all.none_before m l) in
        let moves = x.passes in
        absurd (cc)
    by_module m e at all (inr l) (inl k) same =
        let x = first_of (moves_at p c) 0 (length p.design.modules) m e in
        let nobody = x.none at.module (omega arith) k in
        let moves = rw same at all.moves in
        absurd (cc)
    by_module m e at all (inr l) (inr k) same =
        let one : m ≡ at.module = omega arith in
        ap₂ (λ (k b : ℕ). Some (record { «module» = k; clock = b })) one (sym same)

    by_mover : (f : Option ℕ) → first_mover p c ≡ f → (o : Option At) → IsLastMove p (suc c) (length p.design.modules) o
        → ((o : Option At) → IsLastMove p c (length p.design.modules) o → last_move p c ≡ o)
        → move_by c f (last_move p c) ≡ o
    by_mover None e None all rest = rest None (λ m k l b. all m k l (omega arith))
    by_mover None e (Some at) all rest =
        let below = all.below in
        elim (cases_eq at.clock c) [
          | inl same ↦
              let nobody = nobody_in p c at.module e all.within in
              let moves = rw same at all.moves in
              absurd (cc)
          | inr other ↦ rest (Some at) (record {
            within = all.within;
            below = omega arith;
            moves = all.moves;
            none_later = λ m k l a b. all.none_later m k l a (omega arith);
            none_before = all.none_before;
          })
        ]
    by_mover (Some m) e None all rest =
        let x = first_of (moves_at p c) 0 (length p.design.modules) m e in
        let nobody = all m c (mover_inside p c m x.passes) (omega arith) in
        let moves = x.passes in
        absurd (cc)
    by_mover (Some m) e (Some at) all rest =
        let x = first_of (moves_at p c) 0 (length p.design.modules) m e in
        let below = all.below in
        elim (cases_lt at.clock c) [
          | inl early ↦
              let nobody = all.none_later m c (mover_inside p c m x.passes) early (omega arith) in
              let moves = x.passes in
              absurd (cc)
          | inr late ↦
              let same : at.clock ≡ c = omega arith in
              by_module m e at all (cases_lt m at.module) (cases_lt at.module m) same
        ]

-- ---- with the spans of one module more

pub last_by_spans : (p : Plan) (end n : ℕ) (spans : List (List Span)) (found slice : List Span) (o new : Option At) (e : Option ℕ)
    → HasSpans p end spans → IsLastMove p end n o → n < length spans → found ≡ get_or spans n found → slice ≡ found
    → e ≡ moving_end slice → new ≡ last_with o n e → IsLastMove p end (n + 1) new
last_by_spans p end n spans found slice o new e h all l there same is next =
    let at : found ≡ get_or spans n [] = there ∙ get_or_default spans n found [] l in
    let one = moving_end_is p n end (get_or spans n []) (h.each n l) in
    let ends : IsMovingEnd p n end e = subst (IsMovingEnd p n end) (sym (is ∙ ap moving_end (same ∙ at))) one in
    let more : suc n ≡ n + 1 = omega arith in
    subst (λ (k : ℕ). IsLastMove p end k new) more (subst (IsLastMove p end (suc n)) (sym next) (last_more p end n o e all ends))
