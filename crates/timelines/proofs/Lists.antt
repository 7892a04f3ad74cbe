-- Lists of spans in order.
use Rattle.std.proofs.Common.{◌≡◌, ℕ, zero, suc, ◌<◌, ◌≤◌, List, [], ◌∷◌, ◌++◌, refl, sym, ap, ap₂, ◌∙◌, subst, arith, ◌⊎◌, inl, inr}
use Rattle.std.proofs.lemmas.List.Elements.{All-from_recursion, recursion_from_All}
use Rattle.std.specs.List.{AllByRecursion, AllPairs, Contains}
use Rattle.timelines.specs.{Span, Doing, EndsBefore}

abbrev pub span : ℕ → ℕ → Doing → Span
span first until doing = record { first = first; until = until; doing = doing }

pub span_is : (s : Span) (f b : ℕ) (d : Doing) → s.first ≡ f → s.until ≡ b → s.doing ≡ d → span f b d ≡ s
span_is s f b d x y z = ap₂ (λ (f : ℕ) (b : ℕ). span f b d) (sym x) (sym y) ∙ ap (λ (d : Doing). span s.first s.until d) (sym z)

-- ---- members

abbrev pub Member : List Span → Span → Type 0
Member [] s = ⊥
Member (t ∷ ts) s = (t ≡ s) ⊎ Member ts s

pub member_contains : (xs : List Span) (s : Span) → Member xs s → Contains xs s
member_contains [] s m = absurd m
member_contains (x ∷ xs) s (inl e) = (0, omega arith, e)
member_contains (x ∷ xs) s (inr m) = let (k, l, e) = member_contains xs s m in (suc k, omega arith, e)

pub contains_member : (xs : List Span) (s : Span) → Contains xs s → Member xs s
contains_member [] s (k, l, e) = absurd (omega arith)
contains_member (x ∷ xs) s (zero, l, e) = inl e
contains_member (x ∷ xs) s (suc k, l, e) = inr (contains_member xs s (k, omega arith, e))

pub member_left : (xs ys : List Span) (s : Span) → Member xs s → Member (xs ++ ys) s
member_left [] ys s m = absurd m
member_left (x ∷ xs) ys s (inl e) = inl e
member_left (x ∷ xs) ys s (inr m) = inr (member_left xs ys s m)

pub member_last : (xs : List Span) (y s : Span) → y ≡ s → Member (xs ++ y ∷ []) s
member_last [] y s e = inl e
member_last (x ∷ xs) y s e = inr (member_last xs y s e)

pub member_cases : (xs : List Span) (y s : Span) → Member (xs ++ y ∷ []) s → Member xs s ⊎ (y ≡ s)
member_cases [] y s (inl e) = inr e
member_cases [] y s (inr m) = absurd m
member_cases (x ∷ xs) y s (inl e) = inl (inl e)
member_cases (x ∷ xs) y s (inr m) = later (member_cases xs y s m)
  where
    later : Member xs s ⊎ (y ≡ s) → Member (x ∷ xs) s ⊎ (y ≡ s)
    later (inl a) = inl (inr a)
    later (inr e) = inr e

-- ---- order

abbrev pub Rising : List Span → Type 0
Rising [] = Unit {0}
Rising (s ∷ ss) = AllByRecursion (EndsBefore s) ss × Rising ss

pub rising_pairs : (ss : List Span) → Rising ss → AllPairs EndsBefore ss
rising_pairs [] h i j d l m = absurd (omega arith)
rising_pairs (s ∷ ss) h zero zero d l m = absurd (omega arith)
rising_pairs (s ∷ ss) h zero (suc j) d l m = All-from_recursion (EndsBefore s) ss h.0 j d (omega arith)
rising_pairs (s ∷ ss) h (suc i) zero d l m = absurd (omega arith)
rising_pairs (s ∷ ss) h (suc i) (suc j) d l m = rising_pairs ss h.1 i j d (omega arith) (omega arith)

pub pairs_rising : (ss : List Span) → AllPairs EndsBefore ss → Rising ss
pairs_rising [] h = tt
pairs_rising (s ∷ ss) h = (
  recursion_from_All (EndsBefore s) ss (λ k d l. h 0 (suc k) d (omega arith) (omega arith)),
  pairs_rising ss (λ i j d l m. h (suc i) (suc j) d (omega arith) (omega arith)),
)

pub all_of : (P : Span → Type 0) (ss : List Span) → AllByRecursion P ss → (t : Span) → Member ss t → P t
all_of P [] h t m = absurd m
all_of P (s ∷ ss) h t (inl e) = subst P e h.0
all_of P (s ∷ ss) h t (inr m) = all_of P ss h.1 t m

pub all_by : (P : Span → Type 0) (ss : List Span) → ((t : Span) → Member ss t → P t) → AllByRecursion P ss
all_by P [] f = tt
all_by P (s ∷ ss) f = (f s (inl refl), all_by P ss (λ t m. f t (inr m)))

pub rising_more : (ss : List Span) (t : Span) → Rising ss → ((s : Span) → Member ss s → s.until ≤ t.first) → Rising (ss ++ t ∷ [])
rising_more [] t h f = (tt, tt)
rising_more (s ∷ ss) t h f = (
  all_by (EndsBefore s) (ss ++ t ∷ []) (λ u m. later u (member_cases ss t u m)),
  rising_more ss t h.1 (λ u m. f u (inr m)),
)
  where
    later : (u : Span) → Member ss u ⊎ (t ≡ u) → s.until ≤ u.first
    later u (inl m) = all_of (EndsBefore s) ss h.0 u m
    later u (inr e) = subst (λ (v : Span). s.until ≤ v.first) e (f s (inl refl))

pub rising_front : (ss : List Span) (t : Span) → Rising (ss ++ t ∷ []) → Rising ss
rising_front [] t h = tt
rising_front (s ∷ ss) t h =
    (all_by (EndsBefore s) ss (λ u m. all_of (EndsBefore s) (ss ++ t ∷ []) h.0 u (member_left ss (t ∷ []) u m)), rising_front ss t h.1)

pub rising_last : (ss : List Span) (t : Span) → Rising (ss ++ t ∷ []) → (s : Span) → Member ss s → s.until ≤ t.first
rising_last [] t h s m = absurd m
rising_last (x ∷ ss) t h s (inl e) =
    subst (λ (v : Span). v.until ≤ t.first) e (all_of (EndsBefore x) (ss ++ t ∷ []) h.0 t (member_last ss t t refl))
rising_last (x ∷ ss) t h s (inr m) = rising_last ss t h.1 s m

-- ---- there is one list in order with these members

pub same_spans : (xs ys : List Span) → ((s : Span) → Member xs s → s.first < s.until) → ((s : Span) → Member xs s → Member ys s)
    → ((s : Span) → Member ys s → Member xs s) → Rising xs → Rising ys → xs ≡ ys
same_spans [] [] n f g h k = refl
same_spans [] (y ∷ ys) n f g h k = absurd (g y (inl refl))
same_spans (x ∷ xs) [] n f g h k = absurd (f x (inl refl))
same_spans (x ∷ xs) (y ∷ ys) n f g h k =
    ap₂ (λ (z : Span) (zs : List Span). z ∷ zs) same
    (same_spans xs ys (λ s m. n s (inr m)) (λ s m. out s m (f s (inr m))) (λ s m. back s m (g s (inr m))) h.1 k.1)
  where
    heads : (x ≡ y) ⊎ Member xs y → (y ≡ x) ⊎ Member ys x → x ≡ y
    heads (inl e) b = e
    heads (inr a) (inl e) = sym e
    heads (inr a) (inr b) =
        absurd (omega (
          arith,
          all_of (EndsBefore x) xs h.0 y a,
          all_of (EndsBefore y) ys k.0 x b,
          n x (inl refl),
          n y (inr a),
        ))

    same : x ≡ y
    same = heads (g y (inl refl)) (f x (inl refl))

    out : (s : Span) → Member xs s → (y ≡ s) ⊎ Member ys s → Member ys s
    out s m (inr b) = b
    out s m (inl e) =
        let q = all_of (EndsBefore x) xs h.0 s m in
        let q' = subst (λ (v : Span). x.until ≤ v.first) (sym (same ∙ e)) q in
        absurd (omega (arith, q', n x (inl refl)))

    back : (s : Span) → Member ys s → (x ≡ s) ⊎ Member xs s → Member xs s
    back s m (inr b) = b
    back s m (inl e) =
        let q = all_of (EndsBefore y) ys k.0 s m in
        let q' = subst (λ (v : Span). v.until ≤ s.first) (sym same ∙ e) q in
        absurd (omega (arith, q', n s (inl e)))
