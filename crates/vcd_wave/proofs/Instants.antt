-- The clocks of a wave, one after the other.
use Rattle.std.proofs.Common.{◌≡◌, ◌≢◌, ℕ, zero, suc, ◌+◌, ◌-◌, ◌≤◌, ◌<◌, ◌&&◌, Bool, false, not, cond, List, [], ◌∷◌, ◌++◌, refl, sym, ◌∙◌}
use Rattle.std.proofs.Common.{ap, ap₂, subst, arith, append_assoc, nat_lt, ◌⊎◌, inl, inr}
use Rattle.std.proofs.{lemmas.Bool.cases_lt, lemmas.Bool.lt-ltb, lemmas.List.append-nil, lemmas.List.Concat.flat_map-append}
use Rattle.std.specs.List.{flat_map, range_with_len}
use Rattle.vcd_wave.specs.{Plan, fills, last_clock, line, text_of_lines, Change, Instant, fifo_names, changes_between, instant_of}
use Rattle.vcd_wave.specs.{instant_at, instants_to, closing_instant, wave_of, has_some, time_tokens, instant_lines, Wave.Wave}
use Rattle.vcd_wave.proofs.LineLemmas.{range_push, none_same}
use Rattle.report_text.proofs.LineLemmas.{text-append}
use Rattle.sim_io.proofs.Pending.{numbered_rest}

-- ---- one clock more

pub instants_zero : (p : Plan) → instants_to p 0 ≡ []
unfolding instants_to
instants_zero p = refl

pub instants_more : (p : Plan) (c : ℕ) → instants_to p (c + 1) ≡ instants_to p c ++ instant_at p (c + 1)
unfolding instants_to
instants_more p c =
    ap (flat_map (instant_at p)) (range_push 1 c)
    ∙ (flat_map-append (instant_at p) (range_with_len 1 c) ((1 + c) ∷ [])
    ∙ ap (λ (l : List Instant). flat_map (instant_at p) (range_with_len 1 c) ++ l)
    (append-nil (instant_at p (1 + c)) ∙ ap (instant_at p) (omega arith)))

-- nothing in clocks in which the fills are as before
quiet_at : (p : Plan) (c : ℕ) → fills p c ≡ fills p (c - 1) → instant_at p c ≡ []
quiet_at p c e = ap (instant_of c) (ap (changes_between (fills p (c - 1))) e ∙ none_same (fills p (c - 1)))

quiet_to : (p : Plan) (c n : ℕ) → ((b : ℕ) → c < b → b ≤ n + c → instant_at p b ≡ []) → instants_to p (n + c) ≡ instants_to p c
quiet_to p c zero h = ap (instants_to p) (omega arith)
quiet_to p c (suc n) h =
    let e : suc n + c ≡ (n + c) + 1 = omega arith in
    ap (instants_to p) e
    ∙ (instants_more p (n + c)
    ∙ (ap (λ (l : List Instant). instants_to p (n + c) ++ l) (h ((n + c) + 1) (omega arith) (omega arith))
    ∙ (append-nil _ ∙ quiet_to p c n (λ b x y. h b x (omega arith)))))

pub quiet_until : (p : Plan) (c d : ℕ) → c ≤ d → ((b : ℕ) → c < b → b ≤ d → instant_at p b ≡ []) → instants_to p d ≡ instants_to p c
quiet_until p c d l h =
    let e : (d - c) + c ≡ d = omega arith in
    ap (instants_to p) (sym e) ∙ quiet_to p c (d - c) (λ b x y. h b x (omega arith))

quiet_between : (p : Plan) (c d b : ℕ) → ((x : ℕ) → c ≤ x → x ≤ d → fills p x ≡ fills p c) → c < b → b ≤ d → instant_at p b ≡ []
quiet_between p c d b same after before =
    quiet_at p b (same b (omega arith) before ∙ sym (same (b - 1) (omega arith) (omega arith)))

-- ---- what the loop keeps

-- the clock of the last line of a time, 0 at the start: nothing changes after it, and in it something does
pub record IsTold (p : Plan) (told clock : ℕ) : Type 0 where
  pub within : told ≤ clock
  pub something : 0 < told → instant_at p told ≢ []
  pub nothing : (b : ℕ) → told < b → b ≤ clock → instant_at p b ≡ []

-- the text with the clocks up to this one
abbrev pub told_to : Plan → List ℕ → ℕ → List ℕ
told_to p first clock = first ++ text_of_lines (flat_map instant_lines (instants_to p clock))

pub told_to_zero : (p : Plan) (first : List ℕ) → first ≡ told_to p first 0
told_to_zero p first =
    sym (append-nil first) ∙ ap (λ (l : List Instant). first ++ text_of_lines (flat_map instant_lines l)) (sym (instants_zero p))

pub told_first : (p : Plan) → IsTold p 0 0
told_first p = record { within = omega arith; something = λ h. absurd (omega arith); nothing = λ b x y. absurd (omega arith) }

-- one clock more
pub told_to_next : (p : Plan) (first : List ℕ) (clock : ℕ) (changes : List Change)
    → changes ≡ changes_between (fills p clock) (fills p (clock + 1))
    → told_to p first clock ++ text_of_lines (flat_map instant_lines (instant_of (clock + 1) changes)) ≡ told_to p first (clock + 1)
told_to_next p first clock changes are =
    let back : (clock + 1) - 1 ≡ clock = omega arith in
    let here : instant_of (clock + 1) changes ≡ instant_at p (clock + 1) =
    ap (instant_of (clock + 1)) (are ∙ ap (λ (c : ℕ). changes_between (fills p c) (fills p (clock + 1))) (sym back)) in
    append_assoc first _ _
    ∙ ap (λ (t : List ℕ). first ++ t)
    (sym (text-append (flat_map instant_lines (instants_to p clock)) (flat_map instant_lines (instant_of (clock + 1) changes)))
    ∙ ap text_of_lines (sym (flat_map-append instant_lines (instants_to p clock) (instant_of (clock + 1) changes))
    ∙ ap (flat_map instant_lines) (ap (λ (xs : List Instant). instants_to p clock ++ xs) here ∙ sym (instants_more p clock))))

pub told_next : (p : Plan) (told clock : ℕ) (changes : List Change) (some : Bool) → IsTold p told clock
    → changes ≡ changes_between (fills p clock) (fills p (clock + 1)) → some ≡ has_some changes
    → IsTold p (cond some (clock + 1) told) (clock + 1)
told_next p told clock changes some h are s = by_test changes some s here
  where
    here : instant_at p (clock + 1) ≡ instant_of (clock + 1) changes
    here =
        let back : (clock + 1) - 1 ≡ clock = omega arith in
        sym (ap (instant_of (clock + 1)) (are ∙ ap (λ (c : ℕ). changes_between (fills p c) (fills p (clock + 1))) (sym back)))

    by_test : (cs : List Change) (b : Bool) → b ≡ has_some cs → instant_at p (clock + 1) ≡ instant_of (clock + 1) cs
        → IsTold p (cond b (clock + 1) told) (clock + 1)
    by_test [] b e i = subst (λ (x : Bool). IsTold p (cond x (clock + 1) told) (clock + 1)) (sym e) (record {
      within = let a = h.within in omega arith;
      something = h.something;
      nothing = λ b x y. elim (cases_lt clock b) [
        | inl after ↦ (let same : b ≡ clock + 1 = omega arith in ap (instant_at p) same ∙ i)
        | inr early ↦ h.nothing b x early
      ];
    })
    by_test (x ∷ xs) b e i = subst (λ (y : Bool). IsTold p (cond y (clock + 1) told) (clock + 1)) (sym e) (something_here x xs i)
      where
        something_here : (x : Change) (xs : List Change) → instant_at p (clock + 1) ≡ instant_of (clock + 1) (x ∷ xs)
            → IsTold p (clock + 1) (clock + 1)
        something_here x xs i = record {
          within = omega arith;
          something = λ l none. let wrong = sym i ∙ none in cc;
          nothing = λ b y z. absurd (omega arith);
        }

-- later clocks in which the fills are the same
abbrev pub AreSame : Plan → ℕ → ℕ → Type 0
AreSame p c d = (b : ℕ) → c ≤ b → b ≤ d → fills p b ≡ fills p c

pub told_to_later : (p : Plan) (first : List ℕ) (c d : ℕ) → c ≤ d → AreSame p c d → told_to p first c ≡ told_to p first d
told_to_later p first c d l same =
    ap (λ (xs : List Instant). first ++ text_of_lines (flat_map instant_lines xs))
    (sym (quiet_until p c d l (λ b x y. quiet_between p c d b same x y)))

pub told_later : (p : Plan) (told c d : ℕ) → IsTold p told c → c ≤ d → AreSame p c d → IsTold p told d
told_later p told c d h l same = record {
  within = let a = h.within in omega arith;
  something = h.something;
  nothing = λ b x y. elim (cases_lt c b) [
    | inl after ↦ quiet_between p c d b same after y
    | inr early ↦ h.nothing b x early
  ];
}

-- ---- the end

pub closing_none : (p : Plan) (last : ℕ) → ((0 < last) → instant_at p last ≢ []) → closing_instant p last ≡ []
closing_none p last h =
    ap (λ (b : Bool). cond b (record { clock = last; changes = [] } ∷ []) [])
    (by_case (cases_lt 0 last) (instant_at p last) h)
  where
    by_case : ((0 < last) ⊎ (last ≤ 0)) → (xs : List Instant) → (0 < last → xs ≢ []) → (nat_lt 0 last && not (has_some xs)) ≡ false
    by_case (inl l) [] g = absurd (g l refl)
    by_case (inl l) (x ∷ xs) g = ap (λ (b : Bool). b && false) (lt-ltb 0 last l)
    by_case (inr m) xs g =
        let zero_clock : last ≡ 0 = omega arith in ap (λ (n : ℕ). nat_lt 0 n && not (has_some xs)) zero_clock

pub closing_some : (p : Plan) (last : ℕ) → 0 < last → instant_at p last ≡ []
    → closing_instant p last ≡ record { clock = last; changes = [] } ∷ []
closing_some p last l e =
    ap₂ (λ (a b : Bool). cond (a && not b) (record { clock = last; changes = [] } ∷ []) []) (lt-ltb 0 last l) (ap has_some e)

pub later_is : (p : Plan) → (wave_of p).later ≡ instants_to p (last_clock p) ++ closing_instant p (last_clock p)
unfolding wave_of
later_is p = refl

instants_rest : (p : Plan) (c : ℕ) → c ≤ last_clock p
    → instants_to p c ++ flat_map (instant_at p) (range_with_len (1 + c) (last_clock p - c)) ≡ instants_to p (last_clock p)
unfolding instants_to
instants_rest p c most = numbered_rest (instant_at p) 1 c (last_clock p) most

-- the text with the clocks up to this one begins the whole
pub later_rest : (p : Plan) (first : List ℕ) (c : ℕ) → c ≤ last_clock p
    → (rest : List ℕ) × (told_to p first c ++ rest ≡ first ++ text_of_lines (flat_map instant_lines (wave_of p).later))
later_rest p first c most =
    let others : List Instant = flat_map (instant_at p) (range_with_len (1 + c) (last_clock p - c)) in
    let rest : List Instant = others ++ closing_instant p (last_clock p) in (
      text_of_lines (flat_map instant_lines rest),
      append_assoc first _ _
          ∙ ap (λ (t : List ℕ). first ++ t)
          (sym (text-append (flat_map instant_lines (instants_to p c)) (flat_map instant_lines rest))
          ∙ ap text_of_lines (sym (flat_map-append instant_lines (instants_to p c) rest)
          ∙ ap (flat_map instant_lines) (sym (append_assoc (instants_to p c) others (closing_instant p (last_clock p)))
          ∙ (ap (λ (l : List Instant). l ++ closing_instant p (last_clock p)) (instants_rest p c most) ∙ sym (later_is p))))),
    )

-- the last clock has its line already, and has it not
pub told_whole : (p : Plan) (first : List ℕ) (told last : ℕ) → last ≡ last_clock p → IsTold p told last → last ≤ told
    → told_to p first last ≡ first ++ text_of_lines (flat_map instant_lines (wave_of p).later)
told_whole p first told last is h done =
    let same : told ≡ last_clock p = let a = h.within in omega arith in
    ap (λ (n : ℕ). told_to p first n) is
    ∙ ap (λ (l : List Instant). first ++ text_of_lines (flat_map instant_lines l))
    (sym (later_is p ∙ (ap (λ (l : List Instant). instants_to p (last_clock p) ++ l)
    (closing_none p (last_clock p) (λ l none. h.something (omega arith) (ap (instant_at p) same ∙ none))) ∙ append-nil _)))

pub told_closing : (p : Plan) (first : List ℕ) (told last : ℕ) → last ≡ last_clock p → IsTold p told last → told < last
    → told_to p first last ++ line (time_tokens last) ≡ first ++ text_of_lines (flat_map instant_lines (wave_of p).later)
told_closing p first told last is h open_end =
    let final : List Instant = record { clock = last_clock p; changes = [] } ∷ [] in
    ap (λ (n : ℕ). told_to p first n ++ line (time_tokens n)) is
    ∙ (ap (λ (t : List ℕ). told_to p first (last_clock p) ++ t) (sym (append-nil (line (time_tokens (last_clock p)))))
    ∙ (append_assoc first _ _
    ∙ ap (λ (t : List ℕ). first ++ t)
    (sym (text-append (flat_map instant_lines (instants_to p (last_clock p))) (time_tokens (last_clock p) ∷ []))
    ∙ ap text_of_lines
    (sym (flat_map-append instant_lines (instants_to p (last_clock p)) final)
    ∙ ap (flat_map instant_lines)
    (ap (λ (l : List Instant). instants_to p (last_clock p) ++ l)
    (sym (closing_some p (last_clock p) (omega arith) (h.nothing (last_clock p) (omega arith) (omega arith)))) ∙ sym (later_is p))))))

pub wave_is : (p : Plan) (names : List (List ℕ)) → names ≡ fifo_names p.design.channels
    → record { names = names; later = (wave_of p).later } ≡ wave_of p
unfolding wave_of
wave_is p names e = ap (λ (ns : List (List ℕ)). let w : Wave = record {
  names = ns;
  later = instants_to p (last_clock p) ++ closing_instant p (last_clock p);
} in w) e
