-- The wave of a plan is a wave of its FIFOs, and ends in the verdict's clock.
use Rattle.std.proofs.Common.{◌≡◌, ◌≢◌, ℕ, zero, suc, ◌+◌, ◌-◌, ◌^◌, ◌≤◌, ◌<◌, ◌&&◌, Bool, true, false, not, cond, List, [], ◌∷◌, ◌++◌, map}
use Rattle.std.proofs.Common.{length, get_or, refl, sym, ◌∙◌, ap, subst, arith, nat_lt, ◌⊎◌, inl, inr, length-append}
use Rattle.std.proofs.lemmas.Bool.{cases_lt, lt-ltb, le-ltb}
use Rattle.std.proofs.lemmas.List.{append-nil, length-map, map-append, get_or_append_left, get_or_default}
use Rattle.std.proofs.lemmas.List.Elements.{All-from_recursion, recursion_from_All}
use Rattle.std.specs.{Prelude.IsTrue, List.filter, List.range_with_len, List.AllByRecursion, List.All, List.AllPairs}
use Rattle.vcd_wave.specs.{Channel, ChannelKind, Plan, is_name, is_fifo, no_channel, kind_at, AreEntriesSound, FitsEngine, fifos, fill}
use Rattle.vcd_wave.specs.{fills, last_clock, moved, Change, Instant, fifo_names, differs, changes_between, instant_of, instant_at}
use Rattle.vcd_wave.specs.{instants_to, closing_instant, wave_of, has_some, last_or, told_in, last_told, Varies, IsChange, IsWave}
use Rattle.flow_design.specs.declared.limits.TheConstants.{FIFO_DEPTH}
use Rattle.flow_design.specs.declared.design.ChannelKind.TheVariants.{Source, Sink, Fifo}
use Rattle.timelines.proofs.{Ending.last_within, FillCounts.within_depth, FillCounts.counted, Numbers.counted_numbers, Acts.all_map}
use Rattle.flow_word.specs.declared.access.Side.TheVariants.{Push}
use Rattle.lockstep_defs.proofs.{Settled.history-zero, Queue.moved-nil, Queue.all-append}
use Rattle.vcd_wave.proofs.{LineLemmas.changes_to, LineLemmas.changes_more, Telling.tells_up_to, Telling.told-append, Telling.last_push}
use Rattle.vcd_wave.proofs.Instants.{instants_zero, instants_more, later_is}

-- ---- lists in order

abbrev Rises : {X : Type 0} → (X → ℕ) → List X → Type 0
Rises key [] = Unit {0}
Rises key (x ∷ xs) = AllByRecursion (λ y. key x < key y) xs × Rises key xs

-- what is below a bound, and then what is not
rises-append : {X : Type 0} (key : X → ℕ) (bound : ℕ) (xs ys : List X) → Rises key xs → Rises key ys
    → AllByRecursion (λ x. key x < bound) xs → AllByRecursion (λ y. bound ≤ key y) ys → Rises key (xs ++ ys)
rises-append key bound [] ys h g b a = g
rises-append key bound (x ∷ xs) ys h g b a =
    let low = b.0 in (
      all-append (λ y. key x < key y) xs ys h.0 (all_map (λ y. bound ≤ key y) (λ y. key x < key y) (λ y l. omega arith) ys a),
      rises-append key bound xs ys h.1 g b.1 a,
    )

pairs_of : {X : Type 0} (key : X → ℕ) (xs : List X) → Rises key xs → AllPairs (λ x y. key x < key y) xs
pairs_of key [] h i j d l m = absurd (omega arith)
pairs_of key (x ∷ xs) h zero zero d l m = absurd (omega arith)
pairs_of key (x ∷ xs) h zero (suc j) d l m = All-from_recursion (λ y. key x < key y) xs h.0 j d (omega arith)
pairs_of key (x ∷ xs) h (suc i) zero d l m = absurd (omega arith)
pairs_of key (x ∷ xs) h (suc i) (suc j) d l m = pairs_of key xs h.1 i j d (omega arith) (omega arith)

-- ---- the changes of a clock

changes_below : (before now : List ℕ) → ((i : ℕ) → get_or now i 0 < 2 ^ 32) → (n : ℕ)
    → AllByRecursion (λ (c : Change). (c.fifo < n) × (c.fill < 2 ^ 32)) (changes_to before now n)
changes_below before now few zero = tt
changes_below before now few (suc n) =
    let e : n + 1 ≡ suc n = omega arith in
    subst (λ (xs : List Change). AllByRecursion (λ (c : Change). (c.fifo < suc n) × (c.fill < 2 ^ 32)) xs)
    (sym (changes_more before now n (differs before now n) refl) ∙ ap (changes_to before now) e)
    (all-append (λ (c : Change). (c.fifo < suc n) × (c.fill < 2 ^ 32)) (changes_to before now n)
    (cond (differs before now n) (record { fifo = n; fill = get_or now n 0 } ∷ []) [])
    (all_map (λ (c : Change). (c.fifo < n) × (c.fill < 2 ^ 32)) (λ (c : Change). (c.fifo < suc n) × (c.fill < 2 ^ 32))
    (λ c h. let l = h.0 in (omega arith, h.1)) (changes_to before now n) (changes_below before now few n))
    (one (differs before now n)))
  where
    one : (b : Bool) → AllByRecursion (λ (c : Change). (c.fifo < suc n) × (c.fill < 2 ^ 32))
        (cond b (record { fifo = n; fill = get_or now n 0 } ∷ []) [])
    one true = ((omega arith, few n), tt)
    one false = tt

changes_rise : (before now : List ℕ) → ((i : ℕ) → get_or now i 0 < 2 ^ 32) → (n : ℕ)
    → Rises (λ (c : Change). c.fifo) (changes_to before now n)
changes_rise before now few zero = tt
changes_rise before now few (suc n) =
    let e : n + 1 ≡ suc n = omega arith in
    subst (Rises (λ (c : Change). c.fifo))
    (sym (changes_more before now n (differs before now n) refl) ∙ ap (changes_to before now) e)
    (rises-append (λ (c : Change). c.fifo) n (changes_to before now n)
    (cond (differs before now n) (record { fifo = n; fill = get_or now n 0 } ∷ []) [])
    (changes_rise before now few n) (one (differs before now n))
    (all_map (λ (c : Change). (c.fifo < n) × (c.fill < 2 ^ 32)) (λ (c : Change). c.fifo < n) (λ c h. h.0) (changes_to before now n)
    (changes_below before now few n))
    (high (differs before now n)))
  where
    one : (b : Bool) → Rises (λ (c : Change). c.fifo) (cond b (record { fifo = n; fill = get_or now n 0 } ∷ []) [])
    one true = (tt, tt)
    one false = tt

    high : (b : Bool) → AllByRecursion (λ (c : Change). n ≤ c.fifo) (cond b (record { fifo = n; fill = get_or now n 0 } ∷ []) [])
    high true = (omega arith, tt)
    high false = tt

-- ---- the fills of a plan

depth_few : (k : ChannelKind) (inputs : List ℕ) (depth : ℕ) → AreEntriesSound k inputs depth → is_fifo k ≡ true → depth ≤ FIFO_DEPTH
depth_few Source inputs depth h e = cc
depth_few Sink inputs depth h e = cc
depth_few (Fifo declared delay) inputs depth h e = h.2

fill_few : (p : Plan) → FitsEngine p → (f c : ℕ) → f < length p.design.channels → is_fifo (kind_at p f) ≡ true → fill p f c < 2 ^ 32
fill_few p fits f c l e = omega (arith, within_depth p fits f c l e, depth_few (kind_at p f) _ _ (fits.channels f l).entries e)

kept_hold : {X : Type 0} (P : X → Type 0) (test : X → Bool) (xs : List X) → AllByRecursion (λ x. test x ≡ true → P x) xs
    → AllByRecursion P (filter test xs)
kept_hold P test [] h = tt
kept_hold {X} P test (x ∷ xs) h = by_test (test x) refl (kept_hold P test xs h.1)
  where
    by_test : (b : Bool) → test x ≡ b → AllByRecursion P (filter test xs) → AllByRecursion P (cond b (x ∷ filter test xs) (filter test xs))
    by_test true e rest = (h.0 e, rest)
    by_test false e rest = rest

range_holds : (P : ℕ → Type 0) (k n : ℕ) → ((i : ℕ) → i < k + n → P i) → AllByRecursion P (range_with_len k n)
range_holds P k zero h = tt
range_holds P k (suc n) h = (h k (omega arith), range_holds P (k + 1) n (λ i l. h i (omega arith)))

mapped_holds : {X Y : Type 0} (P : Y → Type 0) (f : X → Y) (xs : List X) → AllByRecursion (λ x. P (f x)) xs → AllByRecursion P (map f xs)
mapped_holds P f [] h = tt
mapped_holds P f (x ∷ xs) h = (h.0, mapped_holds P f xs h.1)

get_few : (xs : List ℕ) (bound : ℕ) → 0 < bound → AllByRecursion (λ x. x < bound) xs → (i : ℕ) → get_or xs i 0 < bound
get_few [] bound l h i = l
get_few (x ∷ xs) bound l h zero = h.0
get_few (x ∷ xs) bound l h (suc i) = get_few xs bound l h.1 i

fill_first : (p : Plan) → FitsEngine p → (f : ℕ) → f < length p.design.channels → is_fifo (kind_at p f) ≡ true → fill p f 0 < 1
fill_first p fits f l e =
    let none = ap length (ap (moved Push f) (history-zero p) ∙ moved-nil Push f) in
    omega (arith, counted p fits f 0 l e)

pub fills_few : (p : Plan) → FitsEngine p → (c i : ℕ) → get_or (fills p c) i 0 < 2 ^ 32
fills_few p fits c i =
    get_few (fills p c) (2 ^ 32) (omega arith)
    (mapped_holds (λ x. x < 2 ^ 32) (λ f. fill p f c) (fifos p)
    (kept_hold (λ f. fill p f c < 2 ^ 32) (λ f. is_fifo (kind_at p f)) (range_with_len 0 (length p.design.channels))
    (range_holds (λ f. is_fifo (kind_at p f) ≡ true → fill p f c < 2 ^ 32) 0 (length p.design.channels)
    (λ f l e. fill_few p fits f c (omega arith) e))))
    i

-- ---- the instants up to a clock

record IsInstant (count low high : ℕ) (i : Instant) : Type 0 where
  pub after : low < i.clock
  pub within : i.clock ≤ high
  pub changes : AllByRecursion (IsChange count) i.changes
  pub in_order : Rises (λ (c : Change). c.fifo) i.changes

abbrev HasChange : Instant → Type 0
HasChange i = length i.changes ≢ 0

instant_holds : (p : Plan) → FitsEngine p → (c : ℕ)
    → AllByRecursion (λ i. IsInstant (length (fifos p)) c (c + 1) i × HasChange i) (instant_at p (c + 1))
instant_holds p fits c =
    by_changes (changes_between (fills p ((c + 1) - 1)) (fills p (c + 1)))
    (all_map (λ (x : Change). (x.fifo < length (fills p (c + 1))) × (x.fill < 2 ^ 32)) (IsChange (length (fifos p)))
    (λ x h. let l = h.0 in record { declared = omega (arith, length-map (fifos p) (λ f. fill p f (c + 1))); fits = h.1 })
    (changes_between (fills p ((c + 1) - 1)) (fills p (c + 1)))
    (changes_below (fills p ((c + 1) - 1)) (fills p (c + 1)) (fills_few p fits (c + 1)) (length (fills p (c + 1)))))
    (changes_rise (fills p ((c + 1) - 1)) (fills p (c + 1)) (fills_few p fits (c + 1)) (length (fills p (c + 1))))
  where
    by_changes : (cs : List Change) → AllByRecursion (IsChange (length (fifos p))) cs → Rises (λ (x : Change). x.fifo) cs
        → AllByRecursion (λ i. IsInstant (length (fifos p)) c (c + 1) i × HasChange i) (instant_of (c + 1) cs)
    by_changes [] h r = tt
    by_changes (x ∷ xs) h r =
        ((record { after = omega arith; within = omega arith; changes = h; in_order = r }, λ e. absurd (omega arith)), tt)

record AreInstants (p : Plan) (c : ℕ) (xs : List Instant) : Type 0 where
  pub each : AllByRecursion (λ i. IsInstant (length (fifos p)) 0 c i × HasChange i) xs
  pub rising : Rises (λ (i : Instant). i.clock) xs

instants_hold : (p : Plan) → FitsEngine p → (c : ℕ) → AreInstants p c (instants_to p c)
instants_hold p fits zero = subst (AreInstants p 0) (sym (instants_zero p)) (record { each = tt; rising = tt })
instants_hold p fits (suc c) =
    let before = instants_hold p fits c in
    let e : c + 1 ≡ suc c = omega arith in
    let now = instant_holds p fits c in
    subst (AreInstants p (suc c)) (sym (instants_more p c) ∙ ap (instants_to p) e) (record {
      each = all-append (λ i. IsInstant (length (fifos p)) 0 (suc c) i × HasChange i) (instants_to p c) (instant_at p (c + 1))
          (all_map (λ i. IsInstant (length (fifos p)) 0 c i × HasChange i) (λ i. IsInstant (length (fifos p)) 0 (suc c) i × HasChange i)
          (λ i h. let w = (h.0).within in
          (record { after = (h.0).after; within = omega arith; changes = (h.0).changes; in_order = (h.0).in_order }, h.1))
          (instants_to p c) before.each)
          (all_map (λ i. IsInstant (length (fifos p)) c (c + 1) i × HasChange i)
          (λ i. IsInstant (length (fifos p)) 0 (suc c) i × HasChange i)
          (λ i h. let w = (h.0).within in let a = (h.0).after in
          (record { after = omega arith; within = omega arith; changes = (h.0).changes; in_order = (h.0).in_order }, h.1))
          (instant_at p (c + 1)) now);
      rising = rises-append (λ (i : Instant). i.clock) (c + 1) (instants_to p c) (instant_at p (c + 1)) before.rising
          (one_rises (c + 1) (changes_between (fills p ((c + 1) - 1)) (fills p (c + 1))))
          (all_map (λ i. IsInstant (length (fifos p)) 0 c i × HasChange i) (λ i. i.clock < c + 1)
          (λ i h. let w = (h.0).within in omega arith) (instants_to p c) before.each)
          (all_map (λ i. IsInstant (length (fifos p)) c (c + 1) i × HasChange i) (λ i. c + 1 ≤ i.clock)
          (λ i h. let a = (h.0).after in omega arith) (instant_at p (c + 1)) now);
    })
  where
    one_rises : (clock : ℕ) (cs : List Change) → Rises (λ (i : Instant). i.clock) (instant_of clock cs)
    one_rises clock [] = tt
    one_rises clock (x ∷ xs) = (tt, tt)

-- ---- the last clock

abbrev closes : Plan → ℕ → Bool
closes p last = nat_lt 0 last && not (has_some (instant_at p last))

-- a closing line: the last clock is above 0, and nothing changes in it
record IsClosing (p : Plan) (last : ℕ) : Type 0 where
  pub above : 0 < last
  pub nothing : instant_at p last ≡ []

closing_true : (p : Plan) (last : ℕ) → closes p last ≡ true → IsClosing p last
closing_true p last e =
    by_case (cases_lt 0 last) (instant_at p last) refl e
  where
    by_case : ((0 < last) ⊎ (last ≤ 0)) → (xs : List Instant) → instant_at p last ≡ xs → (nat_lt 0 last && not (has_some xs)) ≡ true
        → IsClosing p last
    by_case (inl l) [] f e = record { above = l; nothing = f }
    by_case (inl l) (x ∷ xs) f e =
        let wrong = sym e ∙ ap (λ (b : Bool). b && false) (lt-ltb 0 last l) in cc
    by_case (inr m) xs f e =
        let wrong = sym e ∙ ap (λ (b : Bool). b && not (has_some xs)) (le-ltb 0 last m) in cc

-- without one the last clock is 0, or something changes in it
closing_false : (p : Plan) (last : ℕ) → closes p last ≡ false → (last ≡ 0) ⊎ (has_some (instant_at p last) ≡ true)
closing_false p last e =
    by_case (cases_lt 0 last) (has_some (instant_at p last)) refl e
  where
    by_case : ((0 < last) ⊎ (last ≤ 0)) → (b : Bool) → has_some (instant_at p last) ≡ b → (nat_lt 0 last && not b) ≡ false
        → (last ≡ 0) ⊎ (has_some (instant_at p last) ≡ true)
    by_case (inl l) true f e = inr f
    by_case (inl l) false f e = let wrong = sym e ∙ ap (λ (b : Bool). b && true) (lt-ltb 0 last l) in cc
    by_case (inr m) b f e = inl (omega arith)

abbrev clock_list : List Instant → List ℕ
clock_list xs = map (λ (i : Instant). i.clock) xs

last_instant : (c : ℕ) (xs : List Instant) (cs : List Change) → has_some (instant_of c cs) ≡ true
    → last_or 0 (clock_list (xs ++ instant_of c cs)) ≡ c
last_instant c xs [] e = cc
last_instant c xs (x ∷ rest) e =
    ap (last_or 0) (map-append (λ (i : Instant). i.clock) xs (record { clock = c; changes = x ∷ rest } ∷ []))
    ∙ last_push 0 (clock_list xs) c

last_by : (p : Plan) (last : ℕ) (b : Bool) → closes p last ≡ b
    → last_or 0 (clock_list (instants_to p last ++ cond b (record { clock = last; changes = [] } ∷ []) [])) ≡ last
last_by p last true e =
    ap (last_or 0) (map-append (λ (i : Instant). i.clock) (instants_to p last) (record { clock = last; changes = [] } ∷ []))
    ∙ last_push 0 (clock_list (instants_to p last)) last
last_by p zero false e = ap (λ (xs : List Instant). last_or 0 (clock_list (xs ++ []))) (instants_zero p)
last_by p (suc c) false e =
    elim (closing_false p (suc c) e) [
      | inl none ↦ absurd (omega arith)
      | inr some ↦ (let next : c + 1 ≡ suc c = omega arith in
          ap (λ (xs : List Instant). last_or 0 (clock_list xs)) (append-nil _ ∙ (ap (instants_to p) (sym next) ∙ instants_more p c))
          ∙ (last_instant (c + 1) (instants_to p c) (changes_between (fills p ((c + 1) - 1)) (fills p (c + 1)))
          (ap (λ (n : ℕ). has_some (instant_at p n)) next ∙ some)
          ∙ next))
    ]

pub last_is_told : (p : Plan) → last_told (wave_of p) ≡ last_clock p
last_is_told p =
    ap (λ (xs : List Instant). last_or 0 (clock_list xs)) (later_is p) ∙ last_by p (last_clock p) (closes p (last_clock p)) refl

-- ---- the whole

record AreLater (p : Plan) (last : ℕ) (xs : List Instant) : Type 0 where
  pub each : AllByRecursion (IsInstant (length (fifos p)) 0 last) xs
  pub rising : Rises (λ (i : Instant). i.clock) xs
  pub some : (k : ℕ) (d : Instant) → k + 1 < length xs → HasChange (get_or xs k d)

all_some : (p : Plan) (c : ℕ) (xs : List Instant) → AreInstants p c xs → (k : ℕ) (d : Instant) → k < length xs → HasChange (get_or xs k d)
all_some p c xs h k d l =
    All-from_recursion HasChange xs
    (all_map (λ i. IsInstant (length (fifos p)) 0 c i × HasChange i) HasChange (λ i g. g.1) xs h.each) k d l

later_by : (p : Plan) → FitsEngine p → (last : ℕ) (b : Bool) → closes p last ≡ b
    → AreLater p last (instants_to p last ++ cond b (record { clock = last; changes = [] } ∷ []) [])
later_by p fits last false e =
    let h = instants_hold p fits last in
    subst (AreLater p last) (sym (append-nil _)) (record {
      each = all_map (λ i. IsInstant (length (fifos p)) 0 last i × HasChange i) (IsInstant (length (fifos p)) 0 last) (λ i g. g.0)
          (instants_to p last) h.each;
      rising = h.rising;
      some = λ k d l. all_some p last (instants_to p last) h k d (omega arith);
    })
later_by p fits zero true e = let c = closing_true p zero e in absurd (omega (arith, c.above))
later_by p fits (suc c) true e =
    let closing_instant = closing_true p (suc c) e in
    let next : c + 1 ≡ suc c = omega arith in
    let same = ap (instants_to p) (sym next)
    ∙ (instants_more p c
    ∙ (ap (λ (xs : List Instant). instants_to p c ++ xs) (ap (instant_at p) next ∙ closing_instant.nothing) ∙ append-nil _)) in
    let h = instants_hold p fits c in
    let final : Instant = record { clock = suc c; changes = [] } in
    subst (λ (xs : List Instant). AreLater p (suc c) (xs ++ final ∷ [])) (sym same) (record {
      each = all-append (IsInstant (length (fifos p)) 0 (suc c)) (instants_to p c) (final ∷ [])
          (all_map (λ i. IsInstant (length (fifos p)) 0 c i × HasChange i) (IsInstant (length (fifos p)) 0 (suc c))
          (λ i g. let w = (g.0).within in
          record { after = (g.0).after; within = omega arith; changes = (g.0).changes; in_order = (g.0).in_order })
          (instants_to p c) h.each)
          (record { after = omega arith; within = omega arith; changes = tt; in_order = tt }, tt);
      rising = rises-append (λ (i : Instant). i.clock) (suc c) (instants_to p c) (final ∷ []) h.rising (tt, tt)
          (all_map (λ i. IsInstant (length (fifos p)) 0 c i × HasChange i) (λ i. i.clock < suc c)
          (λ i g. let w = (g.0).within in omega arith) (instants_to p c) h.each)
          (omega arith, tt);
      some = λ k d l.
          let inside : k < length (instants_to p c) = omega (arith, length-append (instants_to p c) (final ∷ [])) in
          subst HasChange (sym (get_or_append_left (instants_to p c) (final ∷ []) d k inside))
          (all_some p c (instants_to p c) h k d inside);
    })

pub count_is : (p : Plan) → length (wave_of p).names ≡ length (fifos p)
unfolding wave_of
count_is p =
    length-map (filter (λ (c : Channel). is_fifo c.kind) p.design.channels) (λ (c : Channel). c.name)
    ∙ sym (counted_numbers (kind_at p) 0 p.design.channels (λ i l. ap (kind_at p) (omega arith)))

names_are : (p : Plan) → (wave_of p).names ≡ fifo_names p.design.channels
unfolding wave_of
names_are p = refl

names_hold : (p : Plan) → FitsEngine p → AllByRecursion (λ n. IsTrue (is_name n)) (wave_of p).names
names_hold p fits =
    subst (AllByRecursion (λ n. IsTrue (is_name n))) (sym (names_are p))
    (mapped_holds (λ n. IsTrue (is_name n)) (λ (c : Channel). c.name) (filter (λ (c : Channel). is_fifo c.kind) p.design.channels)
    (kept_hold (λ (c : Channel). IsTrue (is_name c.name)) (λ (c : Channel). is_fifo c.kind) p.design.channels
    (all_map (λ (c : Channel). IsTrue (is_name c.name)) (λ (c : Channel). is_fifo c.kind ≡ true → IsTrue (is_name c.name))
    (λ c h e. h) p.design.channels
    (recursion_from_All (λ (c : Channel). IsTrue (is_name c.name)) p.design.channels
    (λ k d l. subst (λ (c : Channel). IsTrue (is_name c.name)) (get_or_default p.design.channels k no_channel d l)
    (fits.channels k l).name)))))

told_all : (p : Plan) (i : ℕ) → told_in i (wave_of p).later ≡ told_in i (instants_to p (last_clock p))
told_all p i =
    ap (told_in i) (later_is p)
    ∙ (told-append i (instants_to p (last_clock p)) (closing_instant p (last_clock p))
    ∙ (ap (λ (xs : List ℕ). told_in i (instants_to p (last_clock p)) ++ xs) (none (closes p (last_clock p))) ∙ append-nil _))
  where
    none : (b : Bool) → told_in i (cond b (record { clock = last_clock p; changes = [] } ∷ []) []) ≡ []
    none true = refl
    none false = refl

pub first_empty : (p : Plan) → FitsEngine p → (i : ℕ) → get_or (fills p 0) i 0 ≡ 0
first_empty p fits i =
    let zeros = get_few (fills p 0) 1 (omega arith)
    (mapped_holds (λ x. x < 1) (λ f. fill p f 0) (fifos p)
    (kept_hold (λ f. fill p f 0 < 1) (λ f. is_fifo (kind_at p f)) (range_with_len 0 (length p.design.channels))
    (range_holds (λ f. is_fifo (kind_at p f) ≡ true → fill p f 0 < 1) 0 (length p.design.channels)
    (λ f l e. fill_first p fits f (omega arith) e))))
    i in
    omega arith

pub is_wave : (p : Plan) → FitsEngine p → IsWave (wave_of p)
is_wave p fits =
    let h = subst (AreLater p (last_clock p)) (sym (later_is p)) (later_by p fits (last_clock p) (closes p (last_clock p)) refl) in
    let limit : last_clock p < 2 ^ 64 = omega (arith, last_within p, fits.cycles) in
    let each = All-from_recursion (IsInstant (length (fifos p)) 0 (last_clock p)) (wave_of p).later h.each in
    record {
      names = All-from_recursion (λ n. IsTrue (is_name n)) (wave_of p).names (names_hold p fits);
      later_first_one = λ k d l. (each k d l).after;
      clocks = λ k d l. let w = (each k d l).within in omega arith;
      rising = pairs_of (λ (i : Instant). i.clock) (wave_of p).later h.rising;
      some = h.some;
      changes = λ k d l. subst (λ (n : ℕ). All (IsChange n) (get_or (wave_of p).later k d).changes) (sym (count_is p))
          (All-from_recursion (IsChange (length (fifos p))) (get_or (wave_of p).later k d).changes (each k d l).changes);
      in_order = λ k d l. pairs_of (λ (c : Change). c.fifo) (get_or (wave_of p).later k d).changes (each k d l).in_order;
      other = λ i l. subst (Varies 0) (sym (told_all p i))
          (tells_up_to p i (omega (arith, count_is p)) (first_empty p fits i) (last_clock p)).1;
    }
