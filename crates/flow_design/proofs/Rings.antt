-- A ring of rows, seen as the list of the rows from the first on.
use Rattle.std.proofs.Common.{◌≡◌, refl, sym, ◌∙◌, ap, arith, ℕ, ◌+◌, ◌-◌, ◌<◌, ◌≤◌, ◌⊎◌, inl, inr, List, [], ◌∷◌, ◌++◌, length, get_or}
use Rattle.std.proofs.Common.{drop, set, length-append, length-drop, length-set, length-take-le, get_or-drop, get_or-take}
use Rattle.std.proofs.lemmas.List.{same_lists, get_or_append_left, get_or-append_right}
use Rattle.std.proofs.{lemmas.Bool.cases_lt, lemmas.Bool.cases_eq, lemmas.Bool.lt-ltb, lemmas.Bool.le-ltb, lemmas.Grind.common_steps}
use Rattle.std.specs.List.{refill}
use Rattle.flow_design.specs.{window, ring_place}

-- a place is before the end of the rows, or goes around it
slot_cases : (len first after : ℕ) → first ≤ len
    → ((after < len - first) × (ring_place len first after ≡ first + after))
    ⊎ ((len - first ≤ after) × (ring_place len first after ≡ after - (len - first)))
slot_cases len first after within = elim (cases_lt after (len - first)) [
  | inl low ↦ inl (low, rw (lt-ltb after (len - first) low) refl)
  | inr high ↦ inr (high, rw (le-ltb after (len - first) high) refl)
]

module _ (rows : List (List ℕ)) (first count : ℕ) (from : first ≤ length rows) (fits : count ≤ length rows) where
  pub length-window : length (window first count rows) ≡ count
  length-window = length-take-le count _ (simp (length-append, length-drop) (omega (arith, length-take-le first rows (omega arith))))

  pub get_or-window : (i : ℕ) (d : List ℕ) → i < count
      → get_or (window first count rows) i d ≡ get_or rows (ring_place (length rows) first i) d
  get_or-window i d within =
      let rest = length-drop first rows in
      get_or-take count _ i d within ∙ elim (slot_cases (length rows) first i from) [
        | inl here ↦ get_or_append_left _ _ d i (omega arith) ∙ get_or-drop first rows i d ∙ ap (λ j. get_or rows j d) (omega arith)
        | inr around ↦ get_or-append_right _ _ (length rows - first) i d (omega arith) (omega arith)
            ∙ get_or-take first rows _ d (omega arith) ∙ ap (λ j. get_or rows j d) (omega arith)
      ]

-- two places are the same only if they come as far after the first
slot_same : (len first i j : ℕ) → first ≤ len → i < len → j < len → ring_place len first i ≡ ring_place len first j → i ≡ j
slot_same len first i j from a b e = elim (slot_cases len first i from) [
  | inl x ↦ elim (slot_cases len first j from) [ inl y ↦ omega (arith, x, y) | inr y ↦ omega (arith, x, y) ]
  | inr x ↦ elim (slot_cases len first j from) [ inl y ↦ omega (arith, x, y) | inr y ↦ omega (arith, x, y) ]
]

pub slot_inside : (len first i : ℕ) → first ≤ len → i < len → ring_place len first i < len
slot_inside len first i from a = elim (slot_cases len first i from) [
  | inl x ↦ omega (arith, x)
  | inr x ↦ omega (arith, x)
]

pub slot_within : (len first i : ℕ) → first ≤ len → i ≤ len → ring_place len first i ≤ len
slot_within len first i from a = elim (slot_cases len first i from) [
  | inl x ↦ omega (arith, x)
  | inr x ↦ omega (arith, x)
]

-- so far, and then farther
slot_more : (len first d i : ℕ) → first ≤ len → d + i < len → ring_place len (ring_place len first d) i ≡ ring_place len first (d + i)
slot_more len first d i from a = elim (slot_cases len first d from) [
  | inl x ↦ elim (slot_cases len (ring_place len first d) i (omega (arith, x))) [
    | inl y ↦ elim (slot_cases len first (d + i) from) [ inl z ↦ omega (arith, x, y, z) | inr z ↦ omega (arith, x, y, z) ]
    | inr y ↦ elim (slot_cases len first (d + i) from) [ inl z ↦ omega (arith, x, y, z) | inr z ↦ omega (arith, x, y, z) ]
  ]
  | inr x ↦ elim (slot_cases len (ring_place len first d) i (omega (arith, x))) [
    | inl y ↦ elim (slot_cases len first (d + i) from) [ inl z ↦ omega (arith, x, y, z) | inr z ↦ omega (arith, x, y, z) ]
    | inr y ↦ elim (slot_cases len first (d + i) from) [ inl z ↦ omega (arith, x, y, z) | inr z ↦ omega (arith, x, y, z) ]
  ]
]

-- a list whose items were all written through a borrow
pub refilled : (rows lists : List (List ℕ)) → length lists ≡ length rows → refill (length rows) rows lists ≡ lists
refilled rows lists h = grind (arith, common_steps)

module _ (rows : List (List ℕ)) (first count : ℕ) (from : first ≤ length rows) (fits : count ≤ length rows) where
  -- a row that is written
  pub window_set : (i : ℕ) (y : List ℕ) → i < count
      → window first count (set rows (ring_place (length rows) first i) y) ≡ set (window first count rows) i y
  window_set i y within =
      let place = ring_place (length rows) first i in
      let now = set rows place y in
      let size : length now ≡ length rows = length-set rows place y in
      let old = length-window rows first count from fits in
      let new = length-window now first count (omega arith) (omega arith) in
      same_lists _ _ (grind (arith, common_steps)) (λ j d inside.
      get_or-window now first count (omega arith) (omega arith) j d (omega arith)
      ∙ (ap (λ (n : ℕ). get_or now (ring_place n first j) d) size ∙ elim (cases_eq i j) [
        | inl same ↦ grind (arith, common_steps, slot_inside (length rows) first i from (omega arith))
        | inr other ↦ grind (
          arith,
          common_steps,
          slot_same (length rows) first i j from (omega arith) (omega arith),
          get_or-window rows first count from fits j d,
        )
      ]))

  -- a row that none of them stands in
  pub window_rest : (y : List ℕ) → count < length rows
      → window first count (set rows (ring_place (length rows) first count) y) ≡ window first count rows
  window_rest y more =
      let place = ring_place (length rows) first count in
      let now = set rows place y in
      let size : length now ≡ length rows = length-set rows place y in
      let old = length-window rows first count from fits in
      let new = length-window now first count (omega arith) (omega arith) in
      same_lists _ _ (omega (arith, old, new)) (λ j d inside.
      get_or-window now first count (omega arith) (omega arith) j d (omega arith)
      ∙ (ap (λ (n : ℕ). get_or now (ring_place n first j) d) size ∙ grind (
        arith,
        common_steps,
        slot_same (length rows) first count j from more (omega arith),
        get_or-window rows first count from fits j d,
      )))

  -- the rows from a later one on
  pub window_later : (d : ℕ) → d ≤ count → window (ring_place (length rows) first d) (count - d) rows ≡ drop d (window first count rows)
  window_later d few =
      let later : ring_place (length rows) first d ≤ length rows = slot_within (length rows) first d from (omega arith) in
      let old = length-window rows first count from fits in
      let new = length-window rows (ring_place (length rows) first d) (count - d) later (omega arith) in
      same_lists _ _ (omega (arith, new, length-drop d (window first count rows), old)) (λ j e inside.
      get_or-window rows (ring_place (length rows) first d) (count - d) later (omega arith) j e (omega arith)
      ∙ (ap (λ (n : ℕ). get_or rows n e) (slot_more (length rows) first d j from (omega arith))
      ∙ (sym (get_or-window rows first count from fits (d + j) e (omega arith)) ∙ sym (get_or-drop d (window first count rows) j e))))

-- one row more, in the place after the last
pub window_more : (rows : List (List ℕ)) (first count : ℕ) (y : List ℕ) → first ≤ length rows → count < length rows
    → window first (count + 1) (set rows (ring_place (length rows) first count) y) ≡ window first count rows ++ y ∷ []
window_more rows first count y from more =
    let place = ring_place (length rows) first count in
    let now = set rows place y in
    let size : length now ≡ length rows = length-set rows place y in
    let old = length-window rows first count from (omega arith) in
    let new = length-window now first (count + 1) (omega arith) (omega arith) in
    same_lists _ _ (grind (arith, common_steps)) (λ j d inside.
    get_or-window now first (count + 1) (omega arith) (omega arith) j d (omega arith)
    ∙ (ap (λ (n : ℕ). get_or now (ring_place n first j) d) size ∙ elim (cases_eq count j) [
      | inl same ↦ grind (arith, common_steps, slot_inside (length rows) first count from more)
      | inr other ↦ grind (
        arith,
        common_steps,
        slot_same (length rows) first count j from more (omega arith),
        get_or-window rows first count from (omega arith) j d,
      )
    ]))

-- ---- what the calls leave

pub kept_newest : (rows view : List (List ℕ)) (first count live len place : ℕ) → first ≤ length rows → count ≤ length rows → live < count
    → len ≡ length rows → place ≡ ring_place len first (count - live) → window first count rows ≡ view
    → window place live rows ≡ drop (length view - live) view
kept_newest rows view first count live len place from fits fewer size at seen =
    let old : length view ≡ count = sym (ap (λ (xs : List (List ℕ)). length xs) seen) ∙ length-window rows first count from fits in
    let there : place ≡ ring_place (length rows) first (count - live) = at ∙ ap (λ (n : ℕ). ring_place n first (count - live)) size in
    ap (λ (f : ℕ). window f live rows) there
    ∙ (ap (λ (n : ℕ). window (ring_place (length rows) first (count - live)) n rows) (omega arith)
    ∙ (window_later rows first count from fits (count - live) (omega arith)
    ∙ (ap (λ (xs : List (List ℕ)). drop (count - live) xs) seen ∙ ap (λ (n : ℕ). drop (n - live) view) (sym old))))

-- a row that was written through a borrow
written : (rows lent : List (List ℕ)) (len place : ℕ) (y : List ℕ) → len ≡ length rows → lent ≡ rows
    → refill (length rows) rows (set lent place y) ≡ set rows place y
written rows lent len place y size same =
    refilled rows (set lent place y) (length-set lent place y ∙ ap (λ (xs : List (List ℕ)). length xs) same)
    ∙ ap (λ (xs : List (List ℕ)). set xs place y) same

pub put_there : (rows lent lists view : List (List ℕ)) (first count i temp word len place : ℕ) → first ≤ length rows → count ≤ length rows
    → i < count → len ≡ length rows → place ≡ ring_place len first i → lent ≡ rows
    → lists ≡ set lent place (set (get_or lent place []) temp word) → window first count rows ≡ view
    → window first count (refill (length rows) rows lists) ≡ set view i (set (get_or view i []) temp word)
put_there rows lent lists view first count i temp word len place from fits within size at same put seen =
    let there : place ≡ ring_place (length rows) first i = at ∙ ap (λ (n : ℕ). ring_place n first i) size in
    let row : get_or lent place [] ≡ get_or view i [] =
    ap (λ (xs : List (List ℕ)). get_or xs place []) same ∙ (ap (λ (n : ℕ). get_or rows n []) there
    ∙ (sym (get_or-window rows first count from fits i [] within) ∙ ap (λ (xs : List (List ℕ)). get_or xs i []) seen)) in
    ap (λ (xs : List (List ℕ)). window first count (refill (length rows) rows xs)) put
    ∙ (ap (λ (xs : List (List ℕ)). window first count xs) (written rows lent len place _ size same)
    ∙ (ap (λ (n : ℕ). window first count (set rows n (set (get_or lent place []) temp word))) there
    ∙ (window_set rows first count from fits i _ within
    ∙ (ap (λ (xs : List (List ℕ)). set xs i (set (get_or lent place []) temp word)) seen
    ∙ ap (λ (r : List ℕ). set view i (set r temp word)) row))))

pub not_started : (rows lent view : List (List ℕ)) (first count len place : ℕ) (y : List ℕ) → first ≤ length rows → count ≤ length rows
    → (count ≡ len → ⊥) → len ≡ length rows → place ≡ ring_place len first count → lent ≡ rows → window first count rows ≡ view
    → window first count (refill (length rows) rows (set lent place y)) ≡ view
not_started rows lent view first count len place y from fits more size at same seen =
    let there : place ≡ ring_place (length rows) first count = at ∙ ap (λ (n : ℕ). ring_place n first count) size in
    ap (λ (xs : List (List ℕ)). window first count xs) (written rows lent len place y size same)
    ∙ (ap (λ (n : ℕ). window first count (set rows n y)) there
    ∙ (window_rest rows first count from fits y (omega arith) ∙ seen))

pub started_there : (rows lent view : List (List ℕ)) (first count len place : ℕ) (y : List ℕ) → first ≤ length rows → count ≤ length rows
    → (count ≡ len → ⊥) → len ≡ length rows → place ≡ ring_place len first count → lent ≡ rows → window first count rows ≡ view
    → window first (count + 1) (refill (length rows) rows (set lent place y)) ≡ view ++ y ∷ []
started_there rows lent view first count len place y from fits more size at same seen =
    let there : place ≡ ring_place (length rows) first count = at ∙ ap (λ (n : ℕ). ring_place n first count) size in
    ap (λ (xs : List (List ℕ)). window first (count + 1) xs) (written rows lent len place y size same)
    ∙ (ap (λ (n : ℕ). window first (count + 1) (set rows n y)) there
    ∙ (window_more rows first count y from (omega arith) ∙ ap (λ (xs : List (List ℕ)). xs ++ y ∷ []) seen))
