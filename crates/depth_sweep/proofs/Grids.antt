-- The lists of a grid by their numbers.
use Rattle.std.proofs.Common.{◌≡◌, refl, sym, ◌∙◌, ap, subst, arith, ℕ, zero, suc, ◌+◌, ◌-◌, ◌*◌, ◌/◌, ◌%◌, ◌^◌, ◌<◌, ◌≤◌, List, [], ◌∷◌}
use Rattle.std.proofs.Common.{◌++◌, length, get_or, map, All, append-nil, append_assoc, length-append}
use Rattle.std.proofs.lemmas.List.{length-map, get_or-map, get_or_append_left, get_or-append-add}
use Rattle.std.proofs.{Math.Nat.pow-zero, Math.Nat.pow-succ', lemmas.List.FromFn.fill_by_all}
use Rattle.std.proofs.lemmas.List.Elements.{All-cons, All-nil}
use Rattle.std.proofs.lemmas.Nat.{div_below, div-mul-add, mod_below, div-add-mod', mul-lt}
use Rattle.std.specs.List.{range_with_len, flat_map}
use Rattle.depth_sweep.specs.{width, depths_between, grid}

-- ---- equally long pieces, one after the other

module _ {X : Type 0} (f : ℕ → List X) (u : ℕ) (each : (d : ℕ) → length (f d) ≡ u) where
  pieces_long : (a b : ℕ) → length (flat_map f (range_with_len a b)) ≡ b * u
  pieces_long a zero = omega arith
  pieces_long a (suc b) =
      let here = length-append (f a) (flat_map f (range_with_len (a + 1) b)) in
      omega (arith, here, each a, pieces_long (a + 1) b)

  -- item j of piece k
  piece_at : (a b k j : ℕ) (other : X) → k < b → j < u
      → get_or (flat_map f (range_with_len a b)) (k * u + j) other ≡ get_or (f (a + k)) j other
  piece_at a zero k j other inside short = absurd (omega arith)
  piece_at a (suc b) zero j other inside short =
      let first : zero * u + j ≡ j = omega arith in
      let same : a + zero ≡ a = omega arith in
      rw (first, same) (get_or_append_left (f a) (flat_map f (range_with_len (a + 1) b)) other j (omega (arith, each a)))
  piece_at a (suc b) (suc k) j other inside short =
      let after : suc k * u + j ≡ length (f a) + (k * u + j) = omega (arith, each a) in
      let same : a + suc k ≡ (a + 1) + k = omega arith in
      rw (after, same) (get_or-append-add (f a) (flat_map f (range_with_len (a + 1) b)) (k * u + j) other
      ∙ piece_at (a + 1) b k j other (omega arith) short)

-- ---- grids

module _ (lo hi : ℕ) (ordered : lo ≤ hi) where
  some_width : 0 < width lo hi
  some_width = omega arith

  pub grid_more : (n : ℕ) → length (grid lo hi (suc n)) ≡ width lo hi * length (grid lo hi n)
  unfolding grid
  grid_more n =
      pieces_long (λ first. map (λ others. first ∷ others) (grid lo hi n)) (length (grid lo hi n))
      (λ first. length-map (grid lo hi n) (λ others. first ∷ others)) lo (width lo hi)

  pub grid_long : (n : ℕ) → length (grid lo hi n) ≡ width lo hi ^ n
  unfolding grid
  grid_long zero = sym (pow-zero (width lo hi))
  grid_long (suc n) = grid_more n ∙ (ap (λ (u : ℕ). width lo hi * u) (grid_long n) ∙ sym (pow-succ' (width lo hi) n))

  pub grid_some : (n : ℕ) → 0 < length (grid lo hi n)
  unfolding grid
  grid_some zero = omega arith
  grid_some (suc n) =
      subst (λ (u : ℕ). 0 < u) (sym (grid_more n)) (mul-lt 0 0 (width lo hi) (length (grid lo hi n)) some_width (grid_some n))

  -- the first digit of a number tells the first depth, and the others the other depths
  pub grid_at : (n i : ℕ) → i < length (grid lo hi (suc n)) → get_or (grid lo hi (suc n)) i []
      ≡ (lo + i / length (grid lo hi n)) ∷ get_or (grid lo hi n) (i % length (grid lo hi n)) []
  unfolding grid
  grid_at n i inside =
      let u = length (grid lo hi n) in
      let some : 0 < u = grid_some n in
      let below : i < width lo hi * u = omega (arith, inside, grid_more n) in
      let short : i % u < u = mod_below i u some in
      let first = λ (first : ℕ). map (λ (others : List ℕ). first ∷ others) (grid lo hi n) in
      ap (λ (k : ℕ). get_or (flat_map first (depths_between lo hi)) k []) (sym (div-add-mod' i u))
      ∙ (piece_at first u (λ d. length-map (grid lo hi n) (λ others. d ∷ others)) lo (width lo hi) (i / u) (i % u) []
      (div_below i u (width lo hi) some below) short
      ∙ get_or-map (λ (others : List ℕ). (lo + i / u) ∷ others) (grid lo hi n) (i % u) [] [] short)

  -- ---- digit by digit

  width_is : hi - lo + 1 ≡ width lo hi
  width_is = omega arith

  pub power_long : (n : ℕ) → length (grid lo hi n) ≡ (hi - lo + 1) ^ n
  power_long n = grid_long n ∙ ap (λ (w : ℕ). w ^ n) (sym width_is)

  -- what one list of the smaller grid stands for
  pub next_unit : (n i unit : ℕ) → i < n → unit ≡ length (grid lo hi (n - i)) → unit / (hi - lo + 1) ≡ length (grid lo hi (n - (i + 1)))
  next_unit n i unit inside is =
      let m = n - (i + 1) in
      let u = length (grid lo hi m) in
      let one_more : n - i ≡ suc m = omega arith in
      let whole : unit ≡ u * width lo hi + 0 =
      is ∙ (ap (λ (k : ℕ). length (grid lo hi k)) one_more ∙ (grid_more m ∙ omega arith)) in
      ap (λ (w : ℕ). unit / w) width_is
      ∙ (ap (λ (k : ℕ). k / width lo hi) whole ∙ div-mul-add u (width lo hi) 0 some_width)

  pub next_some : (n i unit : ℕ) → i < n → unit ≡ length (grid lo hi (n - i)) → 0 < unit / (hi - lo + 1)
  next_some n i unit inside is = subst (λ (u : ℕ). 0 < u) (sym (next_unit n i unit inside is)) (grid_some (n - (i + 1)))

  -- one depth more of the list with this number
  pub one_depth_more : (n i number unit rest : ℕ) (depths new : List ℕ) → i < n → unit ≡ length (grid lo hi (n - i)) → rest < unit
      → get_or (grid lo hi n) number [] ≡ depths ++ get_or (grid lo hi (n - i)) rest []
      → new ≡ depths ++ (lo + rest / (unit / (hi - lo + 1))) ∷ []
      → get_or (grid lo hi n) number [] ≡ new ++ get_or (grid lo hi (n - (i + 1))) (rest % (unit / (hi - lo + 1))) []
  one_depth_more n i number unit rest depths new inside is short left added =
      let m = n - (i + 1) in
      let u = length (grid lo hi m) in
      let one_more : n - i ≡ suc m = omega arith in
      let next = next_unit n i unit inside is in
      let here : rest < length (grid lo hi (suc m)) =
      subst (λ (k : ℕ). rest < length (grid lo hi k)) one_more (subst (λ (v : ℕ). rest < v) is short) in
      let opened : get_or (grid lo hi (n - i)) rest [] ≡ (lo + rest / u) ∷ get_or (grid lo hi m) (rest % u) [] =
      ap (λ (k : ℕ). get_or (grid lo hi k) rest []) one_more ∙ grid_at m rest here in
      left ∙ (ap (λ (xs : List ℕ). depths ++ xs) opened
      ∙ (sym (append_assoc depths ((lo + rest / u) ∷ []) (get_or (grid lo hi m) (rest % u) []))
      ∙ (ap (λ (v : ℕ). (depths ++ (lo + rest / v) ∷ []) ++ get_or (grid lo hi m) (rest % v) []) (sym next)
      ∙ ap (λ (xs : List ℕ). xs ++ get_or (grid lo hi m) (rest % (unit / (hi - lo + 1))) []) (sym added))))

-- all lists of a list by their places
pub all_places : {X Y : Type 0} (g : X → Y) (xs : List X) (other : X)
    → map (λ i. g (get_or xs i other)) (range_with_len 0 (length xs)) ≡ map g xs
all_places g xs other =
    sym (fill_by_all (λ (i : ℕ). g (get_or xs i other)) (map g xs) (length xs) (g other) (length-map xs g)
    (λ k h. get_or-map g xs k other (g other) h))

-- ---- what the lists hold

-- so many depths, each from lo to hi
pub record IsList (lo hi n : ℕ) (depths : List ℕ) : Type 0 where
  pub count : length depths ≡ n
  pub each : All (λ d. (lo ≤ d) × (d ≤ hi)) depths

pub list_at : (lo hi : ℕ) → lo ≤ hi → (n i : ℕ) → i < length (grid lo hi n) → IsList lo hi n (get_or (grid lo hi n) i [])
unfolding grid
list_at lo hi ordered zero zero inside = record { count = refl; each = All-nil (λ d. (lo ≤ d) × (d ≤ hi)) }
list_at lo hi ordered zero (suc i) inside = absurd (omega arith)
list_at lo hi ordered (suc n) i inside =
    let u = length (grid lo hi n) in
    let some : 0 < u = grid_some lo hi ordered n in
    let below : i < width lo hi * u = omega (arith, inside, grid_more lo hi ordered n) in
    let digit = div_below i u (width lo hi) some below in
    let rest = list_at lo hi ordered n (i % u) (mod_below i u some) in
    subst (IsList lo hi (suc n)) (sym (grid_at lo hi ordered n i inside)) (record {
      count = ap (λ (k : ℕ). suc k) rest.count;
      each = All-cons (λ d. (lo ≤ d) × (d ≤ hi)) (lo + i / u) (get_or (grid lo hi n) (i % u) []) (omega arith, omega arith) rest.each;
    })

-- no FIFO is left
pub no_fifo_left : (lo hi n i unit rest number : ℕ) (depths : List ℕ) → n ≤ i → unit ≡ length (grid lo hi (n - i)) → rest < unit
    → get_or (grid lo hi n) number [] ≡ depths ++ get_or (grid lo hi (n - i)) rest [] → depths ≡ get_or (grid lo hi n) number []
unfolding grid
no_fifo_left lo hi n i unit rest number depths over is short left =
    let none : n - i ≡ 0 = omega arith in
    let one : unit ≡ 1 = is ∙ ap (λ (k : ℕ). length (grid lo hi k)) none in
    let first : rest ≡ 0 = omega arith in
    let empty : get_or (grid lo hi (n - i)) rest [] ≡ [] =
    ap (λ (k : ℕ). get_or (grid lo hi k) rest []) none ∙ ap (λ (r : ℕ). get_or ([] ∷ []) r []) first in
    sym (left ∙ (ap (λ (xs : List ℕ). depths ++ xs) empty ∙ append-nil depths))
