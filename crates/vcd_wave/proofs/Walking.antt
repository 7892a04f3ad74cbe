-- Walks over the clocks of all FIFOs, as they go on beside one another.
use Rattle.std.proofs.Common.{◌≡◌, ◌≢◌, ℕ, ◌+◌, ◌-◌, ◌≤◌, ◌<◌, ◌==◌, Bool, true, false, not, cond, List, [], ◌∷◌, ◌++◌, map, length, refl}
use Rattle.std.proofs.Common.{sym, ◌∙◌, ap, ap₂, subst, arith, get_or, set, min, fold, Option, Some, None, inl, inr}
use Rattle.std.proofs.{lemmas.Bool.cases_eq, lemmas.Bool.eq-eqb, Math.Seq.map-set_same}
use Rattle.std.proofs.lemmas.List.{length-map, length-set, get_or-map, get_or-set_same, get_or-set_other}
use Rattle.std.proofs.lemmas.List.Elements.{All-cons, All-nil, All-head, All-tail}
use Rattle.std.specs.{Prelude.All, List.filter, List.range_with_len}
use Rattle.vcd_wave.specs.{Plan, FitsEngine, fifos, fill, fills, last_clock, FifoWalk, never, next_of, FillChange, Change, changes_between}
use Rattle.vcd_wave.specs.{StandsBy, AreWalks, least_next, other_fill, change_of, change_if}
use Rattle.timelines.proofs.Ending.{last_within}
use Rattle.port_clocks.proofs.Walking.{walk_fill}
use Rattle.vcd_wave.proofs.LineLemmas.{changes_to, changes_more, filter-append, range_push}
use Rattle.vcd_wave.proofs.Instants.{AreSame}

-- ---- the next clock of all

abbrev lesser : ℕ → FifoWalk → ℕ
lesser least w = min least (next_of w)

least_each : (ws : List FifoWalk) (a n : ℕ) → n ≤ fold lesser a ws → (n ≤ a) × All (λ (w : FifoWalk). n ≤ next_of w) ws
least_each [] a n h = (h, All-nil (λ (w : FifoWalk). n ≤ next_of w))
least_each (w ∷ ws) a n h =
    let rest = least_each ws (min a (next_of w)) n h in
    (omega (arith, rest.0), All-cons (λ (w : FifoWalk). n ≤ next_of w) w ws (omega (arith, rest.0)) rest.1)

least_above : (ws : List FifoWalk) (a n : ℕ) → n ≤ a → All (λ (w : FifoWalk). n ≤ next_of w) ws → n ≤ fold lesser a ws
least_above [] a n l h = l
least_above (w ∷ ws) a n l h =
    let one = All-head (λ (w : FifoWalk). n ≤ next_of w) w ws h in
    least_above ws (min a (next_of w)) n (omega arith) (All-tail (λ (w : FifoWalk). n ≤ next_of w) w ws h)

-- ---- what the FIFOs hold

abbrev held : FifoWalk → ℕ
held w = w.pushes.count - w.pops.count

-- after the FIFOs before one: they have gone on to the next clock, and the changes are theirs
pub record ArePassed (p : Plan) (clock k : ℕ) (ws : List FifoWalk) (changes : List FillChange) : Type 0 where
  pub channels : map (λ (w : FifoWalk). w.channel) ws ≡ fifos p
  pub passed : (j : ℕ) (d : FifoWalk) → j < k → j < length ws → StandsBy p (clock + 1) (get_or ws j d)
  pub others : (j : ℕ) (d : FifoWalk) → k ≤ j → j < length ws → StandsBy p clock (get_or ws j d)
  pub told : map change_of changes ≡ changes_to (fills p clock) (fills p (clock + 1)) k

module _ (p : Plan) (fits : FitsEngine p) where
  one_held : (c b : ℕ) (w : FifoWalk) → StandsBy p c w → c ≤ b → b ≤ last_clock p → b ≤ next_of w → fill p w.channel b ≡ held w
  one_held c b w s from within until = sym (walk_fill p fits w s.is_walk b (let l = s.from in omega arith) until within)

  all_held : (c b : ℕ) (ws : List FifoWalk) → All (StandsBy p c) ws → c ≤ b → b ≤ last_clock p → All (λ (w : FifoWalk). b ≤ next_of w) ws
      → map (λ (f : ℕ). fill p f b) (map (λ (w : FifoWalk). w.channel) ws) ≡ map held ws
  all_held c b [] each from within until = refl
  all_held c b (w ∷ ws) each from within until =
      ap₂ (λ (x : ℕ) (xs : List ℕ). x ∷ xs)
      (one_held c b w (All-head (StandsBy p c) w ws each) from within (All-head (λ (w : FifoWalk). b ≤ next_of w) w ws until))
      (all_held c b ws (All-tail (StandsBy p c) w ws each) from within (All-tail (λ (w : FifoWalk). b ≤ next_of w) w ws until))

  fills_held : (c b : ℕ) (ws : List FifoWalk) → AreWalks p c ws → c ≤ b → b ≤ last_clock p → b ≤ least_next ws → fills p b ≡ map held ws
  fills_held c b ws h from within until =
      ap (map (λ (f : ℕ). fill p f b)) (sym h.channels) ∙ all_held c b ws h.each from within (least_each ws never b until).1

  -- they stand at each clock up to the next one in which an element is popped or pushed
  pub record GoesOn (ws : List FifoWalk) (c s : ℕ) : Type 0 where
    pub later : c ≤ s
    pub walks : AreWalks p s ws
    pub same : AreSame p c s

  pub goes_on : (c clock last : ℕ) (ws : List FifoWalk) → AreWalks p c ws → c ≤ last → last ≡ last_clock p → clock ≡ least_next ws
      → GoesOn ws c (min clock last)
  goes_on c clock last ws h within is least =
      let early : c ≤ never = let n = fits.cycles in omega (arith, last_within p) in
      let until = least_above ws never c early (λ k d l. (h.each k d l).until) in
      let s = min clock last in
      let each = least_each ws never s (omega arith) in
      record {
        later = omega arith;
        walks = record {
          channels = h.channels;
          each = λ k d l. record {
            is_walk = (h.each k d l).is_walk;
            from = let e = (h.each k d l).from in omega arith;
            until = each.1 k d l;
          };
        };
        same = λ b from to.
            fills_held c b ws h from (omega arith) (omega arith) ∙ sym (fills_held c c ws h (omega arith) (omega arith) until);
      }

  -- ---- one FIFO more

  pub passed_first : (clock : ℕ) (ws : List FifoWalk) (changes : List FillChange) → AreWalks p clock ws → changes ≡ []
      → ArePassed p clock 0 ws changes
  passed_first clock ws changes h none = record {
    channels = h.channels;
    passed = λ j d l m. absurd (omega arith);
    others = λ j d l m. h.each j d m;
    told = ap (map change_of) none;
  }

  -- what the FIFO at a place holds
  fill_at : (ws : List FifoWalk) → map (λ (w : FifoWalk). w.channel) ws ≡ fifos p → (k : ℕ) (d : FifoWalk) → k < length ws → (c : ℕ)
      → get_or (fills p c) k 0 ≡ fill p (get_or ws k d).channel c
  fill_at ws channels k d l c =
      let inside : k < length (fifos p) = omega (arith, ap length channels, length-map ws (λ (w : FifoWalk). w.channel)) in
      get_or-map (λ (f : ℕ). fill p f c) (fifos p) k 0 0 inside
      ∙ ap (λ (f : ℕ). fill p f c)
      (ap (λ (xs : List ℕ). get_or xs k 0) (sym channels) ∙ get_or-map (λ (w : FifoWalk). w.channel) ws k d 0 l)

  one_change : (before now : List ℕ) (k a b : ℕ) → get_or before k 0 ≡ a → get_or now k 0 ≡ b
      → changes_to before now (k + 1) ≡ changes_to before now k ++ change_if k (other_fill a b)
  one_change before now k a b e f =
      changes_more before now k (not (b == a)) (ap₂ (λ (x y : ℕ). not (y == x)) e f)
      ∙ ap (λ (xs : List Change). changes_to before now k ++ xs) (by_test (b == a))
    where
      by_test : (t : Bool) → cond (not t) (record { fifo = k; fill = get_or now k 0 } ∷ []) [] ≡ change_if k (cond t None (Some b))
      by_test true = refl
      by_test false = ap (λ (n : ℕ). let x : Change = record { fifo = k; fill = n } in x ∷ []) f

  pub passed_next : (clock k : ℕ) (ws more : List FifoWalk) (changes added : List FillChange) (w new : FifoWalk) (d : FifoWalk)
      (found : Option ℕ) → ArePassed p clock k ws changes → k < length ws → w ≡ get_or ws k d → new.channel ≡ w.channel
      → StandsBy p (clock + 1) new → found ≡ other_fill (fill p w.channel clock) (fill p w.channel (clock + 1))
      → more ≡ set ws k new → map change_of added ≡ map change_of changes ++ change_if k found → ArePassed p clock (k + 1) more added
  passed_next clock k ws more changes added w new d found h inside is channel stands same put grown =
      let size : length more ≡ length ws = ap length put ∙ length-set ws k new in
      let own = ap (λ (v : FifoWalk). v.channel) is in
      record {
        channels = ap (map (λ (v : FifoWalk). v.channel)) put
            ∙ (map-set_same (λ (v : FifoWalk). v.channel) ws k new d (channel ∙ own) ∙ h.channels);
        passed = λ j e l m. subst (λ (vs : List FifoWalk). StandsBy p (clock + 1) (get_or vs j e)) (sym put)
            (elim (cases_eq j k) [
              | inl same ↦ subst (λ (i : ℕ). StandsBy p (clock + 1) (get_or (set ws k new) i e)) (sym same)
                  (subst (StandsBy p (clock + 1)) (sym (get_or-set_same ws k new e inside)) stands)
              | inr apart ↦ subst (StandsBy p (clock + 1)) (sym (get_or-set_other ws k j new e apart))
                  (h.passed j e (omega arith) (omega arith))
            ]);
        others = λ j e l m. subst (λ (vs : List FifoWalk). StandsBy p clock (get_or vs j e)) (sym put)
            (subst (StandsBy p clock) (sym (get_or-set_other ws k j new e (omega arith))) (h.others j e (omega arith) (omega arith)));
        told = grown
            ∙ (ap₂ (λ (xs : List Change) (o : Option ℕ). xs ++ change_if k o) h.told same
            ∙ sym (one_change (fills p clock) (fills p (clock + 1)) k (fill p w.channel clock) (fill p w.channel (clock + 1))
            (fill_at ws h.channels k d inside clock ∙ ap (λ (f : ℕ). fill p f clock) (sym own))
            (fill_at ws h.channels k d inside (clock + 1) ∙ ap (λ (f : ℕ). fill p f (clock + 1)) (sym own))));
      }

  pub passed_all : (clock k : ℕ) (ws : List FifoWalk) (changes : List FillChange) → ArePassed p clock k ws changes → length ws ≡ k
      → AreWalks p (clock + 1) ws × (map change_of changes ≡ changes_between (fills p clock) (fills p (clock + 1)))
  passed_all clock k ws changes h all = (
    record { channels = h.channels; each = λ j d l. h.passed j d (omega arith) l },
    h.told ∙ ap (changes_to (fills p clock) (fills p (clock + 1))) (sym all ∙ sizes),
  )
    where
      sizes : length ws ≡ length (fills p (clock + 1))
      sizes =
          sym (length-map ws (λ (w : FifoWalk). w.channel))
          ∙ (ap length h.channels ∙ sym (length-map (fifos p) (λ (f : ℕ). fill p f (clock + 1))))

  -- nothing is popped or pushed in this clock
  pub walk_idle : (clock : ℕ) (w : FifoWalk) (next : ℕ) → StandsBy p clock w → clock < last_clock p → next ≡ next_of w → next ≢ clock
      → StandsBy p (clock + 1) w × (None ≡ other_fill (fill p w.channel clock) (fill p w.channel (clock + 1)))
  walk_idle clock w next s within is other =
      let until = s.until in
      let now = one_held clock clock w s (omega arith) (omega arith) until in
      let later = one_held clock (clock + 1) w s (omega arith) (omega arith) (omega arith) in (
        record { is_walk = s.is_walk; from = let l = s.from in omega arith; until = omega arith },
        ap (λ (b : Bool). cond b None (Some (fill p w.channel (clock + 1))))
            (sym (eq-eqb (fill p w.channel (clock + 1)) (fill p w.channel clock) (later ∙ sym now))),
      )

-- the FIFOs among the first channels, with one channel more
pub chosen_more : (test : ℕ → Bool) (n : ℕ)
    → filter test (range_with_len 0 (n + 1)) ≡ filter test (range_with_len 0 n) ++ cond (test n) (n ∷ []) []
chosen_more test n =
    ap (filter test) (range_push 0 n ∙ ap (λ (m : ℕ). range_with_len 0 n ++ m ∷ []) (omega arith))
    ∙ filter-append test (range_with_len 0 n) (n ∷ [])
