-- The last write to a place wins.
use Rattle.std.proofs.Common.{◌≡◌, ℕ, ◌+◌, ◌-◌, ◌≤◌, ◌<◌, List, [], ◌∷◌, map, length, get_or, set, reverse, Bool, true, false, ◌&&◌, ◌==◌}
use Rattle.std.proofs.Common.{nat_lt, cond, refl, sym, ◌∙◌, ap, arith, Option, Some, None}
use Rattle.std.proofs.lemmas.Bool.{eqb-true, eqb-false, eq-eqb, ne_eqb, ltb-true, ltb-false}
use Rattle.std.proofs.{lemmas.List.get_or-set_same, lemmas.List.get_or-set_other, lemmas.List.Folds.find-append, lemmas.Grind.reverse_onto}
use Rattle.std.specs.{Prelude.find, Prelude.slice_index, List.fold, Option.option_or}
use Rattle.lockstep_defs.specs.{Block, Effect, ModuleState, Reply, cut_to, block_of, live_count, temps_of, due, memory_of, effects, stored}
use Rattle.lockstep_defs.specs.{committed, HasAllPlaces, IsStateOf, writes_register, writes_temp, writes_word, written, cut_or_kept}
use Rattle.lockstep_defs.specs.{last_value, LastWins}
use Rattle.flow_design.specs.declared.design.Module.{Module}
use Rattle.flow_design.specs.declared.state.Effect.TheVariants.{Variable, Word}
use Rattle.lockstep_defs.proofs.States.{stored_places}

-- ---- the last of several effects

-- the first effect counts where no later one writes the place
first_or_later : (writes : Effect → Bool) (width before : ℕ) (e : Effect) (es : List Effect)
    → last_value writes width before (e ∷ es) ≡ last_value writes width (cond (writes e) (cut_to width (written e)) before) es
first_or_later writes width before e es =
    ap (λ l. cut_or_kept width before (find writes l)) (reverse_onto es e [])
    ∙ (ap (cut_or_kept width before) (find-append writes (reverse es) (e ∷ []))
    ∙ by_found (find writes (reverse es)) (writes e))
  where
    by_found : (o : Option Effect) (t : Bool)
        → cut_or_kept width before (option_or o (cond t (Some e) None)) ≡ cut_or_kept width (cond t (cut_to width (written e)) before) o
    by_found None true = refl
    by_found None false = refl
    by_found (Some f) t = refl

-- a place of which each effect says what it holds after it
last_of_all : (m : Module) (b : Block) (n : ℕ) (writes : Effect → Bool) (width : ℕ) (held : ModuleState → ℕ)
    → ((s : ModuleState) (e : Effect) → HasAllPlaces m b n s → held (stored m b s e) ≡ cond (writes e) (cut_to width (written e)) (held s))
    → (es : List Effect) (s : ModuleState) → HasAllPlaces m b n s → held (fold (stored m b) s es) ≡ last_value writes width (held s) es
last_of_all m b n writes width held one [] s h = refl
last_of_all m b n writes width held one (e ∷ es) s h =
    last_of_all m b n writes width held one es (stored m b s e) (stored_places m b n s e h)
    ∙ (ap (λ v. last_value writes width v es) (one s e h) ∙ sym (first_or_later writes width (held s) e es))

-- ---- one effect

-- a list of numbers that is written at one place
set_at : (xs : List ℕ) (k x v : ℕ) → x < length xs → get_or (set xs k v) x 0 ≡ cond (k == x) v (get_or xs x 0)
set_at xs k x v l = by_test (k == x) refl
  where
    by_test : (t : Bool) → (k == x) ≡ t → get_or (set xs k v) x 0 ≡ cond t v (get_or xs x 0)
    by_test true e = rw (eqb-true k x e) (get_or-set_same xs x v 0 l)
    by_test false e = get_or-set_other xs k x v 0 (λ same. eqb-false k x e (sym same))

-- a list of lists that is written at one place of one list
set_within : (xss : List (List ℕ)) (k j y x v : ℕ) → j < length xss → x < length (get_or xss j [])
    → get_or (get_or (set xss k (set (get_or xss k []) y v)) j []) x 0 ≡ cond ((k == j) && (y == x)) v (get_or (get_or xss j []) x 0)
set_within xss k j y x v l inside = by_test (k == j) refl
  where
    by_test : (t : Bool) → (k == j) ≡ t
        → get_or (get_or (set xss k (set (get_or xss k []) y v)) j []) x 0 ≡ cond (t && (y == x)) v (get_or (get_or xss j []) x 0)
    by_test true e =
        rw (eqb-true k j e, get_or-set_same xss j (set (get_or xss j []) y v) [] l) (set_at (get_or xss j []) y x v inside)
    by_test false e =
        ap (λ (xs : List ℕ). get_or xs x 0) (get_or-set_other xss k j (set (get_or xss k []) y v) [] (λ same. eqb-false k j e (sym same)))

register_stored : (m : Module) (b : Block) (n x : ℕ) → x < length m.registers → (s : ModuleState) (e : Effect) → HasAllPlaces m b n s
    → slice_index (stored m b s e).registers x
    ≡ cond (writes_register x e) (cut_to (slice_index m.registers x) (written e)) (slice_index s.registers x)
register_stored m b n x l s (Word k a v) h = refl
register_stored m b n x l s (Variable i y v) h = by_test (nat_lt y (length m.registers)) refl
  where
    here : (t : Bool) → (y == x) ≡ t
        → cond t (cut_to (slice_index m.registers y) v) (slice_index s.registers x)
        ≡ cond t (cut_to (slice_index m.registers x) v) (slice_index s.registers x)
    here true e = ap (λ z. cut_to (slice_index m.registers z) v) (eqb-true y x e)
    here false e = refl

    by_test : (t : Bool) → nat_lt y (length m.registers) ≡ t
        → slice_index (stored m b s (Variable i y v)).registers x
        ≡ cond (y == x) (cut_to (slice_index m.registers x) v) (slice_index s.registers x)
    by_test true e = rw e (set_at s.registers y x (cut_to (slice_index m.registers y) v) (omega (arith, h.registers)) ∙ here (y == x) refl)
    by_test false e = let past = ltb-false y (length m.registers) e in rw (e, ne_eqb y x (λ same. absurd (omega arith))) refl

temp_stored : (m : Module) (b : Block) (n i t : ℕ) → i < n → t < length b.temps → (s : ModuleState) (e : Effect) → HasAllPlaces m b n s
    → slice_index (temps_of (stored m b s e) i) t
    ≡ cond (writes_temp (length m.registers) i t e) (cut_to (slice_index b.temps t) (written e)) (slice_index (temps_of s i) t)
temp_stored m b n i t l inside s (Word k a v) h = refl
temp_stored m b n i t l inside s (Variable j y v) h = by_test (nat_lt y (length m.registers)) refl
  where
    there : (q r : Bool) → (y - length m.registers == t) ≡ r
        → cond (q && r) (cut_to (slice_index b.temps (y - length m.registers)) v) (slice_index (temps_of s i) t)
        ≡ cond (q && r) (cut_to (slice_index b.temps t) v) (slice_index (temps_of s i) t)
    there false r e = refl
    there true false e = refl
    there true true e = ap (λ z. cut_to (slice_index b.temps z) v) (eqb-true (y - length m.registers) t e)

    after : length m.registers ≤ y → (y - length m.registers == t) ≡ (y == length m.registers + t)
    after past = by_place (y == length m.registers + t) refl
      where
        by_place : (r : Bool) → (y == length m.registers + t) ≡ r → (y - length m.registers == t) ≡ r
        by_place true e = let at = eqb-true y (length m.registers + t) e in eq-eqb _ _ (omega arith)
        by_place false e = ne_eqb _ _ (λ same. eqb-false y (length m.registers + t) e (omega arith))

    none : (q : Bool) → (q && false) ≡ false
    none true = refl
    none false = refl

    by_test : (r : Bool) → nat_lt y (length m.registers) ≡ r
        → slice_index (temps_of (stored m b s (Variable j y v)) i) t
        ≡ cond ((j == i) && (y == length m.registers + t)) (cut_to (slice_index b.temps t) v) (slice_index (temps_of s i) t)
    by_test true e =
        let low = ltb-true y (length m.registers) e in
        rw (e, ne_eqb y (length m.registers + t) (λ same. absurd (omega arith)), none (j == i)) refl
    by_test false e =
        let past = ltb-false y (length m.registers) e in
        rw (e, sym (after past))
        (set_within s.temps j i (y - length m.registers) t (cut_to (slice_index b.temps (y - length m.registers)) v)
        (omega (arith, h.temps)) (omega (arith, h.each_temps i l))
        ∙ there (j == i) (y - length m.registers == t) refl)

abbrev memory_width : Module → ℕ → ℕ
memory_width m n = slice_index (map (λ memory. memory.width) m.memories) n

word_stored : (m : Module) (b : Block) (n k a : ℕ) → k < length m.memories → a < slice_index (map (λ memory. memory.len) m.memories) k
    → (s : ModuleState) (e : Effect) → HasAllPlaces m b n s
    → slice_index (memory_of (stored m b s e) k) a
    ≡ cond (writes_word k a e) (cut_to (memory_width m k) (written e)) (slice_index (memory_of s k) a)
word_stored m b n k a l inside s (Variable i y v) h = by_test (nat_lt y (length m.registers))
  where
    by_test : (t : Bool)
        → slice_index (memory_of (cond t
        (record s { registers = set s.registers y (cut_to (slice_index m.registers y) v) })
        (record s {
          temps = set s.temps i
              (set (temps_of s i) (y - length m.registers) (cut_to (slice_index b.temps (y - length m.registers)) v));
        })) k) a
        ≡ slice_index (memory_of s k) a
    by_test true = refl
    by_test false = refl
word_stored m b n k a l inside s (Word j y v) h =
    set_within s.memories j k y a (cut_to (memory_width m j) v) (omega (arith, h.memories)) (omega (arith, h.words k))
    ∙ here (j == k) (y == a) refl
  where
    here : (q r : Bool) → (j == k) ≡ q
        → cond (q && r) (cut_to (memory_width m j) v) (slice_index (memory_of s k) a)
        ≡ cond (q && r) (cut_to (memory_width m k) v) (slice_index (memory_of s k) a)
    here false r e = refl
    here true false e = refl
    here true true e = ap (λ z. cut_to (memory_width m z) v) (eqb-true j k e)

-- ---- a commit

last_wins : (m : Module) (b : Block) (n : ℕ) (es : List Effect) (s : ModuleState) → HasAllPlaces m b n s
    → LastWins m b es s (fold (stored m b) s es)
last_wins m b n es s h = record {
  registers = λ x l.
      last_of_all m b n (writes_register x) (slice_index m.registers x) (λ s. slice_index s.registers x) (register_stored m b n x l) es s h;
  temps = λ i t l inside.
      last_of_all m b n (writes_temp (length m.registers) i t) (slice_index b.temps t) (λ s. slice_index (temps_of s i) t)
      (temp_stored m b n i t (omega (arith, h.temps)) inside) es s h;
  words = λ k a l inside.
      last_of_all m b n (writes_word k a) (memory_width m k) (λ s. slice_index (memory_of s k) a)
      (word_stored m b n k a l (omega (arith, h.words k))) es s h;
}

pub last_write_wins : (m : Module) (s : ModuleState) (replies : List Reply) → IsStateOf m s
    → LastWins m (block_of m s) (effects (block_of m s) s (due m s) replies) s (committed m s replies)
last_write_wins m s replies h =
    last_wins m (block_of m s) (live_count (block_of m s) s.control) (effects (block_of m s) s (due m s) replies) s h.places
