-- Looking up the due operations, slot by slot.
use Rattle.std.proofs.Common.{◌≡◌, refl, sym, ◌∙◌, ap, ap₂, subst, arith, ℕ, suc, map, ◌+◌, ◌-◌, ◌<◌, ◌≤◌, Bool, true, false, cond, List}
use Rattle.std.proofs.Common.{[], ◌∷◌, ◌++◌, length, take, get_or, set, append_assoc, Option, Some, None, inl, inr}
use Rattle.std.proofs.{lemmas.Bool.cases_lt, lemmas.List.Elements.filter-append}
use Rattle.std.proofs.lemmas.List.{map-append, map_push, take_more, get_or_default, get_or-set_same, get_or-set_other}
use Rattle.std.specs.{Int.from_bool, List.cons_option, List.enumerate_from, List.zip}
use Rattle.std.specs.Prelude.{All, flat_map, filter, filter_map}
use Rattle.module_code.specs.{Block, Due, ModuleState, block_of, operation_at, interval, live_count, temps_of, passes, ages_down, ages}
use Rattle.module_code.specs.{due_at, due_in, due, due_at_ages, Guarded, Note, Noted, noted_for, noted_by, passing, standing}
use Rattle.flow_design.specs.declared.design.Module.{Module}

-- what holds of all holds of the one that was read
pub at_place : {X : Type 0} (P : X → Type 0) (xs : List X) {i : ℕ} {x : X} → x ≡ get_or xs i x → i < length xs → All P xs → P x
at_place P xs {i} {x} read inside all = subst P (sym read) (all i x inside)

passing_one : (b : Block) (s : ModuleState) (place n : ℕ)
    → passing b s ((place, n) ∷ []) ≡ cond (passes s.registers (temps_of s place) (operation_at b n).guard)
    (record { iteration = place; op = n } ∷ []) []
passing_one b s place n = by_test (passes s.registers (temps_of s place) (operation_at b n).guard) refl
  where
    by_test : (t : Bool) → passes s.registers (temps_of s place) (operation_at b n).guard ≡ t
        → passing b s ((place, n) ∷ []) ≡ cond (passes s.registers (temps_of s place) (operation_at b n).guard)
        (record { iteration = place; op = n } ∷ []) []
    by_test true e = rw e refl
    by_test false e = rw e refl

pub passing-append : (b : Block) (s : ModuleState) (xs ys : List (ℕ × ℕ)) → passing b s (xs ++ ys) ≡ passing b s xs ++ passing b s ys
passing-append b s xs ys = rw (filter-append, map-append) refl

-- one operation more
pub passing_next : (b : Block) (s : ModuleState) (oldest i : ℕ) (g e : Guarded) (gs : List Guarded) (test : Bool) → i < length gs
    → g ≡ get_or gs i e → test ≡ passes s.registers (temps_of s (g.slot.rank - oldest)) (operation_at b g.slot.op).guard
    → passing b s (map (standing oldest) (take (i + 1) gs))
    ≡ passing b s (map (standing oldest) (take i gs)) ++ cond test (record { iteration = g.slot.rank - oldest; op = g.slot.op } ∷ []) []
passing_next b s oldest i g e gs test inside read is =
    let place : ℕ = g.slot.rank - oldest in
    let front : List (ℕ × ℕ) = map (standing oldest) (take i gs) in
    let more : map (standing oldest) (take (i + 1) gs) ≡ front ++ (place, g.slot.op) ∷ [] =
    ap (map (standing oldest)) (take_more gs i e inside ∙ ap (λ (h : Guarded). take i gs ++ h ∷ []) (sym read))
    ∙ map_push (standing oldest) (take i gs) g in
    let one : cond test (record { iteration = place; op = g.slot.op } ∷ []) [] ≡ passing b s ((place, g.slot.op) ∷ []) =
    ap (λ (q : Bool). cond q (record { iteration = place; op = g.slot.op } ∷ []) []) is ∙ sym (passing_one b s place g.slot.op) in
    ap (passing b s) more ∙ (passing-append b s front ((place, g.slot.op) ∷ [])
    ∙ ap (λ (ds : List Due). passing b s front ++ ds) (sym one))

-- what it adds, where lists are made of parts
pub passing_more : {X : Type 0} (h : List Due → List X) → ((xs ys : List Due) → h (xs ++ ys) ≡ h xs ++ h ys)
    → (front next one : List Due) (initial before now : List X) → next ≡ front ++ one → now ≡ before ++ h one → before ≡ initial ++ h front
    → now ≡ initial ++ h next
passing_more {X} h parts front next one initial before now more added so_far =
    added ∙ (ap (λ (xs : List X). xs ++ h one) so_far
    ∙ (append_assoc initial (h front) (h one) ∙ ap (λ (xs : List X). initial ++ xs) (sym (ap h more ∙ parts front one))))

-- how many are counted where one is due or not
pub one_counted : {X : Type 0} (x : X) (due : Bool) → (length (cond due (x ∷ []) []) ≡ from_bool due) × (from_bool due ≤ 1)
one_counted x true = (refl, omega arith)
one_counted x false = (refl, omega arith)

-- ---- notes

-- what is noted of an operation that stands here, if it is due
abbrev pub noted_at : Block → ModuleState → ℕ → Guarded → Option Noted
noted_at b s oldest g =
    cond (passes s.registers (temps_of s (g.slot.rank - oldest)) (operation_at b g.slot.op).guard)
    (Some (noted_for b s (record { iteration = g.slot.rank - oldest; op = g.slot.op }))) None

-- the first of these operations have their notes
abbrev pub HaveNotes : Block → ModuleState → ℕ → List Guarded → List Note → ℕ → Type 0
HaveNotes b s oldest gs ns count = (k : ℕ) (g : Guarded) (d : Note) → k < count
    → noted_by (get_or gs k g, get_or ns k d) ≡ noted_at b s oldest (get_or gs k g)

-- one more has its note
pub note_more : (b : Block) (s : ModuleState) (oldest i : ℕ) (gs : List Guarded) (ns now : List Note) (g e : Guarded) (n : Note)
    → now ≡ set ns i n → i < length gs → i < length ns → g ≡ get_or gs i e → noted_by (g, n) ≡ noted_at b s oldest g
    → HaveNotes b s oldest gs ns i → HaveNotes b s oldest gs now (i + 1)
note_more b s oldest i gs ns now g e n is inside there read own so_far k h d l = elim (cases_lt k i) [
  | inl less ↦
      let same : get_or now k d ≡ get_or ns k d = ap (λ (xs : List Note). get_or xs k d) is
      ∙ get_or-set_other ns i k n d (λ at. omega arith) in
      ap (λ (x : Note). noted_by (get_or gs k h, x)) same ∙ so_far k h d less
  | inr last ↦
      let here : k ≡ i = omega arith in
      let item : get_or gs k h ≡ g = ap (λ (j : ℕ). get_or gs j h) here ∙ (get_or_default gs i h e inside ∙ sym read) in
      let note : get_or now k d ≡ n = ap (λ (xs : List Note). get_or xs k d) is
      ∙ (ap (λ (j : ℕ). get_or (set ns i n) j d) here ∙ get_or-set_same ns i n d there) in
      rw (item, note) own
]

zipped : {X Y Z : Type 0} (f : X × Y → Option Z) (h : X → Option Z) (xs : List X) (ys : List Y) → length xs ≤ length ys
    → ((k : ℕ) (x : X) (y : Y) → k < length xs → f (get_or xs k x, get_or ys k y) ≡ h (get_or xs k x))
    → filter_map f (zip xs ys) ≡ filter_map h xs
zipped f h [] ys short each = refl
zipped f h (x ∷ xs) [] short each = absurd (omega arith)
zipped {X} {Y} {Z} f h (x ∷ xs) (y ∷ ys) short each =
    ap₂ (λ (r : Option Z) (zs : List Z). cons_option r zs) (each 0 x y (omega arith))
    (zipped f h xs ys (omega arith) (λ k a c l. each (suc k) a c (omega arith)))

noted_passing : (b : Block) (s : ModuleState) (oldest : ℕ) (gs : List Guarded)
    → filter_map (noted_at b s oldest) gs ≡ map (noted_for b s) (passing b s (map (standing oldest) gs))
noted_passing b s oldest [] = refl
noted_passing b s oldest (g ∷ gs) =
    by_test (passes s.registers (temps_of s (g.slot.rank - oldest)) (operation_at b g.slot.op).guard) (noted_passing b s oldest gs)
  where
    by_test : (q : Bool) → filter_map (noted_at b s oldest) gs ≡ map (noted_for b s) (passing b s (map (standing oldest) gs))
        → cons_option
        (cond q (Some (noted_for b s (record { iteration = g.slot.rank - oldest; op = g.slot.op }))) None)
        (filter_map (noted_at b s oldest) gs)
        ≡ map (noted_for b s) (map {A = ℕ × ℕ} {B = Due} (λ it. record { iteration = it.0; op = it.1 })
        (cond q (standing oldest g
        ∷ filter (λ it. passes s.registers (temps_of s it.0) (operation_at b it.1).guard) (map (standing oldest) gs))
        (filter (λ it. passes s.registers (temps_of s it.0) (operation_at b it.1).guard) (map (standing oldest) gs))))
    by_test true rest =
        ap (λ (ns : List Noted). noted_for b s (record { iteration = g.slot.rank - oldest; op = g.slot.op }) ∷ ns) rest
    by_test false rest = rest

-- all have their notes
pub all_noted : (b : Block) (s : ModuleState) (oldest count : ℕ) (gs : List Guarded) (ns : List Note) → HaveNotes b s oldest gs ns count
    → length gs ≤ count → length gs ≤ length ns
    → filter_map noted_by (zip gs ns) ≡ map (noted_for b s) (passing b s (map (standing oldest) gs))
all_noted b s oldest count gs ns each all short =
    zipped noted_by (noted_at b s oldest) gs ns short (λ k g n l. each k g n (omega arith)) ∙ noted_passing b s oldest gs

-- ---- all of them

-- those of one iteration
passing_iteration : (b : Block) (s : ModuleState) (place : ℕ) (ns : List ℕ)
    → map (λ n. record { iteration = place; op = n }) (filter (λ n. passes s.registers (temps_of s place) (operation_at b n).guard) ns)
    ≡ passing b s (map (λ n. (place, n)) ns)
passing_iteration b s place [] = refl
passing_iteration b s place (n ∷ ns) =
    by_test (passes s.registers (temps_of s place) (operation_at b n).guard) (passing_iteration b s place ns)
  where
    by_test : (q : Bool)
        → map (λ k. record { iteration = place; op = k }) (filter (λ k. passes s.registers (temps_of s place) (operation_at b k).guard) ns)
        ≡ passing b s (map (λ k. (place, k)) ns)
        → map {A = ℕ} {B = Due} (λ k. record { iteration = place; op = k })
        (cond q (n ∷ filter (λ k. passes s.registers (temps_of s place) (operation_at b k).guard) ns)
        (filter (λ k. passes s.registers (temps_of s place) (operation_at b k).guard) ns))
        ≡ map {A = ℕ × ℕ} {B = Due} (λ it. record { iteration = it.0; op = it.1 })
        (cond q ((place, n) ∷ filter (λ it. passes s.registers (temps_of s it.0) (operation_at b it.1).guard) (map (λ k. (place, k)) ns))
        (filter (λ it. passes s.registers (temps_of s it.0) (operation_at b it.1).guard) (map (λ k. (place, k)) ns)))
    by_test true rest = ap (λ (ds : List Due). record { iteration = place; op = n } ∷ ds) rest
    by_test false rest = rest

passing_ages : (b : Block) (s : ModuleState) (its : List (ℕ × ℕ))
    → flat_map (due_in b s) its ≡ passing b s (flat_map (λ it. map (λ n. (it.0, n)) (due_at b it.1)) its)
passing_ages b s [] = refl
passing_ages b s (it ∷ its) =
    let front : List (ℕ × ℕ) = map (λ n. (it.0, n)) (due_at b it.1) in
    let back : List (ℕ × ℕ) = flat_map (λ it. map (λ n. (it.0, n)) (due_at b it.1)) its in
    ap₂ (λ (xs ys : List Due). xs ++ ys) (passing_iteration b s it.0 (due_at b it.1)) (passing_ages b s its)
    ∙ sym (passing-append b s front back)

-- what is due stands at the ages of the live iterations, and passes its guard
pub due_by_phase : (m : Module) (s : ModuleState)
    → due m s ≡ passing (block_of m s) s (due_at_ages (block_of m s) (ages_down (interval (block_of m s))
    (s.control.clock - s.control.newest) (live_count (block_of m s) s.control)))
unfolding due ages
due_by_phase m s =
    let b = block_of m s in
    passing_ages b s
    (enumerate_from 0 (ages_down (interval b) (s.control.clock - s.control.newest) (live_count b s.control)))
