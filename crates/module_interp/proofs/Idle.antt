-- Local clocks without work: a move changes the clock, and the temps of iterations that are no longer live go.
use Rattle.std.proofs.Common.{◌≡◌, ℕ, zero, suc, ◌+◌, ◌-◌, ◌*◌, ◌<◌, ◌≤◌, inl, inr, Bool, true, false, ◌&&◌, ◌==◌, not, nat_le, List, []}
use Rattle.std.proofs.Common.{◌∷◌, map, length, get_or, drop, refl, sym, ap, arith, ◌∙◌, add-zero}
use Rattle.std.proofs.lemmas.Bool.{cases_lt, ne_eqb, lt-leb, or_from}
use Rattle.std.proofs.lemmas.List.{length-drop, drop-drop}
use Rattle.std.specs.{Prelude.Contains, Prelude.filter, Prelude.flat_map, List.enumerate_from}
use Rattle.module_interp.specs.{Block, Timed, Plan, Control, Request, ModuleState, block_of, interval, live_count, ages, due_at, due_in}
use Rattle.module_interp.specs.{due, move, decided, finished, is_over, requests, module_at, requests_of, IsLive, rests, skip}
use Rattle.module_interp.specs.{is_some_request, counted, ticked_to, gone_on, at_clock, HasOperationAt, HasOperation, IsDecided, IsOver}
use Rattle.module_interp.specs.{HasWork}
use Rattle.flow_design.specs.declared.design.Module.{Module}
use Rattle.lockstep_defs.proofs.Live.{live_iff}
use Rattle.module_code.proofs.Moving.{moved_is}

-- ---- nothing is due

none_in : (offset n : ℕ) (ts : List Timed) → ¬ Contains (map (λ t. t.offset) ts) offset
    → map (λ t. t.0) (filter (λ t. (t.1).offset == offset) (enumerate_from n ts)) ≡ []
none_in offset n [] h = refl
none_in offset n (t ∷ ts) h =
    let here : t.offset ≡ offset → ⊥ = λ e. h (0, omega arith, e) in
    let rest = none_in offset (n + 1) ts (λ has. let (k, l, e) = has in h (suc k, omega arith, e)) in
    rw (ne_eqb t.offset offset here) rest

none_at : (b : Block) (offset : ℕ) → ¬ HasOperationAt b offset → due_at b offset ≡ []
unfolding due_at
none_at b offset h = none_in offset 0 b.ops h

none_of : (b : Block) (s : ModuleState) (n : ℕ) (as' : List ℕ) → ((k d : ℕ) → k < length as' → due_at b (get_or as' k d) ≡ [])
    → flat_map (due_in b s) (enumerate_from n as') ≡ []
none_of b s n [] h = refl
none_of b s n (a ∷ as') h =
    let here : due_at b a ≡ [] = h 0 0 (omega arith) in
    rw here (none_of b s (n + 1) as' (λ k d l. h (suc k) d (omega arith)))

pub none_due : (m : Module) (s : ModuleState) → ¬ HasOperation (block_of m s) s.control → due m s ≡ []
unfolding due
none_due m s h =
    none_of (block_of m s) s 0 (ages (block_of m s) s.control)
    (λ k d l. none_at (block_of m s) (get_or (ages (block_of m s) s.control) k d)
    (λ has. h (record { age = get_or (ages (block_of m s) s.control) k d; is_live = (k, l, get_or_self _ k d l); operation = has })))
  where
    get_or_self : (xs : List ℕ) (k d : ℕ) → k < length xs → get_or xs k (get_or xs k d) ≡ get_or xs k d
    get_or_self [] k d l = absurd (omega arith)
    get_or_self (x ∷ xs) zero d l = refl
    get_or_self (x ∷ xs) (suc k) d l = get_or_self xs k d (omega arith)

pub none_asked : (p : Plan) (i : ℕ) (s : ModuleState) → due (module_at p i) s ≡ [] → requests_of p (i, s) ≡ []
unfolding requests
none_asked p i s none = rw none refl

-- nothing commits
nothing_counted : (m : Module) (s : ModuleState) → due m s ≡ [] → s ≡ counted m s []
nothing_counted m s none = rw (none, add-zero) refl

pub idle_move : (m : Module) (s : ModuleState) → due m s ≡ [] → move m s [] ≡ gone_on m (ticked_to m (s.control.clock + 1) s)
idle_move m s none = sym (moved_is m s s (ticked_to m (s.control.clock + 1) s) [] (nothing_counted m s none) refl)

-- ---- no decision, and no end

no_test : (l : Bool) (clock newest ii : ℕ) → newest ≤ clock → (l ≡ true → clock ≡ newest + ii → ⊥) → (l && (clock - newest == ii)) ≡ false
no_test true clock newest ii h none = ne_eqb (clock - newest) ii (λ e. none refl (omega arith))
no_test false clock newest ii h none = refl

no_end : (l : Bool) (clock newest len : ℕ) → newest ≤ clock → (l ≡ false → newest + len ≤ clock → ⊥)
    → (not l && nat_le len (clock - newest)) ≡ false
no_end true clock newest len h none = refl
no_end false clock newest len h none = elim (cases_lt (clock - newest) len) [
  | inl less ↦ lt-leb len (clock - newest) less
  | inr more ↦ absurd (none refl (omega arith))
]

stays_decided : (b : Block) (s : ModuleState) → s.control.newest ≤ s.control.clock → ¬ IsDecided b s.control → decided b s ≡ s
unfolding decided
stays_decided b s h none =
    let test =
    no_test s.control.looping s.control.clock s.control.newest (interval b) h (λ l e. none (record { goes_on = l; is_old = e })) in
    rw test refl

stays_finished : (m : Module) (b : Block) (s : ModuleState) → s.control.newest ≤ s.control.clock → ¬ IsOver b s.control → finished m b s ≡ s
unfolding finished
stays_finished m b s h none =
    let test = no_end s.control.looping s.control.clock s.control.newest b.len h (λ l e. none (record { is_last = l; is_old = e })) in
    rw test refl

pub stays : (m : Module) (s : ModuleState) → s.control.newest ≤ s.control.clock → ¬ HasWork (block_of m s) s.control → gone_on m s ≡ s
stays m s h none =
    ap (finished m (block_of m s)) (stays_decided (block_of m s) s h (λ d. none (inr (inl d))))
    ∙ stays_finished m (block_of m s) s h (λ o. none (inr (inr o)))

-- ---- several clocks

fewer_live : (b : Block) (k : Control) (c d : ℕ) → 1 ≤ interval b → k.newest ≤ c → c ≤ d
    → live_count b (at_clock k d) ≤ live_count b (at_clock k c)
fewer_live b k c d some begun later = elim (cases_lt (live_count b (at_clock k c)) (live_count b (at_clock k d))) [
  | inl less ↦
      let live : IsLive b (at_clock k d) (live_count b (at_clock k c)) =
      (live_iff b (at_clock k d) (live_count b (at_clock k c)) (omega arith)).0 less in
      let young : (d - k.newest) + live_count b (at_clock k c) * interval b < b.len = live.is_young in
      let still : IsLive b (at_clock k c) (live_count b (at_clock k c)) =
      record { has_started = live.has_started; is_young = omega arith } in
      let no = (live_iff b (at_clock k c) (live_count b (at_clock k c)) (omega arith)).1 still in
      absurd (omega arith)
  | inr most ↦ most
]

dropped : (temps : List (List ℕ)) (first second : ℕ) → second ≤ first → first ≤ length temps
    → drop (length (drop (length temps - first) temps) - second) (drop (length temps - first) temps) ≡ drop (length temps - second) temps
dropped temps first second fewer most =
    let left : length (drop (length temps - first) temps) ≡ first = length-drop (length temps - first) temps ∙ omega arith in
    let sum : (length temps - first) + (first - second) ≡ length temps - second = omega arith in
    ap (λ (n : ℕ). drop (n - second) (drop (length temps - first) temps)) left
    ∙ (drop-drop (first - second) (length temps - first) temps ∙ ap (λ (n : ℕ). drop n temps) sum)

ticks_on : (m : Module) (s : ModuleState) (c d : ℕ) → 1 ≤ interval (block_of m s) → s.control.newest ≤ s.control.clock
    → length s.temps ≡ live_count (block_of m s) s.control → s.control.clock ≤ c → c ≤ d
    → ticked_to m d (ticked_to m c s) ≡ ticked_to m d s
ticks_on m s c d some begun temps from later =
    let b = block_of m s in
    let most : live_count b (at_clock s.control c) ≤ live_count b s.control = fewer_live b s.control s.control.clock c some begun from in
    let less : live_count b (at_clock s.control d) ≤ live_count b (at_clock s.control c) =
    fewer_live b s.control c d some (omega arith) later in
    ap (λ (t : List (List ℕ)). record s { control = at_clock s.control d; temps = t })
    (dropped s.temps (live_count b (at_clock s.control c)) (live_count b (at_clock s.control d)) less (omega arith))

ticks_none : (m : Module) (s : ModuleState) → length s.temps ≡ live_count (block_of m s) s.control → ticked_to m s.control.clock s ≡ s
ticks_none m s temps =
    let none : length s.temps - live_count (block_of m s) s.control ≡ 0 = omega arith in
    ap (λ (n : ℕ). record s { temps = drop n s.temps }) none

-- ---- the clocks up to the next one with work

pub record IsIdle (m : Module) (s : ModuleState) (n : ℕ) : Type 0 where
  pub some : 1 ≤ interval (block_of m s)
  pub begun : s.control.newest ≤ s.control.clock
  pub temps : length s.temps ≡ live_count (block_of m s) s.control
  pub none : (c : ℕ) → s.control.clock ≤ c → c < s.control.clock + n → ¬ HasWork (block_of m s) (at_clock s.control c)

pub shorter : (m : Module) (s : ModuleState) (n k : ℕ) → k ≤ n → IsIdle m s n → IsIdle m s k
shorter m s n k l h = record { some = h.some; begun = h.begun; temps = h.temps; none = λ c from below. h.none c from (omega arith) }

-- one idle clock more
one_on : (p : Plan) (i : ℕ) (s : ModuleState) (n : ℕ) → IsIdle (module_at p i) s (suc n)
    → skip p i n s ≡ ticked_to (module_at p i) (s.control.clock + n) s
    → skip p i (suc n) s ≡ gone_on (module_at p i) (ticked_to (module_at p i) (s.control.clock + suc n) s)
one_on p i s n h is =
    let m = module_at p i in
    let t = ticked_to m (s.control.clock + n) s in
    let none : due m t ≡ [] = none_due m t (λ op. h.none (s.control.clock + n) (omega arith) (omega arith) (inl op)) in
    let clock : s.control.clock + n + 1 ≡ s.control.clock + suc n = omega arith in
    ap (λ (z : ModuleState). move m z []) is
    ∙ (idle_move m t none
    ∙ ap (gone_on m) (ticks_on m s (s.control.clock + n) (s.control.clock + n + 1) h.some h.begun h.temps (omega arith) (omega arith)
    ∙ ap (λ (c : ℕ). ticked_to m c s) clock))

-- before the last clock nothing is decided
pub skip_ticks : (p : Plan) (i : ℕ) (s : ModuleState) (n : ℕ) → IsIdle (module_at p i) s (suc n)
    → skip p i n s ≡ ticked_to (module_at p i) (s.control.clock + n) s
skip_ticks p i s zero h =
    let m = module_at p i in
    sym (ap (λ (c : ℕ). ticked_to m c s) (add-zero s.control.clock) ∙ ticks_none m s h.temps)
skip_ticks p i s (suc n) h =
    let m = module_at p i in
    let before =
    one_on p i s n (shorter m s (suc (suc n)) (suc n) (omega arith) h)
    (skip_ticks p i s n (shorter m s (suc (suc n)) (suc n) (omega arith) h)) in
    let begun = h.begun in
    before ∙ stays m (ticked_to m (s.control.clock + suc n) s) (omega arith) (h.none (s.control.clock + suc n) (omega arith) (omega arith))

-- at the last clock the loop may decide, or the block end
pub skip_on : (p : Plan) (i : ℕ) (s : ModuleState) (n : ℕ) → IsIdle (module_at p i) s (suc n)
    → skip p i (suc n) s ≡ gone_on (module_at p i) (ticked_to (module_at p i) (s.control.clock + suc n) s)
skip_on p i s n h = one_on p i s n h (skip_ticks p i s n h)

none_some : (rs : List Request) → rs ≡ [] → is_some_request rs ≡ false
none_some rs e = rw e refl

same_over : (p : Plan) (m : Module) (s : ModuleState) (c : ℕ) → is_over p.ops (ticked_to m c s) ≡ is_over p.ops s
unfolding is_over
same_over p m s c = refl

-- the module rests in none of these clocks
pub never_rests : (p : Plan) (i : ℕ) (s : ModuleState) (n : ℕ) → IsIdle (module_at p i) s (suc n) → is_over p.ops s ≡ false
    → (j : ℕ) → j < suc n → rests p i (skip p i j s) ≡ false
never_rests p i s n h alive j l =
    let m = module_at p i in
    let t = ticked_to m (s.control.clock + j) s in
    let is : skip p i j s ≡ t = skip_ticks p i s j (shorter m s (suc n) (suc j) (omega arith) h) in
    let none : due m t ≡ [] = none_due m t (λ op. h.none (s.control.clock + j) (omega arith) (omega arith) (inl op)) in
    ap (rests p i) is ∙ or_from (is_over p.ops t) _ (same_over p m s (s.control.clock + j) ∙ alive) (none_some _ (none_asked p i t none))
