-- The lines of the header, of clock 0 and of a clock, one after the other.
use Rattle.std.proofs.Common.{◌≡◌, ℕ, zero, suc, ◌+◌, ◌≤◌, ◌<◌, ◌==◌, Bool, true, false, not, cond, List, [], ◌∷◌, ◌++◌, map, length, take}
use Rattle.std.proofs.Common.{refl, sym, ◌∙◌, ap, ap₂, arith, get_or, append_assoc, length-append, add-zero, Result, Ok, Err, OnOk}
use Rattle.std.proofs.lemmas.Bool.{eq-eqb, ne_eqb}
use Rattle.std.proofs.lemmas.List.{append-nil, map-append, take_more, length-take, length-map}
use Rattle.std.specs.{Prelude.codes, List.filter, List.flat_map, List.range_with_len, List.enumerate_from}
use Rattle.vcd_wave.specs.{Channel, is_fifo, Token, line, text_of_lines, FillChange, change_of, Change, Instant, fifo_names, differs}
use Rattle.vcd_wave.specs.{changes_between, instant_of, has_some, fifo_code, var_tokens, change_tokens, instant_lines, opening_instant}
use Rattle.vcd_wave.specs.{header_lines, wave_text}
use Rattle.report_text.proofs.LineLemmas.{line_of_four, text-append}
use Rattle.module_code.proofs.Readiness.{fewer_pass}

-- ---- lines in general

-- after a text with lines, some more
pub lines_push : (first : List ℕ) (xs : List (List Token)) (x : List Token)
    → (first ++ text_of_lines xs) ++ line x ≡ first ++ text_of_lines (xs ++ x ∷ [])
lines_push first xs x =
    append_assoc first (text_of_lines xs) (line x)
    ∙ ap (λ (t : List ℕ). first ++ t) (ap (λ (t : List ℕ). text_of_lines xs ++ t) (sym (append-nil (line x)))
    ∙ sym (text-append xs (x ∷ [])))

pub mapped_push : {X : Type 0} (f : X → List Token) (first : List ℕ) (xs : List X) (x : X)
    → (first ++ text_of_lines (map f xs)) ++ line (f x) ≡ first ++ text_of_lines (map f (xs ++ x ∷ []))
mapped_push f first xs x =
    lines_push first (map f xs) (f x) ∙ ap (λ (ls : List (List Token)). first ++ text_of_lines ls) (sym (map-append f xs (x ∷ [])))

-- ---- numbered lists

pub enumerate_push : {X : Type 0} (n : ℕ) (xs : List X) (x : X)
    → enumerate_from n (xs ++ x ∷ []) ≡ enumerate_from n xs ++ (n + length xs, x) ∷ []
enumerate_push {X} n [] x = ap (λ (m : ℕ). ((m, x) ∷ [])) (sym (add-zero n))
enumerate_push {X} n (y ∷ ys) x =
    ap (λ (l : List (ℕ × X)). (n, y) ∷ l)
    (enumerate_push (n + 1) ys x ∙ ap (λ (m : ℕ). enumerate_from (n + 1) ys ++ (m, x) ∷ []) (omega arith))

pub range_push : (a n : ℕ) → range_with_len a (n + 1) ≡ range_with_len a n ++ (a + n) ∷ []
range_push a zero = ap (λ (m : ℕ). m ∷ []) (sym (add-zero a))
range_push a (suc n) =
    let e : suc n + 1 ≡ suc (n + 1) = omega arith in
    ap (range_with_len a) e
    ∙ ap (λ (l : List ℕ). a ∷ l) (range_push (a + 1) n ∙ ap (λ (m : ℕ). range_with_len (a + 1) n ++ m ∷ []) (omega arith))

pub filter-append : {X : Type 0} (p : X → Bool) (xs ys : List X) → filter p (xs ++ ys) ≡ filter p xs ++ filter p ys
filter-append p [] ys = refl
filter-append {X} p (x ∷ xs) ys = by_test (p x) (filter-append p xs ys)
  where
    by_test : (b : Bool) → filter p (xs ++ ys) ≡ filter p xs ++ filter p ys
        → cond b (x ∷ filter p (xs ++ ys)) (filter p (xs ++ ys)) ≡ cond b (x ∷ filter p xs) (filter p xs) ++ filter p ys
    by_test true e = ap (λ (l : List X). x ∷ l) e
    by_test false e = e

-- ---- the declared FIFOs

pub names_yes : (cs : List Channel) (i : ℕ) (c : Channel) → i < length cs → c ≡ get_or cs i c → is_fifo c.kind ≡ true
    → fifo_names (take (i + 1) cs) ≡ fifo_names (take i cs) ++ c.name ∷ []
names_yes cs i c l is yes_fifo =
    ap fifo_names (take_more cs i c l ∙ ap (λ (x : Channel). take i cs ++ x ∷ []) (sym is))
    ∙ (ap (map (λ (x : Channel). x.name)) (filter-append (λ (x : Channel). is_fifo x.kind) (take i cs) (c ∷ [])
    ∙ ap (λ (b : Bool). filter (λ (x : Channel). is_fifo x.kind) (take i cs) ++ cond b (c ∷ []) []) yes_fifo)
    ∙ map-append (λ (x : Channel). x.name) (filter (λ (x : Channel). is_fifo x.kind) (take i cs)) (c ∷ []))

pub names_no : (cs : List Channel) (i : ℕ) (c : Channel) → i < length cs → c ≡ get_or cs i c → is_fifo c.kind ≡ false
    → fifo_names (take (i + 1) cs) ≡ fifo_names (take i cs)
names_no cs i c l is no_fifo =
    ap fifo_names (take_more cs i c l ∙ ap (λ (x : Channel). take i cs ++ x ∷ []) (sym is))
    ∙ ap (map (λ (x : Channel). x.name)) (filter-append (λ (x : Channel). is_fifo x.kind) (take i cs) (c ∷ [])
    ∙ (ap (λ (b : Bool). filter (λ (x : Channel). is_fifo x.kind) (take i cs) ++ cond b (c ∷ []) []) no_fifo ∙ append-nil _))

pub names_few : (cs : List Channel) (i : ℕ) → length (fifo_names (take i cs)) ≤ i
names_few cs i =
    let mapped = length-map (filter (λ (x : Channel). is_fifo x.kind) (take i cs)) (λ (x : Channel). x.name) in
    let few = fewer_pass (λ (x : Channel). is_fifo x.kind) (take i cs) in
    omega (arith, length-take i cs)

-- what stands after the lines of some of the channels
pub record AreDeclared (cs : List Channel) (first text : List ℕ) (i count : ℕ) : Type 0 where
  pub is_text : text ≡ first ++ text_of_lines (map var_tokens (enumerate_from 0 (fifo_names (take i cs))))
  pub is_count : count ≡ length (fifo_names (take i cs))

pub declared_yes : (cs : List Channel) (first text new : List ℕ) (i count : ℕ) (c : Channel) → i < length cs → c ≡ get_or cs i c
    → is_fifo c.kind ≡ true → AreDeclared cs first text i count → new ≡ text ++ line (var_tokens (count, c.name))
    → AreDeclared cs first new (i + 1) (count + 1)
declared_yes cs first text new i count c l is f h e =
    let names = names_yes cs i c l is f in
    let xs = enumerate_from 0 (fifo_names (take i cs)) in
    record {
      is_text = e ∙ (ap₂ (λ (t : List ℕ) (n : ℕ). t ++ line (var_tokens (n, c.name))) h.is_text h.is_count
          ∙ (mapped_push var_tokens first xs (length (fifo_names (take i cs)), c.name)
          ∙ ap (λ (ys : List (ℕ × List ℕ)). first ++ text_of_lines (map var_tokens ys))
          (ap (λ (n : ℕ). xs ++ (n, c.name) ∷ []) (omega arith)
          ∙ (sym (enumerate_push 0 (fifo_names (take i cs)) c.name) ∙ ap (enumerate_from 0) (sym names)))));
      is_count = ap (λ (n : ℕ). n + 1) h.is_count ∙ (sym (length-append (fifo_names (take i cs)) (c.name ∷ [])) ∙ ap length (sym names));
    }

pub declared_no : (cs : List Channel) (first text : List ℕ) (i count : ℕ) (c : Channel) → i < length cs → c ≡ get_or cs i c
    → is_fifo c.kind ≡ false → AreDeclared cs first text i count → AreDeclared cs first text (i + 1) count
declared_no cs first text i count c l is f h =
    let names = names_no cs i c l is f in
    record {
      is_text = h.is_text ∙ ap (λ (ns : List (List ℕ)). first ++ text_of_lines (map var_tokens (enumerate_from 0 ns))) (sym names);
      is_count = h.is_count ∙ ap length (sym names);
    }

-- ---- clock 0

abbrev pub zeros_to : ℕ → List Change
zeros_to n = map (λ i. record { fifo = i; fill = 0 }) (range_with_len 0 n)

pub zeros_push : (n : ℕ) → zeros_to (n + 1) ≡ zeros_to n ++ record { fifo = n; fill = 0 } ∷ []
zeros_push n = ap (map (λ i. let x : Change = record { fifo = i; fill = 0 } in x))
    (range_push 0 n ∙ ap (λ (m : ℕ). range_with_len 0 n ++ m ∷ []) (omega arith))
    ∙ map-append (λ i. let x : Change = record { fifo = i; fill = 0 } in x) (range_with_len 0 n) (n ∷ [])

pub opening_more : (first : List ℕ) (n : ℕ)
    → (first ++ text_of_lines (map change_tokens (zeros_to n))) ++ line (change_tokens (record { fifo = n; fill = 0 }))
    ≡ first ++ text_of_lines (map change_tokens (zeros_to (n + 1)))
opening_more first n =
    mapped_push change_tokens first (zeros_to n) (record { fifo = n; fill = 0 })
    ∙ ap (λ (xs : List Change). first ++ text_of_lines (map change_tokens xs)) (sym (zeros_push n))

-- ---- changes

abbrev pub changes_to : List ℕ → List ℕ → ℕ → List Change
changes_to before now n = map (λ i. record { fifo = i; fill = get_or now i 0 }) (filter (differs before now) (range_with_len 0 n))

pub changes_more : (before now : List ℕ) (n : ℕ) (b : Bool) → differs before now n ≡ b
    → changes_to before now (n + 1) ≡ changes_to before now n ++ cond b (record { fifo = n; fill = get_or now n 0 } ∷ []) []
changes_more before now n b e =
    let mk : ℕ → Change = λ i. record { fifo = i; fill = get_or now i 0 } in
    ap (λ (l : List ℕ). map mk (filter (differs before now) l))
    (range_push 0 n ∙ ap (λ (m : ℕ). range_with_len 0 n ++ m ∷ []) (omega arith))
    ∙ (ap (map mk) (filter-append (differs before now) (range_with_len 0 n) (n ∷ []))
    ∙ (map-append mk (filter (differs before now) (range_with_len 0 n)) (cond (differs before now n) (n ∷ []) [])
    ∙ ap (λ (l : List Change). changes_to before now n ++ l) (by_test b e)))
  where
    by_test : (b : Bool) → differs before now n ≡ b
        → map (λ i. let x : Change = record { fifo = i; fill = get_or now i 0 } in x) (cond (differs before now n) (n ∷ []) [])
        ≡ cond b (record { fifo = n; fill = get_or now n 0 } ∷ []) []
    by_test true f = ap (λ (t : Bool). map (λ i. let x : Change = record { fifo = i; fill = get_or now i 0 } in x) (cond t (n ∷ []) [])) f
    by_test false f = ap (λ (t : Bool). map (λ i. let x : Change = record { fifo = i; fill = get_or now i 0 } in x) (cond t (n ∷ []) [])) f

-- the line of one change more
pub changes_push : (first : List ℕ) (cs : List FillChange) (k : ℕ) (d : FillChange) → k < length cs
    → (first ++ text_of_lines (map change_tokens (map change_of (take k cs)))) ++ line (change_tokens (change_of (get_or cs k d)))
    ≡ first ++ text_of_lines (map change_tokens (map change_of (take (k + 1) cs)))
changes_push first cs k d l =
    mapped_push change_tokens first (map change_of (take k cs)) (change_of (get_or cs k d))
    ∙ ap (λ (xs : List Change). first ++ text_of_lines (map change_tokens xs))
    (sym (ap (map change_of) (take_more cs k d l) ∙ map-append change_of (take k cs) (get_or cs k d ∷ [])))

-- ---- whether there is a change

pub none_same : (xs : List ℕ) → changes_between xs xs ≡ []
none_same xs = none (length xs)
  where
    none : (n : ℕ) → changes_to xs xs n ≡ []
    none zero = refl
    none (suc n) =
        let e : suc n ≡ n + 1 = omega arith in
        ap (changes_to xs xs) e
        ∙ (changes_more xs xs n false (ap not (eq-eqb (get_or xs n 0) (get_or xs n 0) refl)) ∙ (append-nil _ ∙ none n))

-- ---- results

pub on_ok : {T E P Q : Type 0} (r : Result T E) → OnOk r P → (P → Q) → OnOk r Q
on_ok (Ok x) p f = f p
on_ok (Err e) p f = tt

pub var_line : (a b c d e f : List ℕ) (fifo : ℕ) (name : List ℕ) → b ≡ a ++ codes "$var wire 32" → c ≡ b ++ 32 ∷ fifo_code fifo
    → d ≡ c ++ 32 ∷ name → e ≡ d ++ 32 ∷ codes "$end" → f ≡ e ++ 10 ∷ [] → f ≡ a ++ line (var_tokens (fifo, name))
var_line a b c d e f fifo name p q r s t =
    t ∙ (ap (λ (x : List ℕ). x ++ 10 ∷ []) (s ∙ ap (λ (x : List ℕ). x ++ 32 ∷ codes "$end")
    (r ∙ ap (λ (x : List ℕ). x ++ 32 ∷ name) (q ∙ ap (λ (x : List ℕ). x ++ 32 ∷ fifo_code fifo) p)))
    ∙ line_of_four a (codes "$var wire 32") (fifo_code fifo) name (codes "$end"))

pub header_text : (a b c d : List ℕ) (names : List (List ℕ))
    → b ≡ a ++ codes "$timescale 1 ns $end\n$scope module flow $end\n"
    → c ≡ b ++ text_of_lines (map var_tokens (enumerate_from 0 names))
    → d ≡ c ++ codes "$upscope $end\n$enddefinitions $end\n"
    → d ≡ a ++ text_of_lines (header_lines names)
header_text a b c d names p q r =
    let vars = map var_tokens (enumerate_from 0 names) in
    let last : List (List Token) = (codes "$upscope $end" ∷ []) ∷ (codes "$enddefinitions $end" ∷ []) ∷ [] in
    r ∙ (ap (λ (x : List ℕ). x ++ codes "$upscope $end\n$enddefinitions $end\n") (q ∙ ap (λ (x : List ℕ). x ++ text_of_lines vars) p)
    ∙ (append_assoc (a ++ codes "$timescale 1 ns $end\n$scope module flow $end\n") (text_of_lines vars) (text_of_lines last)
    ∙ (append_assoc a (codes "$timescale 1 ns $end\n$scope module flow $end\n") (text_of_lines vars ++ text_of_lines last)
    ∙ ap (λ (x : List ℕ). a ++ (codes "$timescale 1 ns $end\n$scope module flow $end\n" ++ x)) (sym (text-append vars last)))))

-- ---- a clock with its changes

abbrev instant_text : ℕ → List Change → List ℕ
instant_text clock cs = text_of_lines (flat_map instant_lines (instant_of clock cs))

pub none_told : (cs : List FillChange) → true ≡ (length cs == 0) → false ≡ has_some (map change_of cs)
none_told [] e = refl
none_told (c ∷ cs) e =
    let some = ne_eqb (length (c ∷ cs)) 0 (λ w. omega arith) in
    let wrong = e ∙ some in cc

pub instant_none : (a : List ℕ) (clock : ℕ) (cs : List Change) → false ≡ has_some cs → a ≡ a ++ instant_text clock cs
instant_none a clock [] some = sym (append-nil a)
instant_none a clock (x ∷ xs) some = cc

-- ---- the whole text

pub whole_text : (names : List (List ℕ)) (later : List Instant) (a b c d : List ℕ) → a ≡ [] → b ≡ a ++ text_of_lines (header_lines names)
    → c ≡ b ++ text_of_lines (instant_lines (opening_instant (length names))) → d ≡ c ++ text_of_lines (flat_map instant_lines later)
    → d ≡ wave_text (record { names = names; later = later })
unfolding wave_text
whole_text names later a b c d p q r s =
    s ∙ (ap (λ (t : List ℕ). t ++ text_of_lines (flat_map instant_lines later))
    (r ∙ (ap (λ (t : List ℕ). t ++ text_of_lines (instant_lines (opening_instant (length names))))
    (q ∙ ap (λ (t : List ℕ). t ++ text_of_lines (header_lines names)) p)
    ∙ sym (text-append (header_lines names) (instant_lines (opening_instant (length names))))))
    ∙ sym (text-append (header_lines names ++ instant_lines (opening_instant (length names))) (flat_map instant_lines later)))
