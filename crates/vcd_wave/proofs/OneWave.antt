-- A text is the text of one wave at most.
use Rattle.std.proofs.Common.{◌≡◌, ◌≢◌, ℕ, ◌+◌, ◌^◌, ◌≤◌, ◌<◌, List, [], ◌∷◌, ◌++◌, map, length, refl, sym, ◌∙◌, ap, ap₂, arith, get_or}
use Rattle.std.proofs.Common.{append_assoc, length-append}
use Rattle.std.proofs.{lemmas.Grind.common_steps, lemmas.List.append_cancel_left, lemmas.Fmt.decimal_injective}
use Rattle.std.proofs.lemmas.List.Elements.{recursion_from_All}
use Rattle.std.specs.{Prelude.codes, Prelude.decimal, Prelude.IsTrue, List.flat_map, List.enumerate_from, List.All, List.AllByRecursion}
use Rattle.vcd_wave.specs.{is_name, Token, line, text_of_lines, numeral, Change, Instant, IsChange, IsWave, fifo_code, var_tokens}
use Rattle.vcd_wave.specs.{time_tokens, change_tokens, instant_lines, opening_instant, header_lines, wave_text, Wave.Wave}
use Rattle.vcd_wave.proofs.Cutting.{Lacks, cut, decimal_lacks, binary_lacks, binary_same, name_lacks}
use Rattle.timelines.proofs.Acts.{all_map}
use Rattle.report_text.proofs.LineLemmas.{text-append}

-- ---- lines and what follows

line_one : (a r : List ℕ) → line (a ∷ []) ++ r ≡ a ++ 10 ∷ r
line_one a r = append_assoc a (10 ∷ []) r

pub line_two : (a b r : List ℕ) → line (a ∷ b ∷ []) ++ r ≡ a ++ 32 ∷ (b ++ 10 ∷ r)
line_two a b r = grind (arith, common_steps)

line_four : (a b c d r : List ℕ) → line (a ∷ b ∷ c ∷ d ∷ []) ++ r ≡ (a ++ 32 ∷ (b ++ 32 ∷ [])) ++ (c ++ 32 ∷ (d ++ 10 ∷ r))
line_four a b c d r = grind (arith, common_steps)

-- ---- the declared names

abbrev pub vars_from : ℕ → List (List ℕ) → List ℕ
vars_from n names = text_of_lines (map var_tokens (enumerate_from n names))

abbrev pub var_front : ℕ → List ℕ
var_front n = codes "$var wire 32" ++ 32 ∷ (fifo_code n ++ 32 ∷ [])

pub var_parts : (n : ℕ) (x : List ℕ) (xs : List (List ℕ)) (r : List ℕ)
    → vars_from n (x ∷ xs) ++ r ≡ var_front n ++ (x ++ 32 ∷ (codes "$end" ++ 10 ∷ (vars_from (n + 1) xs ++ r)))
var_parts n x xs r =
    append_assoc (line (var_tokens (n, x))) (vars_from (n + 1) xs) r
    ∙ line_four (codes "$var wire 32") (fifo_code n) x (codes "$end") (vars_from (n + 1) xs ++ r)

-- after the names stands no line of a name
vars_same : (n : ℕ) (xs ys : List (List ℕ)) (r s : List ℕ) → AllByRecursion (Lacks 32) xs → AllByRecursion (Lacks 32) ys
    → vars_from n xs ++ 36 ∷ 117 ∷ r ≡ vars_from n ys ++ 36 ∷ 117 ∷ s → (xs ≡ ys) × (r ≡ s)
vars_same n [] [] r s h g e = (refl, append_cancel_left (36 ∷ 117 ∷ []) r s e)
vars_same n [] (y ∷ ys) r s h g e =
    let wrong : 117 ≡ 118 = ap (λ (l : List ℕ). get_or l 1 0) e in absurd (omega (arith, wrong))
vars_same n (x ∷ xs) [] r s h g e =
    let wrong : 118 ≡ 117 = ap (λ (l : List ℕ). get_or l 1 0) e in absurd (omega (arith, wrong))
vars_same n (x ∷ xs) (y ∷ ys) r s h g e =
    let after = append_cancel_left (var_front n) _ _ (sym (var_parts n x xs (36 ∷ 117 ∷ r)) ∙ (e ∙ var_parts n y ys (36 ∷ 117 ∷ s))) in
    let here = cut 32 x y _ _ h.0 g.0 after in
    let more = vars_same (n + 1) xs ys r s h.1 g.1 (append_cancel_left (codes "$end\n") _ _ here.1) in
    (ap₂ (λ (a : List ℕ) (l : List (List ℕ)). a ∷ l) here.0 more.0, more.1)

-- a name has a line, so there are no more names than bytes
pub vars_long : (n : ℕ) (xs : List (List ℕ)) (r : List ℕ) → length xs ≤ length (vars_from n xs ++ r)
vars_long n [] r = omega arith
vars_long n (x ∷ xs) r =
    let parts = ap length (var_parts n x xs r) in
    let rest = vars_long (n + 1) xs r in
    let a = length-append (var_front n) (x ++ 32 ∷ (codes "$end" ++ 10 ∷ (vars_from (n + 1) xs ++ r))) in
    let b = length-append x (32 ∷ (codes "$end" ++ 10 ∷ (vars_from (n + 1) xs ++ r))) in
    omega (arith, parts, rest, a, b)

-- ---- the changes of a clock

-- numbers that are written in full
abbrev pub IsWritten : Change → Type 0
IsWritten c = c.fifo < 2 ^ 64

abbrev pub changes_text : List Change → List ℕ
changes_text cs = text_of_lines (map change_tokens cs)

pub change_parts : (c : Change) (cs : List Change) (r : List ℕ)
    → changes_text (c ∷ cs) ++ r ≡ 98 ∷ (numeral 2 c.fill ++ 32 ∷ (102 ∷ (decimal c.fifo ++ 10 ∷ (changes_text cs ++ r))))
change_parts c cs r =
    append_assoc (line (change_tokens c)) (changes_text cs) r
    ∙ line_two (98 ∷ numeral 2 c.fill) (fifo_code c.fifo) (changes_text cs ++ r)

-- what follows is not a change
changes_same : (cs ds : List Change) (r s : List ℕ) → get_or r 0 0 ≢ 98 → get_or s 0 0 ≢ 98
    → AllByRecursion IsWritten cs → AllByRecursion IsWritten ds
    → changes_text cs ++ r ≡ changes_text ds ++ s → (cs ≡ ds) × (r ≡ s)
changes_same [] [] r s nr ns h g e = (refl, e)
changes_same [] (d ∷ ds) r s nr ns h g e =
    absurd (nr (ap (λ (l : List ℕ). get_or l 0 0) (e ∙ change_parts d ds s)))
changes_same (c ∷ cs) [] r s nr ns h g e =
    absurd (ns (ap (λ (l : List ℕ). get_or l 0 0) (sym e ∙ change_parts c cs r)))
changes_same (c ∷ cs) (d ∷ ds) r s nr ns h g e =
    let after = append_cancel_left (98 ∷ []) (numeral 2 c.fill ++ 32 ∷ (102 ∷ (decimal c.fifo ++ 10 ∷ (changes_text cs ++ r))))
    (numeral 2 d.fill ++ 32 ∷ (102 ∷ (decimal d.fifo ++ 10 ∷ (changes_text ds ++ s))))
    (sym (change_parts c cs r) ∙ (e ∙ change_parts d ds s)) in
    let number = cut 32 (numeral 2 c.fill) (numeral 2 d.fill) _ _ (binary_lacks 32 c.fill (omega arith))
    (binary_lacks 32 d.fill (omega arith)) after in
    let code = append_cancel_left (102 ∷ []) (decimal c.fifo ++ 10 ∷ (changes_text cs ++ r)) (decimal d.fifo ++ 10 ∷ (changes_text ds ++ s))
    number.1 in
    let fifo = cut 10 (decimal c.fifo) (decimal d.fifo) _ _ (decimal_lacks 10 c.fifo (omega arith) h.0)
    (decimal_lacks 10 d.fifo (omega arith) g.0) code in
    let more = changes_same cs ds r s nr ns h.1 g.1 fifo.1 in
    let same : c ≡ d = ap₂ (λ (i v : ℕ). let x : Change = record { fifo = i; fill = v } in x)
    (decimal_injective c.fifo d.fifo h.0 g.0 fifo.0) (binary_same c.fill d.fill number.0) in
    (ap₂ (λ (a : Change) (l : List Change). a ∷ l) same more.0, more.1)

-- ---- clock after clock

abbrev pub IsTimed : Instant → Type 0
IsTimed i = (i.clock < 2 ^ 64) × AllByRecursion IsWritten i.changes

abbrev pub instants_text : List Instant → List ℕ
instants_text is = text_of_lines (flat_map instant_lines is)

pub instant_parts : (i : Instant) (is : List Instant)
    → instants_text (i ∷ is) ≡ 35 ∷ (decimal i.clock ++ 10 ∷ (changes_text i.changes ++ instants_text is))
instant_parts i is =
    text-append (instant_lines i) (flat_map instant_lines is)
    ∙ (append_assoc (line (time_tokens i.clock)) (changes_text i.changes) (instants_text is)
    ∙ line_one (35 ∷ decimal i.clock) (changes_text i.changes ++ instants_text is))

no_change : (is : List Instant) → get_or (instants_text is) 0 0 ≢ 98
no_change [] e = absurd (omega arith)
no_change (i ∷ is) e =
    let wrong : 35 ≡ 98 = sym (ap (λ (l : List ℕ). get_or l 0 0) (instant_parts i is)) ∙ e in absurd (omega (arith, wrong))

pub instants_same : (is js : List Instant) → AllByRecursion IsTimed is → AllByRecursion IsTimed js
    → instants_text is ≡ instants_text js → is ≡ js
instants_same [] [] h g e = refl
instants_same [] (j ∷ js) h g e =
    let wrong : 0 ≡ 35 = ap (λ (l : List ℕ). get_or l 0 0) (e ∙ instant_parts j js) in absurd (omega (arith, wrong))
instants_same (i ∷ is) [] h g e =
    let wrong : 0 ≡ 35 = ap (λ (l : List ℕ). get_or l 0 0) (sym e ∙ instant_parts i is) in absurd (omega (arith, wrong))
instants_same (i ∷ is) (j ∷ js) h g e =
    let after = append_cancel_left (35 ∷ []) (decimal i.clock ++ 10 ∷ (changes_text i.changes ++ instants_text is))
    (decimal j.clock ++ 10 ∷ (changes_text j.changes ++ instants_text js))
    (sym (instant_parts i is) ∙ (e ∙ instant_parts j js)) in
    let time = cut 10 (decimal i.clock) (decimal j.clock) _ _ (decimal_lacks 10 i.clock (omega arith) h.0.0)
    (decimal_lacks 10 j.clock (omega arith) g.0.0) after in
    let changes = changes_same i.changes j.changes (instants_text is) (instants_text js) (no_change is) (no_change js) h.0.1 g.0.1 time.1 in
    let same : i ≡ j = ap₂ (λ (c : ℕ) (cs : List Change). let x : Instant = record { clock = c; changes = cs } in x)
    (decimal_injective i.clock j.clock h.0.0 g.0.0 time.0) changes.0 in
    ap₂ (λ (a : Instant) (l : List Instant). a ∷ l) same (instants_same is js h.1 g.1 changes.1)

-- ---- the whole text

abbrev pub opening_text : ℕ → List ℕ
opening_text n = text_of_lines (instant_lines (opening_instant n))

abbrev pub scope : List ℕ
scope = codes "$timescale 1 ns $end\n$scope module flow $end\n"

-- what stands after the names, without its first two bytes
abbrev pub end_of_scope : List ℕ
end_of_scope = codes "pscope $end\n$enddefinitions $end\n"

abbrev last_header : List (List Token)
last_header = (codes "$upscope $end" ∷ []) ∷ (codes "$enddefinitions $end" ∷ []) ∷ []

three : (a b c : List (List Token)) → text_of_lines (a ++ b ++ c) ≡ text_of_lines a ++ (text_of_lines b ++ text_of_lines c)
three a b c =
    text-append (a ++ b) c
    ∙ (ap (λ (t : List ℕ). t ++ text_of_lines c) (text-append a b) ∙ append_assoc (text_of_lines a) (text_of_lines b) (text_of_lines c))

pub wave_parts : (w : Wave)
    → wave_text w
    ≡ scope ++ (vars_from 0 w.names ++ 36 ∷ 117 ∷ (end_of_scope ++ (opening_text (length w.names) ++ instants_text w.later)))
unfolding wave_text
wave_parts w =
    let o = instant_lines (opening_instant (length w.names)) in
    let l = flat_map instant_lines w.later in
    let vs = map var_tokens (enumerate_from 0 w.names) in
    three (header_lines w.names) o l
    ∙ (ap (λ (t : List ℕ). t ++ (text_of_lines o ++ text_of_lines l)) (ap (λ (t : List ℕ). scope ++ t) (text-append vs last_header))
    ∙ (append_assoc scope (vars_from 0 w.names ++ text_of_lines last_header) (text_of_lines o ++ text_of_lines l)
    ∙ ap (λ (t : List ℕ). scope ++ t)
    (append_assoc (vars_from 0 w.names) (text_of_lines last_header) (text_of_lines o ++ text_of_lines l))))

pub names_long : (w : Wave) → length w.names ≤ length (wave_text w)
names_long w =
    let rest = 36 ∷ 117 ∷ (end_of_scope ++ (opening_text (length w.names) ++ instants_text w.later)) in
    let parts = ap length (wave_parts w) ∙ length-append scope (vars_from 0 w.names ++ rest) in
    omega (arith, parts, vars_long 0 w.names rest)

pub both : {X : Type 0} (P Q : X → Type 0) (xs : List X) → AllByRecursion P xs → AllByRecursion Q xs → AllByRecursion (λ x. P x × Q x) xs
both P Q [] h g = tt
both P Q (x ∷ xs) h g = ((h.0, g.0), both P Q xs h.1 g.1)

pub timed : (w : Wave) → IsWave w → length w.names < 2 ^ 64 → AllByRecursion IsTimed w.later
timed w h few =
    both (λ (i : Instant). i.clock < 2 ^ 64) (λ (i : Instant). AllByRecursion IsWritten i.changes) w.later
    (recursion_from_All (λ (i : Instant). i.clock < 2 ^ 64) w.later h.clocks)
    (all_map (λ (i : Instant). All (IsChange (length w.names)) i.changes) (λ (i : Instant). AllByRecursion IsWritten i.changes)
    (λ i all. all_map (IsChange (length w.names)) IsWritten (λ c g. omega (arith, g.declared)) i.changes
    (recursion_from_All (IsChange (length w.names)) i.changes all))
    w.later (recursion_from_All (λ (i : Instant). All (IsChange (length w.names)) i.changes) w.later h.changes))

pub names_lack : (w : Wave) → IsWave w → AllByRecursion (Lacks 32) w.names
names_lack w h =
    all_map (λ (n : List ℕ). IsTrue (is_name n)) (Lacks 32) name_lacks w.names
    (recursion_from_All (λ (n : List ℕ). IsTrue (is_name n)) w.names h.names)

pub one_wave : (v w : Wave) → IsWave v → IsWave w → length v.names < 2 ^ 64 → wave_text v ≡ wave_text w → v ≡ w
one_wave v w h g few e =
    let whole = append_cancel_left scope _ _ (sym (wave_parts v) ∙ (e ∙ wave_parts w)) in
    let names = vars_same 0 v.names w.names _ _ (names_lack v h) (names_lack w g) whole in
    let count = ap length names.0 in
    let rest = append_cancel_left end_of_scope _ _ names.1 in
    let later = append_cancel_left (opening_text (length v.names)) _ _
    (rest ∙ ap (λ (n : ℕ). opening_text n ++ instants_text w.later) (sym count)) in
    ap₂ (λ (a : List (List ℕ)) (b : List Instant). let x : Wave = record { names = a; later = b } in x) names.0
    (instants_same v.later w.later (timed v h few) (timed w g (omega (arith, count, few))) later)
