-- Lines that grow.
use Rattle.std.proofs.Common.{◌≡◌, ℕ, ◌+◌, ◌<◌, List, [], ◌∷◌, ◌++◌, refl, sym, ap, ◌∙◌, arith, map, length, take, get_or, append_assoc}
use Rattle.std.proofs.Common.{Bool, cond, zero-add, add-one, ltb, ◌-◌, ◌≤◌}
use Rattle.std.proofs.{Math.Seq.take-suc, lemmas.List.Concat.flat_map-append, lemmas.List.Elements.filter-append, lemmas.Bool.lt-ltb}
use Rattle.std.proofs.lemmas.List.{append-nil, map-append}
use Rattle.std.proofs.lemmas.List.FromFn.{map-range_with_len_more, length-map-range_with_len}
use Rattle.std.specs.{Prelude.codes, List.flat_map, List.filter, List.range_with_len}
use Rattle.trace_text.specs.{further, joined_lines}
use Rattle.flow_word.proofs.Ranges.{range_more}
use Rattle.sim_io.proofs.Pending.{numbered_rest}

pub further-append : (xs ys : List (List ℕ)) → further (xs ++ ys) ≡ further xs ++ further ys
further-append xs ys = flat_map-append (λ (e : List ℕ). codes ",\n" ++ e) xs ys

pub further-one : (e : List ℕ) → further (e ∷ []) ≡ codes ",\n" ++ e
further-one e = append-nil (codes ",\n" ++ e)

pub further-push : (xs : List (List ℕ)) (e : List ℕ) → further (xs ++ e ∷ []) ≡ further xs ++ (codes ",\n" ++ e)
further-push xs e = further-append xs (e ∷ []) ∙ ap (λ (l : List ℕ). further xs ++ l) (further-one e)

-- the events of one item more
pub items_more : {X : Type 0} (g : X → List ℕ) (xs : List X) (k : ℕ) (d : X) (first text comma next : List ℕ) → k < length xs
    → text ≡ first ++ further (map g (take k xs)) → comma ≡ text ++ codes ",\n" → next ≡ comma ++ g (get_or xs k d)
    → next ≡ first ++ further (map g (take (k + 1) xs))
items_more {X} g xs k d first text comma next l e q r =
    let more : take (k + 1) xs ≡ take k xs ++ get_or xs k d ∷ [] = ap (λ (n : ℕ). take n xs) (add-one k) ∙ take-suc xs k d l in
    r ∙ (ap (λ (t : List ℕ). t ++ g (get_or xs k d)) (q ∙ ap (λ (t : List ℕ). t ++ codes ",\n") e)
    ∙ (append_assoc (first ++ further (map g (take k xs))) (codes ",\n") (g (get_or xs k d))
    ∙ (append_assoc first (further (map g (take k xs))) (codes ",\n" ++ g (get_or xs k d))
    ∙ ap (λ (t : List ℕ). first ++ t)
    (sym (further-push (map g (take k xs)) (g (get_or xs k d)))
    ∙ (ap further (sym (map-append g (take k xs) (get_or xs k d ∷ []))) ∙ ap (λ (l : List X). further (map g l)) (sym more))))))

-- the events of one number more
pub numbers_more : (g : ℕ → List (List ℕ)) (n : ℕ) (first text next : List ℕ) → text ≡ first ++ further (flat_map g (range_with_len 0 n))
    → next ≡ text ++ further (g n) → next ≡ first ++ further (flat_map g (range_with_len 0 (n + 1)))
numbers_more g n first text next e r =
    let more : range_with_len 0 (n + 1) ≡ range_with_len 0 n ++ n ∷ [] =
    ap (range_with_len 0) (add-one n) ∙ (range_more 0 n ∙ ap (λ (k : ℕ). range_with_len 0 n ++ k ∷ []) (zero-add n)) in
    r ∙ (ap (λ (t : List ℕ). t ++ further (g n)) e
    ∙ (append_assoc first (further (flat_map g (range_with_len 0 n))) (further (g n))
    ∙ ap (λ (t : List ℕ). first ++ t)
    (sym (further-append (flat_map g (range_with_len 0 n)) (g n))
    ∙ (ap further (sym (flat_map-append g (range_with_len 0 n) (n ∷ [])
    ∙ ap (λ (l : List (List ℕ)). flat_map g (range_with_len 0 n) ++ l) (append-nil (g n))))
    ∙ ap (λ (l : List ℕ). further (flat_map g l)) (sym more)))))

-- the numbers that pass a test
pub passed_more : (test : ℕ → Bool) (n : ℕ)
    → filter test (range_with_len 0 (n + 1)) ≡ filter test (range_with_len 0 n) ++ cond (test n) (n ∷ []) []
passed_more test n =
    let more : range_with_len 0 (n + 1) ≡ range_with_len 0 n ++ n ∷ [] =
    ap (range_with_len 0) (add-one n) ∙ (range_more 0 n ∙ ap (λ (k : ℕ). range_with_len 0 n ++ k ∷ []) (zero-add n)) in
    ap (filter test) more ∙ filtered (range_with_len 0 n)
  where
    filtered : (xs : List ℕ) → filter test (xs ++ n ∷ []) ≡ filter test xs ++ cond (test n) (n ∷ []) []
    filtered xs = filter-append test xs (n ∷ [])

-- the first events with one more
lines_push : (xs : List (List ℕ)) (e : List ℕ) → joined_lines (xs ++ e ∷ [])
    ≡ (joined_lines xs ++ cond (ltb 0 (length xs)) (44 ∷ []) []) ++ 10 ∷ e
lines_push [] e = ap (λ (l : List ℕ). codes "\n" ++ l) (append-nil e)
lines_push (x ∷ xs) e =
    ap (λ (t : List ℕ). (codes "\n" ++ x) ++ t) (further-push xs e)
    ∙ (sym (append_assoc (codes "\n" ++ x) (further xs) (codes ",\n" ++ e))
    ∙ (sym (append_assoc ((codes "\n" ++ x) ++ further xs) (44 ∷ []) (10 ∷ e))
    ∙ ap (λ (b : Bool). (((codes "\n" ++ x) ++ further xs) ++ cond b (44 ∷ []) []) ++ 10 ∷ e)
    (sym (lt-ltb 0 (length (x ∷ xs)) (omega arith)))))

pub names_more : (g : ℕ → List ℕ) (n : ℕ) (first text comma line next : List ℕ) → text ≡ first ++ joined_lines (map g (range_with_len 0 n))
    → comma ≡ text ++ cond (ltb 0 n) (44 ∷ []) [] → line ≡ comma ++ 10 ∷ [] → next ≡ line ++ g n
    → next ≡ first ++ joined_lines (map g (range_with_len 0 (n + 1)))
names_more g n first text comma line next e q r s =
    let xs = map g (range_with_len 0 n) in
    let count : length xs ≡ n = length-map-range_with_len g 0 n in
    let commas = cond (ltb 0 n) (44 ∷ []) [] in
    let made = r ∙ ap (λ (t : List ℕ). t ++ 10 ∷ []) (q ∙ ap (λ (t : List ℕ). t ++ commas) e) in
    let grown = ap (λ (k : ℕ). (joined_lines xs ++ cond (ltb 0 k) (44 ∷ []) []) ++ 10 ∷ g n) (sym count)
    ∙ (sym (lines_push xs (g n)) ∙ ap joined_lines (sym (map-range_with_len_more g 0 n n (zero-add n)))) in
    s ∙ (ap (λ (t : List ℕ). t ++ g n) made ∙ (simp append_assoc (ap (λ (t : List ℕ). first ++ t) (simp append_assoc at grown))))

-- events and then further ones
lines-append : (xs ys : List (List ℕ)) → (xs ≡ [] → ys ≡ []) → joined_lines (xs ++ ys) ≡ joined_lines xs ++ further ys
lines-append [] ys h = ap joined_lines (h refl) ∙ ap further (sym (h refl))
lines-append (x ∷ xs) ys h =
    ap (λ (t : List ℕ). (codes "\n" ++ x) ++ t) (further-append xs ys) ∙ sym (append_assoc (codes "\n" ++ x) (further xs) (further ys))

-- the events of the other numbers, after those of the first
pub numbers_rest : (g : ℕ → List (List ℕ)) (k n : ℕ) (first : List ℕ) → k ≤ n
    → (first ++ further (flat_map g (range_with_len 0 k))) ++ further (flat_map g (range_with_len (0 + k) (n - k)))
    ≡ first ++ further (flat_map g (range_with_len 0 n))
numbers_rest g k n first most =
    append_assoc first (further (flat_map g (range_with_len 0 k))) (further (flat_map g (range_with_len (0 + k) (n - k))))
    ∙ ap (λ (t : List ℕ). first ++ t)
    (sym (further-append (flat_map g (range_with_len 0 k)) (flat_map g (range_with_len (0 + k) (n - k))))
    ∙ ap further (numbered_rest g 0 k n most))

-- the whole text
pub whole : (opening names spans fills closing a b c d e : List ℕ) → a ≡ opening → b ≡ a ++ names → c ≡ b ++ spans → d ≡ c ++ fills
    → e ≡ d ++ closing → e ≡ (opening ++ (names ++ (spans ++ fills))) ++ closing
whole opening names spans fills closing a b c d e p q r s t =
    t ∙ ap (λ (l : List ℕ). l ++ closing)
    (s ∙ (ap (λ (l : List ℕ). l ++ fills) (r ∙ ap (λ (l : List ℕ). l ++ spans) (q ∙ ap (λ (l : List ℕ). l ++ names) p))
    ∙ (append_assoc (opening ++ names) spans fills ∙ append_assoc opening names (spans ++ fills))))

pub whole_lines : (names spans fills : List (List ℕ)) → (names ≡ [] → spans ++ fills ≡ [])
    → joined_lines names ++ (further spans ++ further fills) ≡ joined_lines ((names ++ spans) ++ fills)
whole_lines names spans fills h =
    ap (λ (t : List ℕ). joined_lines names ++ t) (sym (further-append spans fills))
    ∙ (sym (lines-append names (spans ++ fills) h) ∙ ap joined_lines (sym (append_assoc names spans fills)))
