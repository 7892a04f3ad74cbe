-- What was written of a text, and what is pending of it.
use Rattle.std.proofs.Common.{◌≡◌, ◌∙◌, ap, ap₂, sym, refl, subst, arith, ℕ, zero, suc, ◌+◌, ◌-◌, ◌≤◌, min, List, [], ◌∷◌, ◌++◌, zero-add}
use Rattle.std.proofs.Common.{length, map, take, drop, append-nil, append_assoc, None, Some}
use Rattle.std.proofs.{lemmas.Grind.common_steps, lemmas.List.map-append, lemmas.List.take-append-drop, lemmas.List.Concat.flat_map-append}
use Rattle.std.specs.{declared.option.Option.Option, Io.KnownBytes.Appends, List.flat_map, List.range_with_len}
use Rattle.sim_io.specs.{AppendsPrefix, IsTold}
use Rattle.sim_io.proofs.Pieces.{appends_both}

-- ---- what was appended

pub appends_none : (o : Option (List ℕ)) → Appends o o []
appends_none None = tt
appends_none (Some x) = sym (append-nil x)

take_first : (xs ys : List ℕ) → take (length xs) (xs ++ ys) ≡ xs
take_first xs ys = grind (arith, common_steps)

-- what was appended is a prefix of what begins with it
pub prefix_of_longer : (a b : Option (List ℕ)) (xs ys : List ℕ) → Appends a b xs → AppendsPrefix a b (xs ++ ys)
prefix_of_longer a b xs ys h = record { count = length xs; appended = rw (take_first xs ys) h }

-- nothing is a prefix of all
pub prefix_none : (o : Option (List ℕ)) (text : List ℕ) → AppendsPrefix o o text
prefix_none o text = record { count = 0; appended = appends_none o }

-- a prefix of a text is one of what begins with it
pub prefix_longer : (a b : Option (List ℕ)) (xs ys : List ℕ) → AppendsPrefix a b xs → AppendsPrefix a b (xs ++ ys)
prefix_longer a b xs ys h = record { count = min h.count (length xs); appended = rw (shorter_take xs ys h.count) h.appended }
  where
    shorter_take : (xs ys : List ℕ) (n : ℕ) → take (min n (length xs)) (xs ++ ys) ≡ take n xs
    shorter_take xs ys n = grind (arith, common_steps)

take_after : (xs ys : List ℕ) (n : ℕ) → take (length xs + n) (xs ++ ys) ≡ xs ++ take n ys
take_after [] ys n = ap (λ (k : ℕ). take k ys) (zero-add n)
take_after (x ∷ xs) ys n =
    let longer : length (x ∷ xs) + n ≡ suc (length xs + n) = omega arith in
    ap (λ (k : ℕ). take k (x ∷ xs ++ ys)) longer ∙ ap (λ (t : List ℕ). x ∷ t) (take_after xs ys n)

-- a text, and then a prefix of another
pub prefix_after : (a b c : Option (List ℕ)) (xs ys : List ℕ) → Appends a b xs → AppendsPrefix b c ys → AppendsPrefix a c (xs ++ ys)
prefix_after a b c xs ys h k = record {
  count = length xs + k.count;
  appended = rw (take_after xs ys k.count) (appends_both a b c xs (take k.count ys) h k.appended);
}

-- ---- what is pending

-- nothing was sent yet
pub told_none : (o : Option (List ℕ)) (pending : List ℕ) → IsTold o o pending pending
told_none o pending = record { sent = []; appended = appends_none o; whole = refl }

-- all of it was sent
pub told_all : (a b : Option (List ℕ)) (text : List ℕ) → Appends a b text → IsTold a b [] text
told_all a b text h = record { sent = text; appended = h; whole = append-nil text }

-- the same text
pub told_as : (a b : Option (List ℕ)) (pending text same : List ℕ) → IsTold a b pending text → text ≡ same → IsTold a b pending same
told_as a b pending text same h e = subst (IsTold a b pending) e h

-- more is pending, of which a piece may have been sent
pub told_more : (a b c : Option (List ℕ)) (pending left text more : List ℕ) → IsTold a b pending text → IsTold b c left (pending ++ more)
    → IsTold a c left (text ++ more)
told_more a b c pending left text more h k = record {
  sent = h.sent ++ k.sent;
  appended = appends_both a b c h.sent k.sent h.appended k.appended;
  whole = append_assoc h.sent k.sent left ∙ (ap (λ (t : List ℕ). h.sent ++ t) k.whole
      ∙ (sym (append_assoc h.sent pending more) ∙ ap (λ (t : List ℕ). t ++ more) h.whole));
}

-- more is pending, and nothing was sent
pub told_kept : (a b : Option (List ℕ)) (pending new text more : List ℕ) → IsTold a b pending text → new ≡ pending ++ more
    → IsTold a b new (text ++ more)
told_kept a b pending new text more h e =
    told_more a b b pending new text more h (subst (IsTold b b new) e (told_none b new))

-- ---- where a fault comes

-- what was sent of a text is a prefix of what begins with it
pub told_prefix : (a b : Option (List ℕ)) (pending text more : List ℕ) → IsTold a b pending text → AppendsPrefix a b (text ++ more)
told_prefix a b pending text more h =
    subst (λ (t : List ℕ). AppendsPrefix a b (t ++ more)) h.whole
    (rw (append_assoc h.sent pending more) (prefix_of_longer a b h.sent (pending ++ more) h.appended))

-- and so is what was sent of what was pending and more
pub told_prefix_more : (a b c : Option (List ℕ)) (pending text more rest : List ℕ) → IsTold a b pending text
    → AppendsPrefix b c (pending ++ more) → AppendsPrefix a c ((text ++ more) ++ rest)
told_prefix_more a b c pending text more rest h k =
    prefix_longer a c (text ++ more) rest (subst (λ (t : List ℕ). AppendsPrefix a c (t ++ more)) h.whole
    (rw (append_assoc h.sent pending more) (prefix_after a b c h.sent (pending ++ more) h.appended k)))

pub prefix_as : (a b : Option (List ℕ)) (text same : List ℕ) → AppendsPrefix a b text → text ≡ same → AppendsPrefix a b same
prefix_as a b text same h e = subst (AppendsPrefix a b) e h

-- ---- the rest of a text of many parts

-- the texts of the first items, and of the others
pub items_rest : {X Y : Type 0} (text_of : Y → List ℕ) (f : X → Y) (first : List ℕ) (xs : List X) (n : ℕ)
    → (first ++ flat_map text_of (map f (take n xs))) ++ flat_map text_of (map f (drop n xs)) ≡ first ++ flat_map text_of (map f xs)
items_rest {X} {Y} text_of f first xs n =
    append_assoc first (flat_map text_of (map f (take n xs))) (flat_map text_of (map f (drop n xs)))
    ∙ ap (λ (t : List ℕ). first ++ t)
    (sym (flat_map-append text_of (map f (take n xs)) (map f (drop n xs)))
    ∙ ap (flat_map text_of) (sym (map-append f (take n xs) (drop n xs)) ∙ ap (map f) (take-append-drop n xs)))

pub range_both : (a n m : ℕ) → range_with_len a (n + m) ≡ range_with_len a n ++ range_with_len (a + n) m
range_both a zero m = ap₂ range_with_len (omega arith) (omega arith)
range_both a (suc n) m =
    let here : suc n + m ≡ suc (n + m) = omega arith in
    let there : (a + 1) + n ≡ a + suc n = omega arith in
    ap (range_with_len a) here ∙ ap (λ (l : List ℕ). a ∷ l) (range_both (a + 1) n m ∙ ap (λ (j : ℕ). range_with_len (a + 1) n ++
    range_with_len j m) there)

-- the items of the first numbers, and of the others
pub numbered_rest : {Y : Type 0} (g : ℕ → List Y) (a n m : ℕ) → n ≤ m
    → flat_map g (range_with_len a n) ++ flat_map g (range_with_len (a + n) (m - n)) ≡ flat_map g (range_with_len a m)
numbered_rest g a n m most =
    let count : n + (m - n) ≡ m = omega (arith, most) in
    sym (flat_map-append g (range_with_len a n) (range_with_len (a + n) (m - n)))
    ∙ ap (flat_map g) (sym (range_both a n (m - n)) ∙ ap (range_with_len a) count)
