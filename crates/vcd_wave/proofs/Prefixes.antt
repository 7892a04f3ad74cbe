-- What stands before the later clocks.
use Rattle.std.proofs.Common.{◌≡◌, ℕ, suc, ◌+◌, ◌-◌, ◌^◌, ◌<◌, ◌≤◌, true, false, List, [], ◌∷◌, ◌++◌, length, take, drop, nat_eq, ◌⊎◌, inl}
use Rattle.std.proofs.Common.{inr, refl, sym, ◌∙◌, ap, arith, subst, get_or, append_assoc, length-append}
use Rattle.std.proofs.lemmas.List.{take-append-drop, append_cancel_left, take_rest}
use Rattle.std.proofs.Math.Seq.{take-append_seam, drop-append_seam}
use Rattle.std.specs.{Prelude.IsTrue, Prelude.codes, Prelude.decimal, List.AllByRecursion}
use Rattle.std.specs.Cmp.Lexicographic.{same_text, other_text, pointwise}
use Rattle.vcd_wave.specs.{is_name, numeral, declaring, NamesFrom, empty_text, empty_from}
use Rattle.vcd_wave.proofs.{Cutting.cut, Cutting.name_lacks, Numerals.numeral_decimal, Numerals.lacks_each}
use Rattle.vcd_wave.proofs.OneWave.{vars_from, var_parts, change_parts}

pub prefix_is : (text prefix : List ℕ) → true ≡ pointwise nat_eq prefix (take (length prefix) text)
    → text ≡ prefix ++ drop (length prefix) text
prefix_is text prefix e =
    sym (take-append-drop (length prefix) text)
    ∙ ap (λ (l : List ℕ). l ++ drop (length prefix) text) (sym (same_text prefix (take (length prefix) text) e))

pub prefix_rest : (text prefix rest : List ℕ) → text ≡ prefix ++ rest → drop (length prefix) text ≡ rest
prefix_rest text prefix rest e = ap (drop (length prefix)) e ∙ drop-append_seam prefix rest

pub prefix_not : (text prefix rest : List ℕ) → false ≡ pointwise nat_eq prefix (take (length prefix) text) → text ≡ prefix ++ rest → ⊥
prefix_not text prefix rest e is =
    other_text prefix (take (length prefix) text) e (sym (ap (take (length prefix)) is ∙ take-append_seam prefix rest))

-- ---- names

named_vars : (n : ℕ) (x : List ℕ) (xs : List (List ℕ)) (r : List ℕ) → n < 2 ^ 64
    → declaring n x (vars_from (n + 1) xs ++ r) ≡ vars_from n (x ∷ xs) ++ r
named_vars n x xs r h =
    let end = x ++ 32 ∷ (codes "$end\n" ++ (vars_from (n + 1) xs ++ r)) in
    ap (λ (d : List ℕ). codes "$var wire 32 f" ++ (d ++ 32 ∷ end)) (numeral_decimal n h)
    ∙ (ap (λ (t : List ℕ). codes "$var wire 32 f" ++ t) (sym (append_assoc (decimal n) (32 ∷ []) end)) ∙ sym (var_parts n x xs r))

pub names_more : (n : ℕ) (text name after : List ℕ) (m : ℕ) (r : List ℕ) → n < 2 ^ 64 → IsTrue (is_name name)
    → text ≡ declaring n name after → NamesFrom (n + 1) after m r → NamesFrom n text m r
names_more n text name after m r l is e h = record {
  names = name ∷ h.names;
  all = (is, h.all);
  counted = omega (arith, h.counted);
  is_text = e ∙ (ap (declaring n name) h.is_text ∙ named_vars n name h.names (36 ∷ 117 ∷ r) l);
}

record NamesFirst (n : ℕ) (text : List ℕ) (m : ℕ) (r : List ℕ) : Type 0 where
  name : List ℕ
  after : List ℕ
  is : IsTrue (is_name name)
  is_text : text ≡ declaring n name after
  more : NamesFrom (n + 1) after m r

first_from : (n : ℕ) (text : List ℕ) (m : ℕ) (r : List ℕ) (xs : List (List ℕ)) → n < 2 ^ 64
    → AllByRecursion (λ x. IsTrue (is_name x)) xs → m ≡ n + length xs → text ≡ vars_from n xs ++ 36 ∷ 117 ∷ r
    → ((text ≡ 36 ∷ 117 ∷ r) × (n ≡ m)) ⊎ NamesFirst n text m r
first_from n text m r [] l a c e = inl (e, omega (arith, c))
first_from n text m r (x ∷ xs) l a c e = inr (record {
  name = x;
  after = vars_from (n + 1) xs ++ 36 ∷ 117 ∷ r;
  is = a.0;
  is_text = e ∙ sym (named_vars n x xs (36 ∷ 117 ∷ r) l);
  more = record { names = xs; all = a.1; counted = omega (arith, c); is_text = refl };
})

names_first : (n : ℕ) (text : List ℕ) (m : ℕ) (r : List ℕ) → n < 2 ^ 64 → NamesFrom n text m r
    → ((text ≡ 36 ∷ 117 ∷ r) × (n ≡ m)) ⊎ NamesFirst n text m r
names_first n text m r l h = first_from n text m r h.names l h.all h.counted h.is_text

second : List ℕ → ℕ
second t = get_or t 1 0

pub names_end : (n : ℕ) (text end : List ℕ) (m : ℕ) (r : List ℕ) → n < 2 ^ 64 → text ≡ 36 ∷ 117 ∷ end → NamesFrom n text m r
    → (n ≡ m) × (end ≡ r)
names_end n text end m r l e h = elim (names_first n text m r l h) [
  | inl x ↦ (x.1, append_cancel_left (36 ∷ 117 ∷ []) end r (sym e ∙ x.0))
  | inr f ↦ absurd (let wrong : 117 ≡ 118 = ap (λ (t : List ℕ). get_or t 1 0) (sym e ∙ f.is_text) in omega (arith, wrong))
]

pub names_stuck : (n : ℕ) (text : List ℕ) (m : ℕ) (r : List ℕ) → n < 2 ^ 64
    → ((rest : List ℕ) → text ≡ 36 ∷ 117 ∷ rest → ⊥)
    → ((name rest : List ℕ) → IsTrue (is_name name) → text ≡ declaring n name rest → ⊥) → NamesFrom n text m r → ⊥
names_stuck n text m r l a b h = elim (names_first n text m r l h) [
  | inl x ↦ a r x.0
  | inr f ↦ b f.name f.after f.is f.is_text
]

pub names_on : (n : ℕ) (text name after : List ℕ) (m : ℕ) (r : List ℕ) → n < 2 ^ 64 → text ≡ declaring n name after
    → ((other rest : List ℕ) → IsTrue (is_name other) → text ≡ declaring n other rest → after ≡ rest) → NamesFrom n text m r
    → NamesFrom (n + 1) after m r
names_on n text name after m r l e same h = elim (names_first n text m r l h) [
  | inl x ↦ absurd (let wrong : 117 ≡ 118 = ap (λ (t : List ℕ). get_or t 1 0) (sym x.0 ∙ e) in omega (arith, wrong))
  | inr f ↦ subst (λ (t : List ℕ). NamesFrom (n + 1) t m r) (sym (same f.name f.after f.is f.is_text)) f.more
]

pub name_long : (n : ℕ) (text name after : List ℕ) → text ≡ declaring n name after → length after + 1 ≤ length text
name_long n text name after e =
    omega (
      arith,
      ap length e,
      length-append (numeral 10 n) (32 ∷ (name ++ 32 ∷ (codes "$end\n" ++ after))),
      length-append name (32 ∷ (codes "$end\n" ++ after)),
    )

-- ---- lines of names

pub name_cut : (name other end line rest : List ℕ) → line ≡ name ++ 32 ∷ end → ((i : ℕ) → i < length name → get_or name i 0 ≡ 32 → ⊥)
    → IsTrue (is_name other) → line ≡ other ++ 32 ∷ rest → (name ≡ other) × (end ≡ rest)
name_cut name other end line rest e lacks is f = cut 32 name other end rest (lacks_each 32 name lacks) (name_lacks other is) (sym e ∙ f)

-- ---- lines of FIFOs that are empty

empty_step : (n more : ℕ) (r : List ℕ) → n < 2 ^ 64
    → codes "b0 f" ++ (numeral 10 n ++ 10 ∷ (empty_text (n + 1) more ++ r)) ≡ empty_text n (suc more) ++ r
unfolding numeral
empty_step n more r h =
    ap (λ (d : List ℕ). 98 ∷ (numeral 2 0 ++ 32 ∷ 102 ∷ (d ++ 10 ∷ (empty_text (n + 1) more ++ r)))) (numeral_decimal n h)
    ∙ sym (change_parts (record { fifo = n; fill = 0 }) (empty_from (n + 1) more) r)

pub empty_on : (n count : ℕ) (rest after r : List ℕ) → n < count → count < 2 ^ 64
    → rest ≡ codes "b0 f" ++ (numeral 10 n ++ 10 ∷ after) → after ≡ empty_text (n + 1) (count - (n + 1)) ++ r
    → rest ≡ empty_text n (count - n) ++ r
empty_on n count rest after r l few e f =
    e ∙ (ap (λ (t : List ℕ). codes "b0 f" ++ (numeral 10 n ++ 10 ∷ t)) f
    ∙ (empty_step n (count - (n + 1)) r (omega arith)
    ∙ ap (λ (k : ℕ). empty_text n k ++ r) (let one : suc (count - (n + 1)) ≡ count - n = omega arith in one)))

pub empty_back : (n count : ℕ) (rest r : List ℕ) → n < count → count < 2 ^ 64 → rest ≡ empty_text n (count - n) ++ r
    → rest ≡ codes "b0 f" ++ (numeral 10 n ++ 10 ∷ (empty_text (n + 1) (count - (n + 1)) ++ r))
empty_back n count rest r l few e =
    e ∙ (ap (λ (k : ℕ). empty_text n k ++ r) (let one : count - n ≡ suc (count - (n + 1)) = omega arith in one)
    ∙ sym (empty_step n (count - (n + 1)) r (omega arith)))

pub front_taken : (text prefix : List ℕ) → true ≡ pointwise nat_eq prefix (take (length prefix) text)
    → text ≡ prefix ++ take (length text - length prefix) (drop (length prefix) text)
front_taken text prefix e = prefix_is text prefix e ∙ ap (λ (l : List ℕ). prefix ++ l) (sym (take_rest text (length prefix)))
