-- A step more among those that are kept.
use Rattle.std.proofs.Common.{◌≡◌, refl, subst, ap, ap₂, sym, ◌∙◌, ℕ, ◌+◌, ◌*◌, ◌^◌, ◌<◌, ◌≤◌, ◌==◌, nat_lt, inl, inr, Bool, true, false}
use Rattle.std.proofs.Common.{not, cond, List, [], ◌∷◌, ◌++◌, length, map, get_or, take, drop, arith, length-append, length-drop}
use Rattle.std.proofs.lemmas.List.{get_or_append_left, append-nil, map-append, drop-append-le, drop_at, drop-drop, take-append-drop}
use Rattle.std.proofs.lemmas.List.{append_assoc, get_or_at, get_or-append-add}
use Rattle.std.proofs.Math.Seq.{get_or-append_seam}
use Rattle.std.proofs.lemmas.Bool.{cases_order, cond_both, cond-true, cond-false, lt-ltb, le-ltb, eq-eqb, ne_eqb, ltb-true, and_parts}
use Rattle.std.proofs.lemmas.List.Elements.{All-head, All-tail, All-push}
use Rattle.std.specs.Prelude.{All}
use Rattle.event_graph.specs.{Access, Step, Head, packed, places_for, Form, no_form, form_at, step_form, words_for, step_of_form}
use Rattle.event_graph.specs.{most_words, whole_mark, long_mark, Store, nothing, packed_step, other_step, unpacked_step, IsPackedThere}
use Rattle.event_graph.specs.{IsStepThere, KeepsInside, IsStepKept, fit_head, step_head, head_words, count_words}
use Rattle.event_graph.proofs.Listed.{step_more, packed_few, step_back, words_back}

-- ---- what a step's head means, by its shape

module _ (store : Store) (head : Head) where
  pub opens_short : head.shape < whole_mark → unpacked_step store head ≡ packed_step store head.shape head.gap head.at
  unfolding unpacked_step
  opens_short h = cond-true (nat_lt head.shape whole_mark) (packed_step store head.shape head.gap head.at) (other_step store head)
      (lt-ltb head.shape whole_mark h)

  opens_other : whole_mark ≤ head.shape → unpacked_step store head ≡ other_step store head
  unfolding unpacked_step
  opens_other h = cond-false (nat_lt head.shape whole_mark) (packed_step store head.shape head.gap head.at) (other_step store head)
      (le-ltb head.shape whole_mark h)

  pub opens_whole : head.shape ≡ whole_mark → unpacked_step store head ≡ get_or store.others head.at nothing
  opens_whole h =
      opens_other (omega arith)
      ∙ cond-true (head.shape == whole_mark) (get_or store.others head.at nothing)
      (packed_step store (get_or store.words head.at 0) (get_or store.words (head.at + 1) 0) (head.at + 2))
      (eq-eqb head.shape whole_mark h)

  pub opens_long : whole_mark < head.shape
      → unpacked_step store head ≡ packed_step store (get_or store.words head.at 0) (get_or store.words (head.at + 1) 0) (head.at + 2)
  opens_long h =
      opens_other (omega arith)
      ∙ cond-false (head.shape == whole_mark) (get_or store.others head.at nothing)
      (packed_step store (get_or store.words head.at 0) (get_or store.words (head.at + 1) 0) (head.at + 2))
      (ne_eqb head.shape whole_mark (λ e. omega arith))

-- ---- what stood in the lists stays, with more after it

module _ (s : Store) (ws : List ℕ) (fs : List Form) (os : List Step) where
  abbrev grown : Store
  grown = record { words = s.words ++ ws; forms = s.forms ++ fs; others = s.others ++ os }

  record IsSame (shape at : ℕ) : Type 0 where
    there : IsPackedThere grown shape at
    same : (gap : ℕ) → packed_step grown shape gap at ≡ packed_step s shape gap at

  packed_more : (shape at : ℕ) → IsPackedThere s shape at → IsSame shape at
  packed_more shape at there =
      let form = get_or_append_left s.forms fs no_form shape there.shape in
      let inside = there.words in
      let more = length-append s.words ws in
      let within : at ≤ length s.words = omega arith in
      record {
        there = record {
          shape = let k = there.shape in omega (arith, length-append s.forms fs);
          words = subst (λ (f : Form). at + words_for f ≤ length (s.words ++ ws)) (sym form) (omega arith);
        };
        same = λ gap.
            ap₂ (λ (f : Form) (xs : List ℕ). step_of_form f gap xs) form (drop-append-le at s.words ws within)
            ∙ step_more (form_at s.forms shape) gap (drop at s.words) ws (omega (arith, length-drop at s.words));
      }

  module _ (head : Head) (there : IsStepThere s head) where
    long_more : whole_mark < head.shape → IsSame (get_or s.words head.at 0) (head.at + 2)
    long_more h = packed_more (get_or s.words head.at 0) (head.at + 2) (there.long h)

    word_more : (k : ℕ) → k < 2 → whole_mark < head.shape → get_or (s.words ++ ws) (head.at + k) 0 ≡ get_or s.words (head.at + k) 0
    word_more k few h = let l = (there.long h).words in get_or_append_left s.words ws 0 (head.at + k) (omega arith)

    first_more : whole_mark < head.shape → get_or (s.words ++ ws) head.at 0 ≡ get_or s.words head.at 0
    first_more h = let l = (there.long h).words in get_or_append_left s.words ws 0 head.at (omega arith)

    there_more : IsStepThere grown head
    there_more = record {
      short = λ h. (packed_more head.shape head.at (there.short h)).there;
      whole = λ h. let w = there.whole h in omega (arith, length-append s.others os);
      long = λ h. subst (λ (n : ℕ). IsPackedThere grown n (head.at + 2)) (sym (first_more h)) (long_more h).there;
    }

    same_more : unpacked_step grown head ≡ unpacked_step s head
    same_more = elim (cases_order head.shape whole_mark) [
      | inl e ↦ opens_whole grown head e
          ∙ (get_or_append_left s.others os nothing head.at (there.whole e) ∙ sym (opens_whole s head e))
      | inr rest ↦ elim rest [
        | inl lt ↦ opens_short grown head lt
            ∙ ((packed_more head.shape head.at (there.short lt)).same head.gap ∙ sym (opens_short s head lt))
        | inr gt ↦ opens_long grown head gt
            ∙ (ap₂ (λ (n g : ℕ). packed_step grown n g (head.at + 2)) (first_more gt) (word_more 1 (omega arith) gt)
            ∙ ((long_more gt).same (get_or s.words (head.at + 1) 0) ∙ sym (opens_long s head gt)))
      ]
    ]

  -- each step that the lists had is still there
  pub keeps_inside : (words : List ℕ) (forms : List Form) (others : List Step) → words ≡ s.words ++ ws → forms ≡ s.forms ++ fs
      → others ≡ s.others ++ os
      → KeepsInside s (record { words = words; forms = forms; others = others })
  keeps_inside words forms others w f o head there = rw (w, f, o) (there_more head there, same_more head there)

-- ---- a step more

still_opened : (heads : List Head) (old new : Store) → All (IsStepThere old) heads → KeepsInside old new
    → map (unpacked_step new) heads ≡ map (unpacked_step old) heads
still_opened [] old new inside kept = refl
still_opened (head ∷ heads) old new inside kept =
    let here = (kept head (All-head (IsStepThere old) head heads inside)).1 in
    let rest = still_opened heads old new (All-tail (IsStepThere old) head heads inside) kept in
    rw (here, rest) refl

still_inside : (heads : List Head) (old new : Store) → All (IsStepThere old) heads → KeepsInside old new → All (IsStepThere new) heads
still_inside heads old new inside kept = λ k d l. (kept (get_or heads k d) (inside k d l)).0

module _ (heads more : List Head) (old new : Store) (head : Head) (step : Step) (inside : All (IsStepThere old) heads)
    (pushed : more ≡ heads ++ head ∷ []) (is : IsStepKept old new step head) where
  -- the steps with one more
  pub opened_with : (steps : List Step) → map (unpacked_step old) heads ≡ steps → map (unpacked_step new) more ≡ steps ++ step ∷ []
  opened_with steps so =
      ap (map (unpacked_step new)) pushed
      ∙ (map-append (unpacked_step new) heads (head ∷ [])
      ∙ ap₂ (λ (xs : List Step) (x : Step). xs ++ x ∷ []) (still_opened heads old new inside is.before ∙ so) is.is)

  -- which are there
  pub inside_with : All (IsStepThere new) more
  inside_with = rw pushed (All-push (IsStepThere new) heads head (still_inside heads old new inside is.before) is.inside)

-- ---- the words of a step

-- they are added in three parts
pub joined : (old head count own first second third : List ℕ) → first ≡ old ++ head → second ≡ first ++ count → third ≡ second ++ own
    → third ≡ old ++ (head ++ (count ++ own))
joined old head count own first second third a b c =
    c
    ∙ (ap (λ (ws : List ℕ). ws ++ own) (b ∙ ap (λ (ws : List ℕ). ws ++ count) a)
    ∙ (append_assoc (old ++ head) count own ∙ append_assoc old head (count ++ own)))

head_words_few : (shape gap : ℕ) → length (head_words shape gap) ≤ 2
head_words_few shape gap =
    cond_both (fit_head shape gap) [] (shape ∷ gap ∷ []) (λ (ws : List ℕ). length ws ≤ 2) (λ _. omega arith) (λ _. omega arith)

count_words_few : (first_query : ℕ) → length (count_words first_query) ≤ 1
count_words_few first_query =
    cond_both (first_query == 0) [] (first_query ∷ []) (λ (ws : List ℕ). length ws ≤ 1) (λ _. omega arith) (λ _. omega arith)

-- they are few
pub words_few : (old new : List ℕ) (shape gap first_query : ℕ) (items : List Access)
    → new ≡ old ++ (head_words shape gap ++ (count_words first_query ++ packed items))
    → length new ≤ length old + most_words * places_for (length items)
words_few old new shape gap first_query items added =
    let a = head_words_few shape gap in
    let b = count_words_few first_query in
    let c = packed_few items in
    let own = count_words first_query ++ packed items in
    let l = length-append (count_words first_query) (packed items) in
    let m = length-append (head_words shape gap) own in
    let n = length-append old (head_words shape gap ++ own) in
    omega (arith, ap length added)

-- ---- a step that is kept as words

module _ (s : Store) (words' : List ℕ) (forms' : List Form) (shape gap first_query : ℕ) (items : List Access)
    (there : shape < length forms') (is : form_at forms' shape ≡ step_form items (not (first_query == 0))) where
  abbrev own : List ℕ
  own = count_words first_query ++ packed items

  abbrev new : Store
  new = record { words = words'; forms = forms'; others = s.others }

  abbrev step : Step
  step = record { gap = gap; accesses = items; first_query = first_query }

  record IsUnder (head : Head) : Type 0 where
    opens : unpacked_step new head ≡ step
    inside : IsStepThere new head

  packed_there : (at : ℕ) → length words' ≡ at + length own → IsPackedThere new shape at
  packed_there at long = record { shape = there; words = omega (arith, ap words_for is, words_back gap first_query items) }

  packed_is : (at : ℕ) → drop at words' ≡ own → packed_step new shape gap at ≡ step
  packed_is at after = ap₂ (λ (f : Form) (xs : List ℕ). step_of_form f gap xs) is after ∙ step_back gap first_query items

  under : (t : Bool) → fit_head shape gap ≡ t → words' ≡ s.words ++ (cond t [] (shape ∷ gap ∷ []) ++ own)
      → IsUnder (cond t (record { gap = gap; shape = shape; at = length s.words })
      (record { gap = 0; shape = long_mark; at = length s.words }))
  under true e added =
      let head : Head = record { gap = gap; shape = shape; at = length s.words } in
      let lt : shape < whole_mark = ltb-true shape whole_mark (and_parts (nat_lt shape whole_mark) (nat_lt gap (2 ^ 16)) e).0 in
      let after : drop (length s.words) words' ≡ own = rw added (drop_at s.words own (length s.words) refl) in
      record {
        opens = opens_short new head lt ∙ packed_is (length s.words) after;
        inside = record {
          short = λ h. packed_there (length s.words) (ap length added ∙ length-append s.words own);
          whole = λ h. absurd (omega arith);
          long = λ h. absurd (omega arith);
        };
      }
  under false e added =
      let head : Head = record { gap = 0; shape = long_mark; at = length s.words } in
      let rest : List ℕ = shape ∷ gap ∷ own in
      let first : get_or words' (length s.words) 0 ≡ shape = rw added (get_or_at s.words shape (gap ∷ own) 0 (length s.words) refl) in
      let second : get_or words' (length s.words + 1) 0 ≡ gap = rw added (get_or-append-add s.words rest 1 0) in
      let after : drop (length s.words + 2) words' ≡ own = rw added (sym (drop-drop 2 (length s.words) (s.words ++ rest))
      ∙ ap (drop 2) (drop_at s.words rest (length s.words) refl)) in
      let long : length words' ≡ length s.words + 2 + length own = omega (arith, ap length added, length-append s.words rest) in
      record {
        opens =
            opens_long new head (omega arith)
            ∙ (ap₂ (λ (n g : ℕ). packed_step new n g (length s.words + 2)) first second ∙ packed_is (length s.words + 2) after);
        inside = record {
          short = λ h. absurd (omega arith);
          whole = λ h. absurd (omega arith);
          long = λ h. subst (λ (n : ℕ). IsPackedThere new n (length s.words + 2)) (sym first) (packed_there (length s.words + 2) long);
        };
      }

  pub packed_kept : take (length s.forms) forms' ≡ s.forms → words' ≡ s.words ++ (head_words shape gap ++ own)
      → IsStepKept s new step (step_head shape gap (length s.words))
  packed_kept kept added =
      let u = under (fit_head shape gap) refl added in
      let later = drop (length s.forms) forms' in
      let forms_more : forms' ≡ s.forms ++ later = sym (ap (λ (fs : List Form). fs ++ later) (sym kept)
      ∙ take-append-drop (length s.forms) forms') in
      record {
        is = u.opens;
        inside = u.inside;
        before = keeps_inside s (head_words shape gap ++ own) later [] words' forms' s.others added forms_more (sym (append-nil s.others));
      }

-- ---- a step that is kept whole

pub whole_kept : (s : Store) (others' : List Step) (step : Step) → others' ≡ s.others ++ step ∷ []
    → IsStepKept s (record { words = s.words; forms = s.forms; others = others' }) step
    (record { gap = 0; shape = whole_mark; at = length s.others })
whole_kept s others' step joined =
    let new : Store = record { words = s.words; forms = s.forms; others = others' } in
    let head : Head = record { gap = 0; shape = whole_mark; at = length s.others } in
    record {
      is = opens_whole new head refl ∙ rw joined (get_or-append_seam s.others step [] nothing);
      inside = record {
        short = λ h. absurd (omega arith);
        whole = λ h. omega (arith, ap length joined, length-append s.others (step ∷ []));
        long = λ h. absurd (omega arith);
      };
      before = keeps_inside s [] [] (step ∷ []) s.words s.forms others' (sym (append-nil s.words)) (sym (append-nil s.forms)) joined;
    }
