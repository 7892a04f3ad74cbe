-- A fetch_add of 1 on the count word keeps the rule, where the value that is out has one entry more.
use Rattle.std.proofs.Common.{◌≡◌, ◌≢◌, ℕ, ◌+◌, ◌%◌, ◌^◌, ◌<◌, ◌≤◌, List, [], ◌∷◌, ◌++◌, length, get_or, set, Option, Some, None, true}
use Rattle.std.proofs.Common.{false, sym, refl, ap, ◌∙◌, subst, arith, length-set, length-append, get_or-set_other, get_or-set_same}
use Rattle.std.proofs.Common.{mod-eq_of_lt}
use mathlib.Core.Option.{some, none, some-injective}
use mathlib.Core.List.{IsPrefix}
use lib.ListN.{get_elem?}
use Rattle.atomic_table.specs.Table.{State, Me, step, keeps, Allows}
use Rattle.atomic_table.proofs.Lists.{at_last}
use Rattle.turn_lock.specs.{PassView, Story, Knows, Ruled, entries_of, Owns, Views.after_entry, Steps.Added}
use Rattle.turn_lock.proofs.Histories.{prefix_self, prefix_more, entries_mine, entries_other}
use Rattle.turn_lock.proofs.Seats.{same_seat, seats_stay, mark_stays}

-- the history that the view names has the own entries, once the entry was put
pub owns_more : {E : Type 0} (bearer : E → Option ℕ) (log : List E) (e : E) (v : PassView E) → Owns bearer v.history v
    → log ≡ v.history ++ e ∷ [] → bearer e ≡ Some v.number → Owns bearer log (after_entry log e v)
owns_more bearer log e v before more bears_it = record {
  own = entries_mine bearer v.number v.own v.history log e before.own more bears_it;
  unborn = λ zeroth n above below. ap (entries_of bearer n) more ∙ (entries_other bearer n v.number v.history e bears_it
      (λ same. omega arith) ∙ before.unborn zeroth n above below);
}

module _ {K E : Type 0} (history : K → List E) (bearer : E → Option ℕ) (passes : ℕ) where
  abbrev Rule : State (Option K) (PassView E) → Type 0
  Rule = Ruled history bearer passes

  -- the holder's seat adds the entry e, which bears its number
  adds_to : (s : State (Option K) (PassView E)) (r : Rule s) (id : ℕ) (v : PassView E) (log : List E) (e : E)
      → get_elem? s.views id ≡ some v
      → v.spent ≡ false → v.is_holder ≡ true
      → log ≡ v.history ++ e ∷ [] → bearer e ≡ Some v.number → length log < 2 ^ 64
      → Rule record {
        words = set s.words 1 ((get_or s.words 1 0 + 1) % 2 ^ 64);
        homes = s.homes;
        views = set s.views id
            (after_entry log e v);
      }
  adds_to s r id v log e at live held longer bears_it fits = let mine = r.each id v at live in let mark = mine.mark held in
      let turn : ℕ = get_or s.words 0 0 in let shape = r.shape in
      let w : PassView E = after_entry log e v in
      let more : log ≡ r.story.history ++ e ∷ [] = longer ∙ ap (λ l. l ++ e ∷ []) mark.2 in
      let t : Story E = record r.story { history = log } in
      let n : ℕ = get_or s.words 1 0 in let count : n ≡ length r.story.history = r.counted in
      let one_more : length log ≡ length r.story.history + 1 = ap length more ∙ length-append r.story.history (e ∷ []) in
      let now : get_or (set s.words 1 ((n + 1) % 2 ^ 64)) 1 0 ≡ length log = get_or-set_same s.words 1 ((n + 1) % 2 ^ 64) 0 (omega arith)
      ∙ (mod-eq_of_lt (omega arith) ∙ omega arith) in
      let still : turn ≡ get_or (set s.words 1 ((n + 1) % 2 ^ 64)) 0 0 = sym
      (get_or-set_other s.words 1 0 ((n + 1) % 2 ^ 64) 0 (λ e. omega arith)) in
      let others_same : (k : ℕ) → v.number ≢ k → entries_of bearer k log ≡ entries_of bearer k r.story.history = λ k other. ap
      (entries_of bearer k) more ∙ entries_other bearer k v.number r.story.history e bears_it other in
      let grows : (xs : List E) → IsPrefix xs r.story.history → IsPrefix xs log = λ xs h. subst (IsPrefix xs) (sym more)
      (prefix_more xs r.story.history (e ∷ []) h) in
      let all_own : v.own ++ e ∷ [] ≡ entries_of bearer v.number log = entries_mine bearer v.number v.own r.story.history log e mine.own
      more bears_it in
      let low : v.number ≤ r.story.made = mine.low in record {
        story = t;
        shape = (length-set s.words 1 ((n + 1) % 2 ^ 64) ∙ shape.0, shape.1);
        turn = subst (λ b. b < 2) still r.turn;
        counted = now;
        free = λ z. let was : turn ≡ 0 = still ∙ z in let is : turn ≡ 1 = mark.1 in absurd (omega arith);
        taken = λ z. let was = r.taken (still ∙ z) in (was.0, mark_stays s.views id r.story.holder v w at refl refl was.1);
        each = subst (λ b. (j : ℕ) (u : PassView E) → get_elem? (set s.views id w) j ≡ some u → u.spent ≡ false
            → Knows bearer passes t b j u)
            still (seats_stay (Knows bearer passes t turn) s.views id w
            (λ _. record {
              begins = prefix_self log;
              mark = λ _. (mark.0, mark.1, refl);
              low = low;
              limit = mine.limit;
              placed = mine.placed;
              first = mine.first;
              lone = mine.lone;
              gone = mine.gone;
              own = all_own;
              own_seen = all_own;
            })
            (λ j u other there alive. let k = r.each j u there alive in record {
              begins = grows u.seen k.begins;
              mark = λ h. absurd (other ((k.mark h).0 ∙ sym mark.0));
              low = k.low;
              limit = k.limit;
              placed = k.placed;
              first = k.first;
              lone = k.lone;
              gone = k.gone;
              own = k.own ∙ sym (others_same u.number (λ same. other (same_seat r.story.seat_of u.number v.number j id k.placed mine.placed
                  (sym same))));
              own_seen = k.own_seen;
            }));
        past = λ k m there. let p = r.past k m there in
            record {
              positive = p.positive;
              low = p.low;
              own = p.own ∙ sym (others_same m.number (mine.gone k m there));
              seen = grows m.seen
                  p.seen;
              before = grows m.before p.before;
            };
        unborn = λ k above less. others_same k (λ same. omega arith) ∙ r.unborn k above less;
      }

  abbrev slot_or : K → Option K → K
  slot_or d (Some y) = y
  slot_or d None = d

  -- the value in the first slot that is out with a seat
  abbrev slot_value : K → List (ℕ × Option K) → K
  slot_value d [] = d
  slot_value d (c ∷ cs) = slot_or d c.1

  last_same : (xs : List E) (a b : E) → xs ++ a ∷ [] ≡ xs ++ b ∷ [] → a ≡ b
  last_same xs a b e = some-injective a b (sym (at_last xs a (length xs) refl)
      ∙ (ap (λ l. get_elem? l (length xs)) e ∙ at_last xs b (length xs) refl))

  pub adds : (slots id : ℕ) (me : Me (Option K) (PassView E)) (x : K) (e : E) → me.0.spent ≡ false → me.0.is_holder ≡ true
      → me.1 ≡ (0, Some x) ∷ [] → history x ≡ me.0.history ++ e ∷ [] → bearer e ≡ Some me.0.number
      → length (history x) < 2 ^ 64 → Allows Rule slots id me 1 (λ n. (n + 1) % 2 ^ 64) (Added history (step slots 1 1 0 none) me)
  adds slots id me x e live held carried longer bears_it fits s r deep at small = let v = me.0 in (
    after_entry (history x) e v,
    keeps,
    tt,
    adds_to s r id v (history x) e at live held longer bears_it fits,
    (
      refl,
      λ y d carried' longer'. let same : x ≡ y = ap (slot_value x) (sym carried ∙ carried') in
          let one : e ≡ d = last_same v.history e d (sym longer ∙ (ap history same ∙ longer')) in
          λ i. after_entry (history (same i)) (one i) v,
    ),
  )
