-- A store of 0 in the turn word keeps the rule, where the slot comes home with a value of the history that the view names.
use Rattle.std.proofs.Common.{◌≡◌, ℕ, List, [], ◌∷◌, get_or, set, Option, Some, true, false, true≢false, sym, refl, ap, ◌∙◌, subst, arith}
use Rattle.std.proofs.Common.{length-set, get_or-set_other, get_or-set_same}
use mathlib.Core.Option.{some, none}
use mathlib.Core.List.{IsPrefix}
use lib.ListN.{get_elem?}
use Rattle.atomic_table.specs.Table.{State, Me, step, gives, Allows}
use Rattle.atomic_table.proofs.Lists.{set_here}
use Rattle.turn_lock.specs.{PassView, entries_of, Knows, Ruled, CanEnd, Views.after_turn, Steps.Freed}
use Rattle.turn_lock.proofs.{Histories.prefix_self, Seats.seats_stay, Seats.unmarked}

module _ {K E : Type 0} (history : K → List E) (bearer : E → Option ℕ) (passes : ℕ) where
  abbrev Rule : State (Option K) (PassView E) → Type 0
  Rule = Ruled history bearer passes

  -- the holder gives the value back
  gives_back : (s : State (Option K) (PassView E)) (r : Rule s) (id : ℕ) (v : PassView E) (x : K) → get_elem? s.views id ≡ some v
      → v.spent ≡ false
      → v.is_holder ≡ true → history x ≡ v.history
      → Rule record { words = set s.words 0 0; homes = set s.homes 0 (some (Some x)); views = set s.views id (after_turn v) }
  gives_back s r id v x at live held same = let mine = r.each id v at live in let mark = mine.mark held in let shape = r.shape in
      let t = r.story in
      let own : v.own ≡ entries_of bearer v.number v.history = mine.own ∙ ap (entries_of bearer v.number) (sym mark.2) in record {
        story = t;
        shape = (length-set s.words 0 0 ∙ shape.0, length-set s.homes 0 (some (Some x)) ∙ shape.1);
        turn = let now : get_or (set s.words 0 0) 0 0 ≡ 0 = get_or-set_same s.words 0 0 0 (omega arith) in omega arith;
        counted = get_or-set_other s.words 0 1 0 0 (λ e. omega arith) ∙ r.counted;
        free = λ _. (x, set_here s.homes 0 (some (Some x)) (omega arith), same ∙ mark.2);
        taken = λ e. let now : get_or (set s.words 0 0) 0 0 ≡ 0 = get_or-set_same s.words 0 0 0 (omega arith) in absurd (omega arith);
        each = seats_stay (Knows bearer passes t (get_or (set s.words 0 0) 0 0)) s.views id (after_turn v)
            (λ _. record {
              begins = subst (λ l. IsPrefix l t.history) (sym mark.2) (prefix_self t.history);
              mark = λ h. absurd (true≢false (sym h));
              low = mine.low;
              limit = mine.limit;
              placed = mine.placed;
              first = mine.first;
              lone = mine.lone;
              gone = mine.gone;
              own = mine.own;
              own_seen = own;
            })
            (λ j u other there alive. let k = r.each j u there alive in
            unmarked bearer passes t t.holder (get_or s.words 0 0) (get_or (set s.words 0 0) 0 0) j u
            (λ h. other ((k.mark h).0 ∙ sym mark.0)) k);
        past = r.past;
        unborn = r.unborn;
      }

  frees_at : (slots id : ℕ) (v : PassView E) (x : K) → v.spent ≡ false → v.is_holder ≡ true → history x ≡ v.history
      → Allows Rule slots id (v, (0, Some x) ∷ []) 0 (λ _. 0) (λ _. Freed (step slots 0 0 0 none) (v, (0, Some x) ∷ []) 0)
  frees_at slots id v x live held same s r deep at small = (after_turn v, gives, tt, gives_back s r id v x at live held same, (refl, refl))

  pub frees : (slots id : ℕ) (me : Me (Option K) (PassView E)) → CanEnd history me
      → Allows Rule slots id me 0 (λ _. 0) (λ _. Freed (step slots 0 0 0 none) me 0)
  frees slots id me can = let carried = can.carried in
      subst (λ (c : List (ℕ × Option K)). Allows Rule slots id (me.0, c) 0 (λ _. 0) (λ _. Freed (step slots 0 0 0 none) (me.0, c) 0))
      (sym carried.1) (frees_at slots id me.0 carried.0 can.alive can.mark carried.2)
