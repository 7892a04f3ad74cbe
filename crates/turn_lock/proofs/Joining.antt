-- Joining a seat keeps the rule.
use Rattle.std.proofs.Common.{◌≡◌, ◌≢◌, ℕ, List, [], ◌∷◌, ◌++◌, length, get_or, set, Option, false, true≢false, sym, refl, ap, ◌∙◌, subst}
use Rattle.std.proofs.Common.{⊎_elim, arith}
use mathlib.Core.Option.{some}
use lib.ListN.{get_elem?}
use Rattle.atomic_table.specs.Table.{Joins}
use Rattle.atomic_table.proofs.Lists.{set_else}
use Rattle.turn_lock.specs.{PassView, Joined, Story, Knows, Past, Ruled, Views.spent_view, Views.as_joined, Views.after_join}
use Rattle.turn_lock.proofs.Histories.{prefix_longer, entries_longer, at_end}
use Rattle.turn_lock.proofs.Seats.{same_seat, seats_stay, mark_stays, mark_at}

module _ {K E : Type 0} (history : K → List E) (bearer : E → Option ℕ) (passes : ℕ) where
  -- the pass w of the seat `other` is joined into the first pass v
  pub joins : (id : ℕ) (v : PassView E) (other : ℕ) (w : PassView E) → v.spent ≡ false → v.number ≡ 0 → w.spent ≡ false
      → w.is_holder ≡ false
      → Joins (Ruled history bearer passes) id v other w (after_join v w) spent_view
  joins id v other w live zeroth w_live w_free s r at apart there = let u : PassView E = after_join v w in
      let vs : List (PassView E) = set s.views id u in let turn : ℕ = get_or s.words 0 0 in
      let there' : get_elem? s.views other ≡ some w = sym (set_else s.views id other u apart) ∙ there in
      let mine = r.each id v at live in let theirs = r.each other w there' w_live in
      let positive : w.number ≢ 0 = λ z. apart (same_seat r.story.seat_of w.number v.number other id theirs.placed mine.placed
      (z ∙ sym zeroth)) in
      let m' : Joined E = as_joined v w in
      let t : Story E = record r.story { joined = r.story.joined ++ m' ∷ [] } in
      let goes : (x : PassView E) → x.number ≢ w.number
      → ((k : ℕ) (m : Joined E) → get_elem? r.story.joined k ≡ some m → x.number ≢ m.number)
      → (k : ℕ) (m : Joined E) → get_elem? (r.story.joined ++ m' ∷ []) k ≡ some m → x.number ≢ m.number =
      λ x new old k m e. ⊎_elim (old k m) (λ (y : (k ≡ length r.story.joined) × (m' ≡ m)). λ same. new
      (same ∙ ap (λ z. z.number) (sym y.1))) (at_end r.story.joined m' m k e) in record {
        story = t;
        shape = r.shape;
        turn = r.turn;
        counted = r.counted;
        free = r.free;
        taken = λ e. let was = r.taken e in let still = mark_stays s.views id r.story.holder v u at refl refl was.1 in (
          was.0,
          (
            still.0,
            set_else vs other r.story.holder spent_view (λ same. true≢false
                (sym (mark_at vs r.story.holder other still.0 w still.1 there same still.3) ∙ w_free)) ∙ still.1,
            still.2,
            still.3,
          ),
        );
        each = seats_stay (Knows bearer passes t turn) vs other spent_view (λ spent. absurd (true≢false spent))
            (λ j x not_other e alive. seats_stay (λ i y. i ≢ other → Knows bearer passes t turn i y) s.views id u
            (λ _ _. record {
              begins = prefix_longer v.seen w.seen r.story.history mine.begins theirs.begins;
              mark = mine.mark;
              low = mine.low;
              limit = mine.limit;
              placed = mine.placed;
              first = λ _. ((mine.first zeroth).0, ap (λ l. l ++ m' ∷ []) (mine.first zeroth).1);
              lone = λ not. absurd (not zeroth);
              gone = goes v (λ same. positive (sym same ∙ zeroth)) mine.gone;
              own = mine.own;
              own_seen = entries_longer bearer v.number v.own v.seen w.seen r.story.history mine.begins theirs.begins mine.own_seen
                  mine.own;
            })
            (λ i y not_first here living not_there. let k = r.each i y here living in record {
              begins = k.begins;
              mark = k.mark;
              low = k.low;
              limit = k.limit;
              placed = k.placed;
              first = λ z. absurd (not_first (same_seat r.story.seat_of y.number v.number i id k.placed mine.placed (z ∙ sym zeroth)));
              lone = k.lone;
              gone = goes y (λ same. not_there (same_seat r.story.seat_of y.number w.number i other k.placed theirs.placed same)) k.gone;
              own = k.own;
              own_seen = k.own_seen;
            }) j x e alive not_other);
        past = λ k m e. ⊎_elim (r.past k m)
            (λ (y : (k ≡ length r.story.joined) × (m' ≡ m)). subst (Past bearer r.story.history r.story.made) y.1
            record { positive = omega arith; low = theirs.low; own = theirs.own; seen = theirs.begins; before = mine.begins })
            (at_end r.story.joined m' m k e);
        unborn = r.unborn;
      }
