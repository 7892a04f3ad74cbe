-- Splitting a seat keeps the rule.
use Rattle.std.proofs.Common.{◌≡◌, ◌≢◌, ℕ, ◌+◌, ◌<◌, ◌≤◌, List, [], length, get_or, set, Option, false, true≢false, subst, sym, refl, ap}
use Rattle.std.proofs.Common.{◌∙◌, ⊎_elim, arith, cond, eqb, eq-eqb, ne_eqb}
use mathlib.Core.Option.{some}
use lib.ListN.{get_elem?}
use Rattle.atomic_table.specs.Table.{Splits}
use Rattle.turn_lock.specs.{PassView, entries_of, Story, Knows, Ruled, Views.after_split, Views.split_off}
use Rattle.turn_lock.proofs.{Histories.at_end, Histories.none_before, Seats.same_seat, Seats.seats_stay, Seats.mark_stays, Seats.mark_later}

-- a `seat_of` that sends the number n to the seat j
abbrev placed : (ℕ → ℕ) → ℕ → ℕ → ℕ → ℕ
placed f n j k = cond (eqb k n) j (f k)

placed_here : (f : ℕ → ℕ) (n j : ℕ) → placed f n j n ≡ j
placed_here f n j = ap (λ b. cond b j (f n)) (eq-eqb n n refl)

placed_else : (f : ℕ → ℕ) (n j k : ℕ) → k ≢ n → placed f n j k ≡ f k
placed_else f n j k other = ap (λ b. cond b j (f k)) (ne_eqb k n other)

module _ {K E : Type 0} (history : K → List E) (bearer : E → Option ℕ) (passes : ℕ) where
  -- the first pass makes another
  pub splits : (id : ℕ) (v : PassView E) → v.spent ≡ false → v.number ≡ 0 → v.made + 1 < v.passes
      → Splits (Ruled history bearer passes) id v (after_split v) (split_off v)
  splits id v live zeroth room s r at = let mine = r.each id v at live in let u : PassView E = after_split v in
      let w : PassView E = split_off v in
      let n : ℕ = v.made + 1 in
      let counts : v.made ≡ r.story.made = (mine.first zeroth).0 in let limit : v.passes ≡ passes = mine.limit in
      let last : ℕ = length (set s.views id u) in let turn : ℕ = get_or s.words 0 0 in
      let none : entries_of bearer n r.story.history ≡ [] = r.unborn n (omega arith) (omega arith) in
      let t : Story E = record {
        history = r.story.history;
        made = n;
        joined = r.story.joined;
        holder = r.story.holder;
        seat_of = placed
            r.story.seat_of n last;
      } in record {
        story = t;
        shape = r.shape;
        turn = r.turn;
        counted = r.counted;
        free = r.free;
        taken = λ e. let was = r.taken e in
            (was.0, mark_later (set s.views id u) w r.story.holder (mark_stays s.views id r.story.holder v u at refl refl was.1));
        each = λ j x there alive. ⊎_elim
            (λ (e : get_elem? (set s.views id u) j ≡ some x). seats_stay (Knows bearer passes t turn) s.views id u
            (λ _. record {
              begins = mine.begins;
              mark = mine.mark;
              low = omega arith;
              limit = mine.limit;
              placed = placed_else r.story.seat_of n last v.number (λ e. omega arith) ∙ mine.placed;
              first = λ _. (refl, (mine.first zeroth).1);
              lone = λ other. absurd (other zeroth);
              gone = mine.gone;
              own = mine.own;
              own_seen = mine.own_seen;
            })
            (λ i y other here living. let k = r.each i y here living in let low = k.low in record {
              begins = k.begins;
              mark = k.mark;
              low = omega arith;
              limit = k.limit;
              placed = placed_else r.story.seat_of n last y.number (λ e. omega arith) ∙ k.placed;
              first = λ z. absurd (other (same_seat r.story.seat_of y.number v.number i id k.placed mine.placed (z ∙ sym zeroth)));
              lone = k.lone;
              gone = k.gone;
              own = k.own;
              own_seen = k.own_seen;
            }) j x e alive)
            (λ (e : (j ≡ last) × (w ≡ x)). subst (λ (p : ℕ × PassView E). Knows bearer passes t turn p.0 p.1)
            (λ i. (sym e.0 i, e.1 i)) record {
              begins = mine.begins;
              mark = λ h. absurd (true≢false (sym h));
              low = omega arith;
              limit = mine.limit;
              placed = placed_here r.story.seat_of n last;
              first = λ z. absurd (omega arith);
              lone = λ _. refl;
              gone = λ k m e. let low : m.number ≤ r.story.made = (r.past k m e).low in λ same. omega arith;
              own = sym none;
              own_seen = sym (none_before bearer n v.seen r.story.history mine.begins none);
            })
            (at_end (set s.views id u) w x j there);
        past = λ k m e. let p = r.past k m e in let low : m.number ≤ r.story.made = p.low in
            record { positive = p.positive; low = omega arith; own = p.own; seen = p.seen; before = p.before };
        unborn = λ k more less. r.unborn k (omega arith) less;
      }
