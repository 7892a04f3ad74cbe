-- A swap of 1 on the turn word keeps the rule, and tells whether the turn was free.
use Rattle.std.proofs.Common.{◌≡◌, ℕ, List, get_or, set, Option, Some, false, sym, refl, ap, ◌∙◌, subst, arith, length-set}
use Rattle.std.proofs.Common.{get_or-set_other, get_or-set_same}
use mathlib.Core.Logic.{dite}
use mathlib.Core.Option.{some, none}
use mathlib.Core.List.{IsPrefix}
use native.Mathlib.Decide.{ℕ_discrete}
use lib.ListN.{get_elem?}
use lib.Seq.{set-get_or}
use Rattle.atomic_table.specs.Table.{State, Me, step, keeps, takes, Allows}
use Rattle.atomic_table.proofs.Lists.{set_here}
use Rattle.turn_lock.specs.{PassView, entries_of, Continues, Story, Knows, Ruled, Steps.Swapped, Views.as_holder, Views.after_lost_tries}
use Rattle.turn_lock.proofs.{Histories.none_later, Seats.inside, Seats.seats_stay, Seats.mark_stays, Seats.unmarked}

module _ {K E : Type 0} (history : K → List E) (bearer : E → Option ℕ) (passes : ℕ) where
  abbrev Rule : State (Option K) (PassView E) → Type 0
  Rule = Ruled history bearer passes

  -- the turn was taken
  misses : (s : State (Option K) (PassView E)) (r : Rule s) (id : ℕ) (v : PassView E) → get_elem? s.views id ≡ some v → v.spent ≡ false
      → get_or s.words 0 0 ≡ 1
      → Rule record { words = set s.words 0 1; homes = s.homes; views = set s.views id (after_lost_tries 1 v) }
  misses s r id v at live is = let w : PassView E = after_lost_tries 1 v in let mine = r.each id v at live in
      subst (λ (n : ℕ). Rule record { words = set s.words 0 n; homes = s.homes; views = set s.views id w }) is
      (subst (λ (ws : List ℕ). Rule record { words = ws; homes = s.homes; views = set s.views id w }) (sym (set-get_or s.words 0 0))
      record {
        story = r.story;
        shape = r.shape;
        turn = r.turn;
        counted = r.counted;
        free = r.free;
        taken = λ t. let was = r.taken t in (was.0, mark_stays s.views id r.story.holder v w at refl refl was.1);
        each = seats_stay (Knows bearer passes r.story (get_or s.words 0 0)) s.views id w
            (λ _. record {
              begins = mine.begins;
              mark = mine.mark;
              low = mine.low;
              limit = mine.limit;
              placed = mine.placed;
              first = mine.first;
              lone = mine.lone;
              gone = mine.gone;
              own = mine.own;
              own_seen = mine.own_seen;
            })
            (λ j u _. r.each j u);
        past = r.past;
        unborn = r.unborn;
      })

  -- the turn was free
  wins : (s : State (Option K) (PassView E)) (r : Rule s) (id : ℕ) (v : PassView E) (x : K) → get_elem? s.views id ≡ some v
      → v.spent ≡ false
      → get_or s.words 0 0 ≡ 0 → history x ≡ r.story.history
      → Rule record { words = set s.words 0 1; homes = set s.homes 0 none; views = set s.views id (as_holder (history x) v) }
  wins s r id v x at live is same = let w : PassView E = as_holder (history x) v in let mine = r.each id v at live in let shape = r.shape in
      let t : Story E = record r.story { holder = id } in
      let now : get_or (set s.words 0 1) 0 0 ≡ 1 = get_or-set_same s.words 0 1 0 (omega arith) in record {
        story = t;
        shape = (length-set s.words 0 1 ∙ shape.0, length-set s.homes 0 none ∙ shape.1);
        turn = omega arith;
        counted = get_or-set_other s.words 0 1 1 0 (λ e. omega arith) ∙ r.counted;
        free = λ e. absurd (omega arith);
        taken = λ _. (set_here s.homes 0 none (omega arith), (w, set_here s.views id w (inside s.views id v at), live, refl));
        each = seats_stay (Knows bearer passes t (get_or (set s.words 0 1) 0 0)) s.views id w
            (λ _. record {
              begins = mine.begins;
              mark = λ _. (refl, now, same);
              low = mine.low;
              limit = mine.limit;
              placed = mine.placed;
              first = mine.first;
              lone = mine.lone;
              gone = mine.gone;
              own = mine.own;
              own_seen = mine.own_seen;
            })
            (λ j u _ there alive. let k = r.each j u there alive in
            unmarked bearer passes r.story id (get_or s.words 0 0) (get_or (set s.words 0 1) 0 0) j u
            (λ h. let was : get_or s.words 0 0 ≡ 1 = (k.mark h).1 in omega arith) k);
        past = r.past;
        unborn = r.unborn;
      }

  -- what the history says to a pass
  goes_on : (s : State (Option K) (PassView E)) (r : Rule s) (id : ℕ) (v : PassView E) (log : List E) → get_elem? s.views id ≡ some v
      → v.spent ≡ false → log ≡ r.story.history → Continues bearer v log
  goes_on s r id v log at live is = let mine = r.each id v at live in record {
    begins = subst (IsPrefix v.seen) (sym is) mine.begins;
    owns = record {
      own = mine.own ∙ ap (entries_of bearer v.number) (sym is);
      unborn = λ z n above below. let made : v.made ≡ r.story.made = (mine.first z).0 in let limit : v.passes ≡ passes = mine.limit in
          ap (entries_of bearer n) is ∙ r.unborn n (omega arith) (omega arith);
    };
    since = λ later e. none_later bearer v.number v.seen later log e (ap (entries_of bearer v.number) is ∙ (sym mine.own ∙ mine.own_seen));
  }

  pub swaps : (slots id : ℕ) (me : Me (Option K) (PassView E)) → me.0.spent ≡ false
      → Allows Rule slots id me 0 (λ _. 1) (Swapped history bearer (step slots 0 1 0 none) me)
  swaps slots id me live s r deep at small = dite (ℕ_discrete (get_or s.words 0 0) 0)
      (λ hit. let home = r.free hit in let x = home.0 in (
        as_holder (history x) me.0,
        takes 0 (Some x),
        home.1,
        wins s r id me.0 x at live hit home.2,
        ((λ _. (x, refl, refl, goes_on s r id me.0 (history x) at live home.2)), λ miss. absurd (miss hit)),
      ))
      (λ miss. let turn = r.turn in let n : ℕ = get_or s.words 0 0 in let is : n ≡ 1 = omega arith in (
        after_lost_tries 1 me.0,
        keeps,
        tt,
        misses s r id me.0 at live is,
        ((λ hit. absurd (miss hit)), λ _. refl),
      ))
