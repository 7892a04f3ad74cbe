-- What the rule says once each pass was joined into the first.
use Rattle.std.proofs.Common.{◌≡◌, ◌≢◌, ℕ, ◌≤◌, List, get_or, Option, Some, true, false, true≢false, sym, ap, ◌∙◌, subst, arith}
use mathlib.Core.Logic.{dite}
use mathlib.Core.Option.{some}
use native.Mathlib.Decide.{ℕ_discrete}
use lib.ListN.{get_elem?}
use Rattle.atomic_table.specs.Table.{State, Final, Seen}
use Rattle.turn_lock.specs.{PassView, entries_of, AllJoined, ShowsAll, IsHome, Ruled}
use Rattle.turn_lock.proofs.Seats.{same_seat, mark_at}

module _ {K E : Type 0} (history : K → List E) (bearer : E → Option ℕ) (passes : ℕ) where
  abbrev Rule : State (Option K) (PassView E) → Type 0
  Rule = Ruled history bearer passes

  -- a pass that holds the turn is none of those that were joined, and is not the first
  none_holds : (s : State (Option K) (PassView E)) (r : Rule s) (id : ℕ) (v : PassView E) (j : ℕ) (u : PassView E)
      → get_elem? s.views id ≡ some v
      → v.spent ≡ false → v.is_holder ≡ false → v.number ≡ 0 → AllJoined v
      → get_elem? s.views j ≡ some u → u.spent ≡ false → u.is_holder ≢ true
  none_holds s r id v j u at live out zeroth all there alive held = let mine = r.each id v at live in let theirs = r.each j u there alive in
      dite (ℕ_discrete u.number 0)
      (λ z. true≢false (sym (mark_at s.views j id u v there at (same_seat r.story.seat_of u.number v.number j id theirs.placed mine.placed
      (z ∙ sym zeroth)) held) ∙ out))
      (λ positive. let low : u.number ≤ r.story.made = theirs.low in let first = mine.first zeroth in
      let counts : v.made ≡ r.story.made = first.0 in let m = all u.number (omega arith) (omega arith) in
      theirs.gone m.0 m.1 (ap (λ l. get_elem? l m.0) (sym first.1) ∙ m.2) (sym m.3))

  -- no pass is left to hold the turn, so the value is home
  is_home : (s : State (Option K) (PassView E)) (r : Rule s) (id : ℕ) (v : PassView E) → get_elem? s.views id ≡ some v → v.spent ≡ false
      → v.is_holder ≡ false → v.number ≡ 0 → AllJoined v → IsHome history s.homes r.story.history
  is_home s r id v at live out zeroth all = dite (ℕ_discrete (get_or s.words 0 0) 0) r.free
      (λ not_free. let turn = r.turn in let is : get_or s.words 0 0 ≡ 1 = omega arith in
      let held = (r.taken is).1 in absurd (none_holds s r id v r.story.holder held.0 at live out zeroth all held.1 held.2 held.3))

  -- what the rule says of the history to the first pass
  shows_all : (s : State (Option K) (PassView E)) (r : Rule s) (id : ℕ) (v : PassView E) → get_elem? s.views id ≡ some v → v.spent ≡ false
      → v.number ≡ 0 → ShowsAll bearer v r.story.history
  shows_all s r id v at live zeroth = let mine = r.each id v at live in let made : v.made ≡ r.story.made = (mine.first zeroth).0 in
      let limit : v.passes ≡ passes = mine.limit in record {
        seen = mine.begins;
        own = ap (λ n. entries_of bearer n r.story.history) (sym zeroth) ∙ sym mine.own;
        joined = λ k m e. let p = r.past k m (ap (λ l. get_elem? l k) (sym (mine.first zeroth).1) ∙ e) in
            record { own = sym p.own; seen = p.seen; before = p.before };
        unborn = λ n above below. r.unborn n (omega arith) (omega arith);
      }

  -- the slot has a value whose history shows all
  abbrev pub Closes : PassView E → List (Option K) → Type 0
  Closes v xs = (x : K) × (get_elem? xs 0 ≡ some (Some x)) × ShowsAll bearer v (history x)

  pub closes : (id : ℕ) (v : PassView E) (ws : List ℕ) (xs : List (Option K)) → v.spent ≡ false → v.is_holder ≡ false → v.number ≡ 0
      → AllJoined v → Final (Seen Rule id v) ws xs → Closes v xs
  closes id v ws xs live out zeroth all f = let s = f.0 in let r = f.1.0 in let at = f.1.1 in
      let home = is_home s r id v at live out zeroth all in
      (home.0, f.4 0 (Some home.0) home.1, subst (ShowsAll bearer v) (sym home.2) (shows_all s r id v at live zeroth))
