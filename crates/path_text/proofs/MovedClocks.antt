-- The clocks in which elements were moved at a side, access by access.
use Rattle.std.proofs.Common.{◌≡◌, ◌≢◌, ℕ, ◌+◌, ◌<◌, List, [], ◌∷◌, ◌++◌, length, take, set, replicate, Bool, true, false, ◌&&◌, cond, refl}
use Rattle.std.proofs.Common.{sym, ◌∙◌, ap, subst, arith, get_or, inl, inr, is_some, eqb, length-set}
use Rattle.std.proofs.{lemmas.Bool.cases_eq, lemmas.Bool.ne_eqb, lemmas.List.Elements.filter-append}
use Rattle.std.proofs.lemmas.List.{append-nil, map-append, take_more, get_or-set_same, get_or-set_other, get_or-replicate, length-replicate}
use Rattle.std.specs.List.{filter}
use Rattle.path_text.specs.{Side, side_of, same_side, LoggedAccess, moved_at, access_clocks, passing_clocks, AreMoved}
use Rattle.stall_text.proofs.Accesses.{on}

clocks_last : (xs : List LoggedAccess) (a : LoggedAccess) (b : Bool)
    → access_clocks (xs ++ cond b (a ∷ []) []) ≡ cond b (access_clocks xs ++ a.event.cycle ∷ []) (access_clocks xs)
clocks_last xs a true = map-append (λ (x : LoggedAccess). x.event.cycle) xs (a ∷ [])
clocks_last xs a false = ap access_clocks (append-nil xs)

module _ (side : Side) (channels : ℕ) (log : List LoggedAccess) (k : ℕ) (d : LoggedAccess) (l : k < length log) where
  abbrev a : LoggedAccess
  a = get_or log k d

  -- those of channel f with the access, where it moved an element there
  abbrev with_it : ℕ → Bool → List ℕ
  with_it f b = cond b (passing_clocks (take k log) side f ++ a.event.cycle ∷ []) (passing_clocks (take k log) side f)

  more : (f : ℕ) → passing_clocks (take (k + 1) log) side f ≡ with_it f (moved_at (on side f) a)
  more f =
      ap (λ (xs : List LoggedAccess). access_clocks (filter (moved_at (on side f)) xs)) (take_more log k d l)
      ∙ (ap access_clocks (filter-append (moved_at (on side f)) (take k log) (a ∷ []))
      ∙ clocks_last (filter (moved_at (on side f)) (take k log)) a (moved_at (on side f) a))

  no_side : (some same b : Bool) → b ≡ false → (some && (same && b)) ≡ false
  no_side true true b e = e
  no_side true false b e = refl
  no_side false same b e = refl

  moved_other : (f : ℕ) → f ≢ a.event.channel → moved_at (on side f) a ≡ false
  moved_other f n = no_side (is_some a.value) (same_side side (side_of a.event.kind)) (eqb f a.event.channel) (ne_eqb f a.event.channel n)

  moved_nowhere : moved_at (on side a.event.channel) a ≡ false → (f : ℕ) → moved_at (on side f) a ≡ false
  moved_nowhere e f = elim (cases_eq f a.event.channel) [
    | inl w ↦ subst (λ (g : ℕ). moved_at (on side g) a ≡ false) (sym w) e
    | inr w ↦ moved_other f w
  ]

  pub moved_no : (clocks : List (List ℕ)) → moved_at (on side a.event.channel) a ≡ false → AreMoved side channels (take k log) clocks
      → AreMoved side channels (take (k + 1) log) clocks
  moved_no clocks e h = record {
    count = h.count;
    each = λ f m. h.each f m ∙ sym (more f ∙ ap (with_it f) (moved_nowhere e f));
  }

  pub moved_yes : (clocks new : List (List ℕ)) → a.event.channel < channels → moved_at (on side a.event.channel) a ≡ true
      → AreMoved side channels (take k log) clocks
      → new ≡ set clocks a.event.channel (get_or clocks a.event.channel [] ++ a.event.cycle ∷ [])
      → AreMoved side channels (take (k + 1) log) new
  moved_yes clocks new inside e h q =
      let g = a.event.channel in
      let one = get_or clocks g [] ++ a.event.cycle ∷ [] in
      record {
        count = ap length q ∙ (length-set clocks g one ∙ h.count);
        each = λ f m.
            ap (λ (all : List (List ℕ)). get_or all f []) q
            ∙ (elim (cases_eq f g) [
              | inl w ↦
                  subst (λ (x : ℕ). get_or (set clocks g one) x [] ≡ passing_clocks (take (k + 1) log) side x) (sym w)
                  (get_or-set_same clocks g one [] (let n = h.count in omega arith)
                  ∙ (ap (λ (xs : List ℕ). xs ++ a.event.cycle ∷ []) (h.each g inside) ∙ sym (more g ∙ ap (with_it g) e)))
              | inr w ↦ get_or-set_other clocks g f one [] w ∙ (h.each f m ∙ sym (more f ∙ ap (with_it f) (moved_other f w)))
            ]);
      }

pub moved_none : (side : Side) (channels : ℕ) (clocks : List (List ℕ)) → clocks ≡ replicate channels [] → AreMoved side channels [] clocks
moved_none side channels clocks e = record {
  count = ap length e ∙ length-replicate channels [];
  each = λ f l. ap (λ (all : List (List ℕ)). get_or all f []) e ∙ get_or-replicate channels f [] [] l;
}
