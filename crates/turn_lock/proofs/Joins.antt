-- Passes that are joined into the first one after the other, as what they know.
use Rattle.std.proofs.Common.{◌≡◌, ℕ, zero, suc, ◌+◌, List, [], ◌∷◌, ◌++◌, length, Option, Some, slice_get, refl, ap, ◌∙◌, subst, arith}
use Rattle.std.proofs.Common.{length-append}
use mathlib.Core.Option.{some}
use mathlib.Core.List.{IsPrefix}
use lib.ListN.{get_elem?}
use Rattle.atomic_table.proofs.Lists.{at_longer, at_last}
use Rattle.turn_lock.specs.{PassView, Joined, entries_of, AllJoined, ShowsJoined, ShowsAll, ShowsEach, AreAllMade}
use Rattle.turn_lock.specs.Views.{as_joined, after_join}

-- the first pass v, into which each of the passes was joined in turn
abbrev pub after_joins : {E : Type 0} → PassView E → List (PassView E) → PassView E
after_joins v [] = v
after_joins v (w ∷ ws) = after_joins (after_join v w) ws

module _ {E : Type 0} where
  pub after_joins-snoc : (v : PassView E) (ws : List (PassView E)) (w : PassView E) → after_joins v (ws ++ w ∷ [])
      ≡ after_join (after_joins v ws) w
  after_joins-snoc v [] w = refl
  after_joins-snoc v (x ∷ ws) w = after_joins-snoc (after_join v x) ws w

  -- the first pass keeps what is its own
  pub joins_keep : {A : Type 0} (f : PassView E → A) → ((v w : PassView E) → f (after_join v w) ≡ f v)
      → (v : PassView E) (ws : List (PassView E)) → f (after_joins v ws) ≡ f v
  joins_keep f keeps v [] = refl
  joins_keep f keeps v (w ∷ ws) = joins_keep f keeps (after_join v w) ws ∙ keeps v w

  -- what was joined before stays
  still_there : (v : PassView E) (ws : List (PassView E)) (k : ℕ) (m : Joined E) → get_elem? v.joined k ≡ some m
      → get_elem? (after_joins v ws).joined k ≡ some m
  still_there v [] k m e = e
  still_there v (w ∷ ws) k m e = still_there (after_join v w) ws k m (at_longer v.joined (as_joined v w ∷ []) k m e)

  -- the k-th pass stands k places after those that were joined before
  stands : (v : PassView E) (ws : List (PassView E)) (k : ℕ) (w : PassView E) (n : ℕ) → length v.joined ≡ n → slice_get ws k ≡ Some w
      → (u : PassView E) × (get_elem? (after_joins v ws).joined (n + k) ≡ some (as_joined u w))
  stands v [] k w n long e = absurd (cc)
  stands v (x ∷ ws) zero w n long e =
      let same : x ≡ w = cc e in
      let last = at_last v.joined (as_joined v x) (n + 0) (omega arith) in (
        v,
        subst (λ (y : PassView E). get_elem? (after_joins v (x ∷ ws)).joined (n + 0) ≡ some (as_joined v y)) same
            (still_there (after_join v x) ws (n + 0) (as_joined v x) last),
      )
  stands v (x ∷ ws) (suc k) w n long e =
      let l = length-append v.joined (as_joined v x ∷ []) in
      let t = stands (after_join v x) ws k w (n + 1) (omega arith) e in
      let next : (n + 1) + k ≡ n + suc k = omega arith in
      (t.0, subst (λ i. get_elem? (after_joins v (x ∷ ws)).joined i ≡ some (as_joined t.0 w)) next t.1)

  -- where the passes are all that the first made, in whatever order, all are joined after them
  pub all_joined : (v : PassView E) (ws : List (PassView E)) → AreAllMade v ws → AllJoined (after_joins v ws)
  all_joined v ws all n above below =
      let same = joins_keep (λ u. u.made) (λ _ _. refl) v ws in
      let (k, w, at, is) = all n above (omega arith) in
      let t = stands v ws k w (length v.joined) refl at in
      (length v.joined + k, as_joined t.0 w, t.1, is)

  -- the history begins with what the first pass had seen before the joins
  seen_before : (bearer : E → Option ℕ) (log : List E) (v : PassView E) (ws : List (PassView E))
      → ((k : ℕ) (m : Joined E) → get_elem? (after_joins v ws).joined k ≡ some m → ShowsJoined bearer log m)
      → IsPrefix (after_joins v ws).seen log → IsPrefix v.seen log
  seen_before bearer log v [] shows last = last
  seen_before bearer log v (x ∷ ws) shows last =
      let at = length v.joined in
      (shows at (as_joined v x) (still_there (after_join v x) ws at (as_joined v x) (at_last v.joined (as_joined v x) at refl))).before

  -- what the close says of the first pass after the joins it says of each pass
  pub shows_each : (bearer : E → Option ℕ) (log : List E) (v : PassView E) (ws : List (PassView E)) → v.number ≡ 0
      → ShowsAll bearer (after_joins v ws) log → ShowsEach bearer v ws log
  shows_each bearer log v ws zeroth all =
      let made = joins_keep (λ u. u.made) (λ _ _. refl) v ws in
      let limit = joins_keep (λ u. u.passes) (λ _ _. refl) v ws in record {
        first = record {
          seen = seen_before bearer log v ws all.joined all.seen;
          own = ap (λ n. entries_of bearer n log) zeroth ∙ (all.own ∙ joins_keep (λ u. u.own) (λ _ _. refl) v ws);
        };
        others = λ k w e.
            let t = stands v ws k w (length v.joined) refl e in
            let shown = all.joined (length v.joined + k) (as_joined t.0 w) t.1 in
            record { seen = shown.seen; own = shown.own };
        unborn = λ n above below. all.unborn n (omega arith) (omega arith);
      }
