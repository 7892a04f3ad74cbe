-- What is read off the graph and the table at a step is what the theory's core tells.
use Rattle.std.proofs.Common.{◌≡◌, ℕ, ◌<◌, List, [], ◌∷◌, refl, sym, ap, ◌∙◌, Bool, true, false, not, ◌&&◌, cond, map, Some}
use Rattle.std.proofs.lemmas.List.Elements.{recursion_from_All}
use Rattle.std.specs.List.{find, AllByRecursion}
use Rattle.engine_report.specs.{Access, is_blocking, Plan, Lane, Channel, when_possible, answer, IsDesign, view, design, core_of, step_of}
use Rattle.engine_report.specs.{emitted_of, seen, as_known, IsSound, known_in, waits_at, doing_at, core_doing, must_wait, doing_of}
use Rattle.engine_report.specs.{doing_in}
use Rattle.event_timing.specs.{Known}
use Rattle.engine_view.specs.Held.{Held}
use Rattle.engine_view.proofs.Knowing.{access_known_in}
use Rattle.event_timing.specs.Machines as theory

same_doing : (lanes : List Lane) (channels : List Channel) (know : theory.Access → Known) (c : ℕ) (xs : List Access)
    → AllByRecursion (λ (a : Access). as_known (when_possible lanes channels a) ≡ know (seen a)) xs
    → doing_in lanes channels xs c ≡ doing_at (find (waits_at know c) (map seen xs))
same_doing lanes channels know c [] h = refl
same_doing lanes channels know c (a ∷ xs) h =
    by_test (must_wait lanes channels c a) (waits_at know c (seen a))
    (ap (λ (k : Known). is_blocking a.kind && not (answer k c)) h.0) (same_doing lanes channels know c xs h.1)
  where
    by_test : (b e : Bool) → b ≡ e → doing_in lanes channels xs c ≡ doing_at (find (waits_at know c) (map seen xs))
        → doing_of (cond b (Some a) (find (must_wait lanes channels c) xs))
        ≡ doing_at (cond e (Some (seen a)) (find (waits_at know c) (map seen xs)))
    by_test true true q h = refl
    by_test true false q h = cc
    by_test false true q h = cc
    by_test false false q h = h

-- of each emitted step
pub reads_core : (p : Plan) → IsDesign (design p) → (h : Held) → IsSound (design p) h → (i k c : ℕ) → k < emitted_of h i
    → doing_in h.lanes h.channels (step_of h i k).accesses c ≡ core_doing p (core_of (design p) h) i k c
reads_core p d h y i k c l =
    same_doing h.lanes h.channels (known_in (design p) (view (design p) (core_of (design p) h)) i k) c (step_of h i k).accesses
    (recursion_from_All _ (step_of h i k).accesses (access_known_in (design p) d h y i k l))
    ∙ ap (λ (xs : List theory.Access). doing_at (find (waits_at (known_in (design p) (view (design p) (core_of (design p) h)) i k) c) xs))
    (sym (y.accesses i k l))
