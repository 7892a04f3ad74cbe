-- What is decided of queries, by the graph and the table, is what the theory answers.
use Rattle.std.proofs.Common.{arith, ◌≡◌, refl, ap, ◌∙◌, ℕ, ◌<◌, List, [], ◌∷◌, length, map}
use Rattle.std.proofs.lemmas.List.Elements.{All-head, All-tail}
use Rattle.std.specs.Prelude.{All}
use Rattle.engine_view.specs.{Access, Lane, lane_at, Channel, when_possible, Design, IsDesign, view, first_accesses, new_flags, known_of}
use Rattle.engine_view.specs.{all_decided, flags_at, step_of, emitted_of, seen, core_of, IsSound, as_known, found_flags, are_decided}
use Rattle.engine_view.specs.Held.{Held}
use Rattle.event_timing.specs.{Known}
use Rattle.engine_view.proofs.Knowing.{access_known}
use Rattle.time_engine.specs.declared.known.Known as of_code
use Rattle.time_engine.specs.declared.known.Known.TheVariants as code
use Rattle.event_timing.specs.Machines as theory

pub flags_found : (lanes : List Lane) (channels : List Channel) (know : theory.Access → Known) (c : ℕ) (xs : List Access)
    → All (λ (a : Access). as_known (when_possible lanes channels a) ≡ know (seen a)) xs
    → flags_at know c (map seen xs) ≡ found_flags lanes channels c xs
flags_found lanes channels know c [] all = refl
flags_found lanes channels know c (a ∷ xs) all =
    rw (
      ← (All-head (λ (a : Access). as_known (when_possible lanes channels a) ≡ know (seen a)) a xs all),
      flags_found lanes channels know c xs (All-tail (λ (a : Access). as_known (when_possible lanes channels a) ≡ know (seen a)) a xs all),
    ) refl

decided_found : (lanes : List Lane) (channels : List Channel) (know : theory.Access → Known) (xs : List Access)
    → All (λ (a : Access). as_known (when_possible lanes channels a) ≡ know (seen a)) xs
    → all_decided know (map seen xs) ≡ are_decided lanes channels xs
decided_found lanes channels know [] all = refl
decided_found lanes channels know (a ∷ xs) all =
    rw (
      ← (All-head (λ (a : Access). as_known (when_possible lanes channels a) ≡ know (seen a)) a xs all),
      decided_found lanes channels know xs (All-tail (λ (a : Access). as_known (when_possible lanes channels a) ≡ know (seen a)) a xs all),
    ) refl

-- what is found for a module's first step without a cycle, and whether all is decided
pub flags_are : {S : Type 0} → (d : Design S) → IsDesign d → (h : Held) → IsSound d h → (m c : ℕ)
    → length (lane_at h.lanes m).cycles < emitted_of h m
    → new_flags d (core_of d h) m c ≡ found_flags h.lanes h.channels c (step_of h m (length (lane_at h.lanes m).cycles)).accesses
flags_are {S} d i h y m c less =
    let x = core_of d h in
    ap (flags_at (known_of d (view d x) m) c) (y.accesses m (length (lane_at h.lanes m).cycles) less)
    ∙ flags_found h.lanes h.channels (known_of d (view d x) m) c _ (access_known d i h y m less)

pub decided_are : {S : Type 0} → (d : Design S) → IsDesign d → (h : Held) → IsSound d h → (m : ℕ)
    → length (lane_at h.lanes m).cycles < emitted_of h m
    → all_decided (known_of d (view d (core_of d h)) m) (first_accesses (view d (core_of d h)) m) ≡ are_decided h.lanes h.channels
    (step_of h m (length (lane_at h.lanes m).cycles)).accesses
decided_are {S} d i h y m less =
    let x = core_of d h in
    ap (all_decided (known_of d (view d x) m)) (y.accesses m (length (lane_at h.lanes m).cycles) less)
    ∙ decided_found h.lanes h.channels (known_of d (view d x) m) _ (access_known d i h y m less)
