-- Outcomes that are added one by one.
use Rattle.std.proofs.Common.{◌≡◌, ap, ◌∙◌, ℕ, ◌<◌, Bool, List, [], ◌∷◌, length, set, append_assoc}
use Rattle.std.proofs.lemmas.List.{get_or-set_same, set-set}
use Rattle.query_log.specs.{Log, no_log, log_at, verified_more, all_answered, with_outcome, with_outcomes}

-- one outcome, and then more, are one list of outcomes
answered_more : (log : Log) (outcome : Bool) (more : List Bool)
    → all_answered (verified_more log outcome) more ≡ all_answered log (outcome ∷ more)
answered_more log outcome more = ap (λ (outcomes : List Bool). record { outcomes = outcomes; verified = length outcomes })
    (append_assoc log.outcomes (outcome ∷ []) more)

-- the same in the log of a module
pub outcomes_more : (logs : List Log) (owner : ℕ) (outcome : Bool) (more : List Bool) → owner < length logs
    → with_outcomes (with_outcome logs owner outcome) owner more ≡ with_outcomes logs owner (outcome ∷ more)
outcomes_more logs owner outcome more there =
    ap (λ (log : Log). set (with_outcome logs owner outcome) owner (all_answered log more))
    (get_or-set_same logs owner (verified_more (log_at logs owner) outcome) no_log there)
    ∙ (set-set logs owner (verified_more (log_at logs owner) outcome) (all_answered (verified_more (log_at logs owner) outcome) more)
    ∙ ap (set logs owner) (answered_more (log_at logs owner) outcome more))
