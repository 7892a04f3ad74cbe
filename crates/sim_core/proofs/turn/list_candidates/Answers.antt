use Rattle.std.proofs.Common.{◌≡◌, ◌∙◌, ℕ, ◌+◌, ◌<◌, ◌≤◌, ◌⊎◌, inl, inr, List, length, get_or, set, refl, arith}
use Rattle.std.proofs.lemmas.Bool.{cases_eq, cases_lt}
use Rattle.std.proofs.lemmas.List.{length-set, get_or-set_same, get_or-set_other}
use Rattle.sim_core.specs.{Lane, Candidate, Channel, IsCandidate, IsListed, DueModules}
use Rattle.event_graph.specs.declared.candidate.Candidate.TheVariants.{Nothing}
use Rattle.sim_core.proofs.turn.list_candidates.Goals as goal

-- one candidate more
one_more : (lanes : List Lane) (channels : List Channel) (limit : ℕ) (due : DueModules) (candidates : List Candidate) (from owner : ℕ)
    (a : Candidate) → length candidates ≡ length lanes → from ≤ owner → owner < length lanes
    → ((n : ℕ) → n < length lanes → (n < from) ⊎ IsListed due n → IsCandidate lanes channels limit n (get_or candidates n Nothing))
    → ((n : ℕ) → from ≤ n → n < owner → IsListed due n) → IsCandidate lanes channels limit owner a
    → (n : ℕ) → n < length lanes → (n < owner + 1) ⊎ IsListed due n
    → IsCandidate lanes channels limit n (get_or (set candidates owner a) n Nothing)
one_more lanes channels limit due candidates from owner a count after inside all before now n l known =
    elim (cases_eq n owner) [
      | inl e ↦ rw (e, get_or-set_same candidates owner a Nothing (omega arith)) now
      | inr other ↦ rw (get_or-set_other candidates owner n a Nothing other) (all n l (was known other))
    ]
  where
    was : (n < owner + 1) ⊎ IsListed due n → (n ≡ owner → ⊥) → (n < from) ⊎ IsListed due n
    was (inl u) other = elim (cases_lt n from) [
      | inl v ↦ inl v
      | inr v ↦ inr (before n v (omega arith))
    ]
    was (inr listed) other = inr listed

pub loop-owner-init : goal.loop-owner-init
loop-owner-init c = record { count = c.requires.count; all = λ n l known. known_first n l known }
  where
    known_first : (n : ℕ) → n < length c.args.graph.now.lanes → (n < 0) ⊎ IsListed c.args.due.now n
        → IsCandidate c.args.graph.now.lanes c.args.fifos.now.channels c.args.limit n (get_or c.args.candidates.now n Nothing)
    known_first n l (inl u) = absurd (omega arith)
    known_first n l (inr listed) = c.requires.listed n l listed

pub set-requires : goal.set-requires
set-requires c =
    let end = c.modules-count.ensures.count in
    let below = c.in-Some.ensures.below in
    let count = c.loop-owner.invariant.count in
    omega arith

pub loop-owner-preserved : goal.loop-owner-preserved
loop-owner-preserved c =
    let i = c.loop-owner.invariant in
    let end = c.modules-count.ensures.count in
    let below = c.in-Some.ensures.below in
    rw c.set.ensures (record {
      count = length-set c.loop-owner.candidates c.in-Some.owner c.candidate.result ∙ i.count;
      all = one_more c.args.graph.now.lanes c.args.fifos.now.channels c.args.limit c.args.due.now c.loop-owner.candidates
          c.loop-owner.from c.in-Some.owner c.candidate.result i.count c.in-Some.ensures.first (omega arith) i.all
          c.in-Some.ensures.before c.candidate.ensures.at;
    })

pub returns-clause-all : goal.returns-clause-all
returns-clause-all c = λ m cycle l.
    let end = c.modules-count.ensures.count in
    elim (cases_lt m c.loop-owner.from) [
      | inl u ↦ c.loop-owner.invariant.all m l (inl u) cycle
      | inr u ↦ c.loop-owner.invariant.all m l (inr (c.in_default.ensures.none refl m u (omega arith))) cycle
    ]
