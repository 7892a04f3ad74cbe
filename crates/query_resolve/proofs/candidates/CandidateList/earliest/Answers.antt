use Rattle.std.proofs.Common.{arith, refl, sym, ◌≡◌, ◌∙◌, ◌<◌, length, None}
use Rattle.std.proofs.lemmas.List.{get_or_default}
use Rattle.query_resolve.specs.{at_place}
use Rattle.query_resolve.proofs.Winners.{earliest, none_at_all, some_one}
use Rattle.query_resolve.proofs.candidates.CandidateList.earliest.Goals.{After-index}
use Rattle.query_resolve.proofs.candidates.CandidateList.earliest.Goals as goal

module _ (c : After-index) where
  some : 1 < length c.self.inside.places.items
  some = let len = c.len.ensures in let two = c.if-len-lt2.false in omega arith

  top : at_place c.self.inside.places.items 1 ≡ c.index.result.now
  top = get_or_default c.self.inside.places.items 1 None c.index.result.now some ∙ sym c.index.ensures

pub returns-in-Some-clause-some : goal.returns-in-Some-clause-some
returns-in-Some-clause-some c =
    let at = (goal.at.returns-in-Some-clause-some c).After-index in
    rw (← c.self.view_is) (earliest c.self.inside.candidates.items c.self.inside.places.items c.self.invariant c.in-Some.first (some at)
    (top at ∙ c.in-Some.is))

pub returns-in-Some-clause-none : goal.returns-in-Some-clause-none
returns-in-Some-clause-none c =
    let at = (goal.at.returns-in-Some-clause-none c).After-index in (
      λ e. cc,
      rw (← c.self.view_is) (λ all. absurd (some_one c.self.inside.candidates.items c.self.inside.places.items c.self.invariant
          c.in-Some.first (some at) (top at ∙ c.in-Some.is) all)),
    )

pub returns-in-None-clause-none : goal.returns-in-None-clause-none
returns-in-None-clause-none c =
    let at = (goal.at.returns-in-None-clause-none c).After-index in (
      rw (← c.self.view_is) (λ e. none_at_all c.self.inside.candidates.items c.self.inside.places.items c.self.invariant
          (top at ∙ c.in-None.is)),
      λ all. refl,
    )
