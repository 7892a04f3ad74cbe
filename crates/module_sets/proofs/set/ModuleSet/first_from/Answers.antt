use Rattle.std.proofs.Common.{arith, ℕ, ◌+◌, ◌*◌, ◌<◌, ◌≤◌, ◌/◌, ◌%◌, refl, length, inl, inr}
use Rattle.std.proofs.{lemmas.Bool.cases_lt, lemmas.Option.IfSome_then}
use Rattle.module_sets.specs.{Has}
use Rattle.module_sets.proofs.Words.{first_is, none_is, none_beyond, first_earlier, read}
use Rattle.module_sets.proofs.set.ModuleSet.first_from.Goals.{In-None}
use Rattle.module_sets.proofs.set.ModuleSet.first_from.Goals as goal

pub returns-then-word-len-clause-none : goal.returns-then-word-len-clause-none
returns-then-word-len-clause-none c = λ e n l h.
    none_beyond c.self.inside.words.items n (omega arith) (rw (← c.self.view_is) at h)

pub returns-in-Some-clause-first : goal.returns-in-Some-clause-first
returns-in-Some-clause-first c =
    let there : c.args.from / 64 < length c.self.inside.words.items = omega arith in
    let is = read c.self.inside.words.items (c.args.from / 64) c.index.result.now there c.index.ensures in
    let first = rw is at c.in-Some.ensures.first in
    let after = first.after in
    rw (← c.self.view_is) (first_is c.self.inside.words.items c.args.from (c.args.from / 64) (c.args.from % 64) c.in-Some.bit
    first c.in-Some.ensures.inside (λ n l u h. absurd (omega arith)) (omega arith))

module _ (c : In-None) where
  none_here : (n : ℕ) → c.args.from ≤ n → n < 64 * (c.args.from / 64 + 1) → Has c.args.self.now n → ⊥
  none_here n l u h =
      let there : c.args.from / 64 < length c.self.inside.words.items = omega arith in
      let is = read c.self.inside.words.items (c.args.from / 64) c.index.result.now there c.index.ensures in
      let none = rw is at c.in-None.ensures.none in
      none_is c.self.inside.words.items (c.args.from / 64) (c.args.from % 64) (none refl) n (omega arith) u
      (rw (← c.self.view_is) at h)

pub returns-in-None-clause-first : goal.returns-in-None-clause-first
returns-in-None-clause-first c =
    let at = (goal.at.returns-in-None-clause-first c).In-None in
    IfSome_then c.first_after.result c.first_after.ensures.first
    (λ m first. first_earlier c.args.self.now c.args.from _ m (none_here at) (omega arith) first)

pub returns-in-None-clause-none : goal.returns-in-None-clause-none
returns-in-None-clause-none c = λ e n l h.
    let at = (goal.at.returns-in-None-clause-none c).In-None in
    elim (cases_lt n (64 * (c.args.from / 64 + 1))) [
      | inl before ↦ none_here at n l before h
      | inr after ↦ c.first_after.ensures.none e n after h
    ]
