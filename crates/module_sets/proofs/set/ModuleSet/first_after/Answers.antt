use Rattle.std.proofs.{Common.arith, Common.◌*◌, Common.◌<◌, Common.length, Common.inl, Common.inr, Common.refl, lemmas.Bool.cases_lt}
use Rattle.module_sets.proofs.Words.{first_is, none_is, none_beyond, read}
use Rattle.module_sets.proofs.set.ModuleSet.first_after.Goals as goal

pub returns-in-Some-clause-first : goal.returns-in-Some-clause-first
returns-in-Some-clause-first c =
    let there : c.loop-word.word < length c.self.inside.words.items = omega arith in
    let is = read c.self.inside.words.items c.loop-word.word c.index.result.now there c.index.ensures in
    rw (← c.self.view_is) (first_is c.self.inside.words.items _ c.loop-word.word 0 c.in-Some.bit
    (rw is at c.in-Some.ensures.first) c.in-Some.ensures.inside
    (λ n l u h. (rw (← c.self.view_is) at c.loop-word.invariant) n l (omega arith) h) (omega arith))

pub loop-word-preserved : goal.loop-word-preserved
loop-word-preserved c = λ n l u h.
    let there : c.loop-word.word < length c.self.inside.words.items = omega arith in
    let is = read c.self.inside.words.items c.loop-word.word c.index.result.now there c.index.ensures in
    let none = rw (c.in_default.is, is) at c.first_bit.ensures.none in
    elim (cases_lt n (64 * c.loop-word.word)) [
      | inl before ↦ c.loop-word.invariant n l before h
      | inr after ↦ none_is c.self.inside.words.items c.loop-word.word 0 (none refl) n (omega arith) u (rw (← c.self.view_is) at h)
    ]

pub returns-clause-none : goal.returns-clause-none
returns-clause-none c = λ e n l h.
    elim (cases_lt n (64 * c.loop-word.word)) [
      | inl before ↦ c.loop-word.invariant n l before h
      | inr after ↦ none_beyond c.self.inside.words.items n (omega arith) (rw (← c.self.view_is) at h)
    ]
