use Rattle.std.proofs.{Common.arith, Common.◌/◌, lemmas.Bool.eqb-true, lemmas.Bool.eqb-false}
use Rattle.module_sets.proofs.Words.{has, bit_in, none_beyond, read}
use Rattle.module_sets.proofs.set.ModuleSet.has.Goals as goal

pub returns-then-word-len-clause-some : goal.returns-then-word-len-clause-some
returns-then-word-len-clause-some c = λ e.
    let is = read c.self.inside.words.items (c.args.member / 64) c.index.result.now (omega arith) c.index.ensures in
    rw (← c.self.view_is) (has c.self.inside.words.items c.args.member (rw is at (eqb-true _ _ e)))

pub returns-then-word-len-clause-none : goal.returns-then-word-len-clause-none
returns-then-word-len-clause-none c = λ e h.
    let is = read c.self.inside.words.items (c.args.member / 64) c.index.result.now (omega arith) c.index.ensures in
    let bit = bit_in c.self.inside.words.items c.args.member (rw (← c.self.view_is) at h) in
    eqb-false _ _ e (rw is bit)

pub returns-else-word-len-clause-none : goal.returns-else-word-len-clause-none
returns-else-word-len-clause-none c = λ e.
    rw (← c.self.view_is) (none_beyond c.self.inside.words.items c.args.member (omega arith))
