use Rattle.std.proofs.Common.{◌≡◌, sym, ◌∙◌, ℕ, List, Result}
use Rattle.whole_answer.specs.{Statement, TextFault, Said}
use Rattle.whole_answer.proofs.Answering.{answer_to, text_answer, text_only}
use Rattle.whole_answer.proofs.laws.one_text_answer.Goals as goal

pub returns-clause-some : goal.returns-clause-some
returns-clause-some c = λ asked text.
    let said = c.one_answer.ensures.some asked.scale text in
    (answer_to said.0 asked, text_answer asked text said.0 said.1)

pub returns-clause-no_other : goal.returns-clause-no_other
returns-clause-no_other c = λ asked text a b p q.
    let said = c.one_answer.ensures.some asked.scale text in
    let only : (x : Result (List Statement × List ℕ) TextFault) → Said asked.scale text x
    → x ≡ said.0 = λ x s. c.one_answer.ensures.no_other asked.scale text x said.0 s said.1 in
    text_only asked text said.0 only a p ∙ sym (text_only asked text said.0 only b q)
