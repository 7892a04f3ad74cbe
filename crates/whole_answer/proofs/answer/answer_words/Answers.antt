use Rattle.std.proofs.Common.{ap, sym, subst, refl, ◌∙◌, Ok, Err, Option, Some}
use Rattle.std.specs.Prelude.{map, string_bytes, []}
use Rattle.whole_answer.specs.{Command, Answers, AnswersCommand, refused_words, generated}
use Rattle.whole_answer.proofs.Answering.{of_each, begins_fails, begins_not, begins_whole}
use Rattle.whole_answer.proofs.answer.answer_words.Goals as goal

pub returns-in-Ok-Of-clause-answers : goal.returns-in-Ok-Of-clause-answers
returns-in-Ok-Of-clause-answers g c = rw (c.in-Ok-Of.ensures.command, c.in-Ok-Of.field-0-is) c.answer_source.ensures.answers

pub returns-in_ok-answer_generated-in-Ok-Gen-clause-answers : goal.returns-in_ok-answer_generated-in-Ok-Gen-clause-answers
returns-in_ok-answer_generated-in-Ok-Gen-clause-answers g c =
    of_each _ (g.S.Source.left c.args.source.now) (λ bytes.
    begins_whole (Answers (map string_bytes c.args.words.now) bytes) (generated c.in-Ok-Gen.seed c.in-Ok-Gen.modules) _
    (Ok c.in_ok-answer_generated-in-Ok-Gen.field-0)
    (subst (λ (o : Option Command). AnswersCommand o bytes (generated c.in-Ok-Gen.seed c.in-Ok-Gen.modules))
    (sym (c.in-Ok-Gen.ensures.command ∙ ap Some c.in-Ok-Gen.field-0-is)) refl)
    c.in_ok-answer_generated-in-Ok-Gen.ensures)

pub returns-in_ok-answer_generated-in-Ok-Gen-clause-without_input : goal.returns-in_ok-answer_generated-in-Ok-Gen-clause-without_input
returns-in_ok-answer_generated-in-Ok-Gen-clause-without_input g c = λ none.
    begins_whole (Answers (map string_bytes c.args.words.now) []) (generated c.in-Ok-Gen.seed c.in-Ok-Gen.modules) _
    (Ok c.in_ok-answer_generated-in-Ok-Gen.field-0)
    (subst (λ (o : Option Command). AnswersCommand o [] (generated c.in-Ok-Gen.seed c.in-Ok-Gen.modules))
    (sym (c.in-Ok-Gen.ensures.command ∙ ap Some c.in-Ok-Gen.field-0-is)) refl)
    c.in_ok-answer_generated-in-Ok-Gen.ensures

pub returns-in_err-answer_generated-in-Ok-Gen-clause-answers : goal.returns-in_err-answer_generated-in-Ok-Gen-clause-answers
returns-in_err-answer_generated-in-Ok-Gen-clause-answers g c =
    of_each _ (g.S.Source.left c.args.source.now) (λ bytes.
    begins_fails _ _ _ c.from_residual.ensures.0 (c.one_answer.ensures.some (map string_bytes c.args.words.now) bytes))

pub returns-in_err-answer_generated-in-Ok-Gen-clause-without_input : goal.returns-in_err-answer_generated-in-Ok-Gen-clause-without_input
returns-in_err-answer_generated-in-Ok-Gen-clause-without_input g c = λ none.
    begins_fails _ _ _ c.from_residual.ensures.0 (c.one_answer.ensures.some (map string_bytes c.args.words.now) [])

pub returns-in_ok-refuse_words-in-Err-Refused-clause-answers : goal.returns-in_ok-refuse_words-in-Err-Refused-clause-answers
returns-in_ok-refuse_words-in-Err-Refused-clause-answers g c =
    of_each _ (g.S.Source.left c.args.source.now) (λ bytes.
    begins_whole (Answers (map string_bytes c.args.words.now) bytes) refused_words _ (Ok c.in_ok-refuse_words-in-Err-Refused.field-0)
    (subst (λ (o : Option Command). AnswersCommand o bytes refused_words) (sym (c.in-Err-Refused.ensures.refused (ap Err
    c.in-Err-Refused.field-0-is))) refl)
    c.in_ok-refuse_words-in-Err-Refused.ensures)

pub returns-in_ok-refuse_words-in-Err-Refused-clause-without_input : goal.returns-in_ok-refuse_words-in-Err-Refused-clause-without_input
returns-in_ok-refuse_words-in-Err-Refused-clause-without_input g c = λ none.
    begins_whole (Answers (map string_bytes c.args.words.now) []) refused_words _ (Ok c.in_ok-refuse_words-in-Err-Refused.field-0)
    (subst (λ (o : Option Command). AnswersCommand o [] refused_words) (sym (c.in-Err-Refused.ensures.refused (ap Err
    c.in-Err-Refused.field-0-is))) refl)
    c.in_ok-refuse_words-in-Err-Refused.ensures

pub returns-in_err-refuse_words-in-Err-Refused-clause-answers : goal.returns-in_err-refuse_words-in-Err-Refused-clause-answers
returns-in_err-refuse_words-in-Err-Refused-clause-answers g c =
    of_each _ (g.S.Source.left c.args.source.now) (λ bytes.
    begins_fails _ _ _ c.from_residual-in_err-refuse_words-in-Err-Refused.ensures.0
    (c.one_answer.ensures.some (map string_bytes c.args.words.now) bytes))

pub returns-in_err-refuse_words-in-Err-Refused-clause-without_input : goal.returns-in_err-refuse_words-in-Err-Refused-clause-without_input
returns-in_err-refuse_words-in-Err-Refused-clause-without_input g c = λ none.
    begins_fails _ _ _ c.from_residual-in_err-refuse_words-in-Err-Refused.ensures.0
    (c.one_answer.ensures.some (map string_bytes c.args.words.now) [])

pub returns-in-Err-OutOfMemory-clause-answers : goal.returns-in-Err-OutOfMemory-clause-answers
returns-in-Err-OutOfMemory-clause-answers g c =
    of_each _ (g.S.Source.left c.args.source.now) (λ bytes.
    begins_not _ _ _ (c.one_answer.ensures.some (map string_bytes c.args.words.now) bytes))

pub returns-in-Err-OutOfMemory-clause-without_input : goal.returns-in-Err-OutOfMemory-clause-without_input
returns-in-Err-OutOfMemory-clause-without_input g c = λ none.
    begins_not _ _ _ (c.one_answer.ensures.some (map string_bytes c.args.words.now) [])
