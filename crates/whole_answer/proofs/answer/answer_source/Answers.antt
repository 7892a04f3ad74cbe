use Rattle.std.proofs.Common.{ap, refl, arith, Ok, Err, inl, ℕ, ◌+◌, ◌<◌, length}
use Rattle.whole_answer.specs.{limits_at, TextFault, Unanswered, AnswersText, refused, Answer.AnswersText.misread}
use Rattle.flow_grammar.specs.declared.fault.Code.TheVariants.{TooLong}
use Rattle.whole_answer.proofs.Answering.{of_each, of_long, begins_as_err, begins_as_ok, begins_fails, begins_not, begins_read}
use Rattle.whole_answer.proofs.Answering.{begins_whole}
use Rattle.whole_answer.proofs.answer.answer_source.Goals as goal

abbrev too_long : TextFault
too_long = record { line = 0; code = TooLong }

pub returns-in_ok-answer_text-in-Ok-clause-answers : goal.returns-in_ok-answer_text-in-Ok-clause-answers
returns-in_ok-answer_text-in-Ok-clause-answers g c =
    begins_read (AnswersText c.args.asked.now) _ _ _ _ _ (Ok c.in_ok-answer_text-in-Ok.field-0) c.in-Ok.ensures.bytes c.in-Ok.ensures.end
    (begins_as_ok {F = Unanswered} _ _ _ _ c.in_ok-answer_text-in-Ok.ensures.answers)

pub returns-in_err-answer_text-in-Ok-clause-answers : goal.returns-in_err-answer_text-in-Ok-clause-answers
returns-in_err-answer_text-in-Ok-clause-answers g c =
    begins_read (AnswersText c.args.asked.now) _ _ _ _ _ c.from_residual.result c.in-Ok.ensures.bytes c.in-Ok.ensures.end
    (begins_as_err _ _ _ _ c.from_residual.result c.from_residual.ensures.0 c.in_err-answer_text-in-Ok.ensures.answers)

pub returns-in-Err-ReadFault-clause-answers : goal.returns-in-Err-ReadFault-clause-answers
returns-in-Err-ReadFault-clause-answers g c =
    of_each _ (g.S.Source.left c.args.source.now) (λ bytes. begins_not _ _ _ (c.one_text_answer.ensures.some c.args.asked.now bytes))

pub returns-in-Err-OutOfMemory-clause-answers : goal.returns-in-Err-OutOfMemory-clause-answers
returns-in-Err-OutOfMemory-clause-answers g c =
    of_each _ (g.S.Source.left c.args.source.now) (λ bytes. begins_not _ _ _ (c.one_text_answer.ensures.some c.args.asked.now bytes))

pub returns-in_err-refuse-in-Err-TooLong-clause-answers : goal.returns-in_err-refuse-in-Err-TooLong-clause-answers
returns-in_err-refuse-in-Err-TooLong-clause-answers g c =
    of_each _ (g.S.Source.left c.args.source.now) (λ bytes.
    begins_fails _ _ _ c.from_residual-in_err-refuse-in-Err-TooLong.ensures.0 (c.one_text_answer.ensures.some c.args.asked.now bytes))

pub returns-in_ok-refuse-in-Err-TooLong-clause-answers : goal.returns-in_ok-refuse-in-Err-TooLong-clause-answers
returns-in_ok-refuse-in-Err-TooLong-clause-answers g c =
    let most : ℕ = (limits_at c.args.asked.now.scale).text_bytes in
    of_long _ (g.S.Source.left c.args.source.now) (g.S.Source.left c.read_all.new.source) (most + 1)
    (rw c.limits.ensures at (c.in-Err-TooLong.ensures.too_long (ap Err c.in-Err-TooLong.field-0-is)))
    (λ bytes long.
    let over : most < length bytes = omega (arith, long) in
    begins_whole (AnswersText c.args.asked.now bytes) (refused too_long) _ (Ok c.in_ok-refuse-in-Err-TooLong.field-0)
    (misread too_long (inl (over, refl)) refl) c.in_ok-refuse-in-Err-TooLong.ensures)
