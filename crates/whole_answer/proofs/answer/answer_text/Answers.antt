use Rattle.std.proofs.Common.{subst, refl, Ok, Err}
use Rattle.whole_answer.specs.{IsAnswer, IsRefusal, AnswersText, made, refused, Answer.AnswersText.misread}
use Rattle.whole_answer.proofs.Answering.{begins_fails, begins_not, begins_whole, made_text, refused_session}
use Rattle.whole_answer.proofs.answer.answer_text.Goals as goal

pub returns-in-Err-Text-clause-answers : goal.returns-in-Err-Text-clause-answers
returns-in-Err-Text-clause-answers g c =
    let fault = subst (λ f. IsAnswer c.args.asked.now.scale c.args.text (Err f)) c.in-Err-Text.field-0-is
    c.in-Err-Text.ensures.answer in
    begins_whole (AnswersText c.args.asked.now c.args.text) (refused c.in-Err-Text.fault) _ (Ok c.in_ok-refuse-in-Err-Text.field-0)
    (misread c.in-Err-Text.fault fault refl) c.in_ok-refuse-in-Err-Text.ensures

pub returns-in_err-refuse-in-Err-Text-clause-answers : goal.returns-in_err-refuse-in-Err-Text-clause-answers
returns-in_err-refuse-in-Err-Text-clause-answers g c =
    begins_fails _ _ _ c.from_residual.ensures.0 (c.one_text_answer.ensures.some c.args.asked.now c.args.text)

pub returns-in-Err-OutOfMemory-clause-answers : goal.returns-in-Err-OutOfMemory-clause-answers
returns-in-Err-OutOfMemory-clause-answers g c = begins_not _ _ _ (c.one_text_answer.ensures.some c.args.asked.now c.args.text)

pub returns-in-Ok-check-clause-answers : goal.returns-in-Ok-check-clause-answers
returns-in-Ok-check-clause-answers g c =
    let read = c.in-Ok.read in
    record {
      whole = made c.args.asked.now.scale c.args.asked.now.task read.0.statements;
      is_it = made_text c.args.asked.now c.args.text read.0.statements read.1 c.in-Ok.ensures.answer c.in-Ok-check.ensures.faultless;
      rest = c.make.ensures.rest;
      prefix = c.make.ensures.prefix;
    }

pub returns-in-Err-Text-check-clause-answers : goal.returns-in-Err-Text-check-clause-answers
returns-in-Err-Text-check-clause-answers g c =
    let read = c.in-Ok.read in
    let fault = subst (IsRefusal c.args.asked.now.scale read.0.statements read.1) c.in-Err-Text-check.field-0-is
    c.in-Err-Text-check.ensures.fault in
    begins_whole (AnswersText c.args.asked.now c.args.text) (refused c.in-Err-Text-check.fault) _
    (Ok c.in_ok-refuse-in-Err-Text-check.field-0)
    (refused_session c.args.asked.now c.args.text read.0.statements read.1 c.in-Err-Text-check.fault c.in-Ok.ensures.answer fault)
    c.in_ok-refuse-in-Err-Text-check.ensures

pub returns-in_err-refuse-in-Err-Text-check-clause-answers : goal.returns-in_err-refuse-in-Err-Text-check-clause-answers
returns-in_err-refuse-in-Err-Text-check-clause-answers g c =
    begins_fails _ _ _ c.from_residual-in_err-refuse-in-Err-Text-check.ensures.0
    (c.one_text_answer.ensures.some c.args.asked.now c.args.text)

pub returns-clause-answers : goal.returns-clause-answers
returns-clause-answers g c =
    begins_not _ _ _ (c.one_text_answer.ensures.some c.args.asked.now c.args.text)
