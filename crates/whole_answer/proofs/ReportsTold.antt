-- What was told: where writing or finishing failed, and where the rest of an answer is told.
use Rattle.std.proofs.Common.{◌≡◌, ◌∙◌, ap, subst, arith, Bool, ℕ, List, length, take, None, Some, Ok, Err}
use Rattle.std.proofs.lemmas.Grind.{common_steps}
use Rattle.std.specs.{declared.option.Option.Option, Io.KnownBytes.Appends, Io.KnownBytes.Keeps}
use Rattle.whole_answer.specs.{AppendsPrefix, status_of, Status, Answers, BeginsAnswer, SaysAnswered, IsRest, Tells, TellsAnswer}
use Rattle.whole_answer.specs.{declared.answer.Answer.Answer, declared.status.Status.TheVariants.WriteFault}
use Rattle.sim_io.proofs.{Pieces.appends_both, Pending.prefix_after}

pub appends_kept : (a b c : Option (List ℕ)) (xs : List ℕ) → Appends a b xs → Keeps b c → Appends a c xs
appends_kept None b c xs p q = tt
appends_kept (Some x) None c xs p q = absurd p
appends_kept (Some x) (Some y) None xs p q = absurd q
appends_kept (Some x) (Some y) (Some z) xs p q = q ∙ p

-- all of it is a prefix of it
pub whole_prefix : (a b : Option (List ℕ)) (text : List ℕ) → Appends a b text → AppendsPrefix a b text
whole_prefix a b text p =
    let whole : take (length text) text ≡ text = grind (arith, common_steps) in
    record { count = length text; appended = rw whole p }

-- a fault of writing, after a prefix was written
pub tells_fault : (whole : Answer) (a b : Option (List ℕ)) (finished : Bool) → AppendsPrefix a b whole.text
    → Tells whole WriteFault a b finished
tells_fault whole a b finished p = record { answered = λ i. absurd i; write = λ _. p; memory = λ e. cc }

-- ---- the rest of an answer

-- what a result says of the rest, it says of the whole
pub tells_whole : (whole rest : Answer) (result : Status) (a b c : Option (List ℕ)) (finished : Bool) → IsRest whole a b rest
    → Tells rest result b c finished → Tells whole result a c finished
tells_whole whole rest result a b c finished r t = record {
  answered = λ i.
      let told = t.answered i in (
        told.0 ∙ ap status_of r.ending,
        subst (Appends a c) r.text.whole (appends_both a b c r.text.sent rest.text r.text.appended told.1),
        told.2,
      );
  write = λ e. subst (AppendsPrefix a c) r.text.whole (prefix_after a b c r.text.sent rest.text r.text.appended (t.write e));
  memory = λ e. subst (AppendsPrefix a c) r.text.whole (prefix_after a b c r.text.sent rest.text r.text.appended (t.memory e));
}

-- a fault, or want of memory, after a prefix was written
pub tells_none : (whole : Answer) (result : Status) (a b : Option (List ℕ)) (finished : Bool) → (SaysAnswered result → ⊥)
    → AppendsPrefix a b whole.text → Tells whole result a b finished
tells_none whole result a b finished never p = record { answered = λ i. absurd (never i); write = λ _. p; memory = λ _. p }

-- the answer of the words, where it was begun and its rest told
pub told_rest : {E : Type 0} (words : List (List ℕ)) (bytes : List ℕ) (rest : Answer) (result : Status) (a b c : Option (List ℕ))
    (finished : Bool) → BeginsAnswer {E = E} (Answers words bytes) a b (Ok rest) → Tells rest result b c finished
    → TellsAnswer words bytes result a c finished
told_rest words bytes rest result a b c finished h t = record {
  whole = h.whole;
  answers = h.is_it;
  tells = tells_whole h.whole rest result a b c finished h.rest t;
}

-- and where a fault came first
pub told_fault : {E : Type 0} (words : List (List ℕ)) (bytes : List ℕ) (e : E) (result : Status) (a b : Option (List ℕ))
    (finished : Bool) → (SaysAnswered result → ⊥) → BeginsAnswer (Answers words bytes) a b (Err e)
    → TellsAnswer words bytes result a b finished
told_fault words bytes e result a b finished never h = record {
  whole = h.whole;
  answers = h.is_it;
  tells = tells_none h.whole result a b finished never h.prefix;
}
