-- That each text has an answer, and what holds of what was read.
use Rattle.std.proofs.Common.{◌≡◌, ◌∙◌, ap, subst, sym, refl, arith, ℕ, ◌≤◌, List, ◌++◌, length, None, Some, IfSome, Result, Ok, Err}
use Rattle.std.proofs.Common.{length-append, append-nil}
use Rattle.std.proofs.lemmas.Result.{IfOk-from_err}
use Rattle.std.specs.{declared.option.Option.Option, Prelude.IfOk, Prelude.IsErr, Io.KnownBytes.Consumes, Io.KnownBytes.IsAtEnd}
use Rattle.flow_design.proofs.Failing.{on_err}
use Rattle.whole_answer.specs.{LosesCount, IsTold, Statement, TextFault, Said, StandsFor, fault_of, Command, ScaledTask, refused_words}
use Rattle.whole_answer.specs.{refused, made, generated, AnswersSession, AnswersText, AnswersCommand, IsRest, BeginsAnswer}
use Rattle.whole_answer.specs.{declared.answer.Answer.Answer, Answer.AnswersText.misread, Answer.AnswersText.read}
use Rattle.whole_answer.specs.Answer.AnswersSession.{misfit, fit}
use Rattle.sim_io.proofs.Pending.{prefix_none, told_none}
use Rattle.cli_words.specs.declared.Command.TheVariants.{Of, Gen}

-- ---- the answer to a session

-- by its checking fault
abbrev answer_by : Option TextFault → ScaledTask → List Statement → List ℕ → Answer
answer_by None asked s l = made asked.scale asked.task s
answer_by (Some fault) asked s l = refused fault

pub session_answer : (asked : ScaledTask) (s : List Statement) (l : List ℕ)
    → AnswersSession asked s l (answer_by (fault_of asked.scale s l) asked s l)
session_answer asked s l = go (fault_of asked.scale s l) refl
  where
    go : (o : Option TextFault) → fault_of asked.scale s l ≡ o → AnswersSession asked s l (answer_by o asked s l)
    go None e = fit e refl
    go (Some fault) e = misfit fault e refl

pub session_only : (asked : ScaledTask) (s : List Statement) (l : List ℕ) (a : Answer) → AnswersSession asked s l a
    → a ≡ answer_by (fault_of asked.scale s l) asked s l
session_only asked s l a (misfit fault e h) = rw e h
session_only asked s l a (fit e h) = rw e h

-- ---- the answer to a text

-- by what is said of it
abbrev pub answer_to : Result (List Statement × List ℕ) TextFault → ScaledTask → Answer
answer_to (Ok r) asked = answer_by (fault_of asked.scale r.0 r.1) asked r.0 r.1
answer_to (Err fault) asked = refused fault

pub text_answer : (asked : ScaledTask) (text : List ℕ) (r : Result (List Statement × List ℕ) TextFault) → Said asked.scale text r
    → AnswersText asked text (answer_to r asked)
text_answer asked text (Ok r) said = read r.0 r.1 said (session_answer asked r.0 r.1)
text_answer asked text (Err fault) said = misread fault said refl

pub text_only : (asked : ScaledTask) (text : List ℕ) (r : Result (List Statement × List ℕ) TextFault)
    → ((x : Result (List Statement × List ℕ) TextFault) → Said asked.scale text x → x ≡ r)
    → (a : Answer) → AnswersText asked text a → a ≡ answer_to r asked
text_only asked text r only a (misread fault said h) = subst (λ x. a ≡ answer_to x asked) (only (Err fault) said) h
text_only asked text r only a (read s l said h) = subst (λ x. a ≡ answer_to x asked) (only (Ok (s, l)) said) (session_only asked s l a h)

-- ---- what the code makes

-- the whole of an answer is its rest where nothing was written
pub rest_whole : (whole rest : Answer) (held : Option (List ℕ)) → rest ≡ whole → IsRest whole held held rest
rest_whole whole rest held e = record {
  text = subst (λ (a : Answer). IsTold held held rest.text a.text) e (told_none held rest.text);
  ending = ap (λ (a : Answer). a.ending) e;
}

-- a whole answer that is handed out begins it
pub begins_whole : {E : Type 0} (IsIt : Answer → Type 0) (whole : Answer) (held : Option (List ℕ)) (r : Result Answer E) → IsIt whole
    → IfOk r (λ a. a ≡ whole) → BeginsAnswer IsIt held held r
begins_whole IsIt whole held (Ok rest) is h = record { whole = whole; is_it = is; rest = rest_whole whole rest held h; prefix = tt }
begins_whole IsIt whole held (Err e) is h = record { whole = whole; is_it = is; rest = tt; prefix = prefix_none held whole.text }

-- where nothing was written before a fault
pub begins_not : {E : Type 0} (IsIt : Answer → Type 0) (held : Option (List ℕ)) (e : E) → (a : Answer) × IsIt a
    → BeginsAnswer IsIt held held (Err e)
begins_not IsIt held e a = record { whole = a.0; is_it = a.1; rest = tt; prefix = prefix_none held a.0.text }

-- the same of a result that is known to be a fault
pub begins_fails : {E : Type 0} (IsIt : Answer → Type 0) (held : Option (List ℕ)) (r : Result Answer E) → IsErr r
    → (a : Answer) × IsIt a → BeginsAnswer IsIt held held r
begins_fails IsIt held r f a =
    record { whole = a.0; is_it = a.1; rest = IfOk-from_err r _ f; prefix = on_err r (prefix_none held a.0.text) }

-- the fault has another name
pub begins_as_ok : {E F : Type 0} (IsIt : Answer → Type 0) (old new : Option (List ℕ)) (a : Answer)
    → BeginsAnswer {E = E} IsIt old new (Ok a) → BeginsAnswer {E = F} IsIt old new (Ok a)
begins_as_ok IsIt old new a b = record { whole = b.whole; is_it = b.is_it; rest = b.rest; prefix = tt }

pub begins_as_err : {E F : Type 0} (IsIt : Answer → Type 0) (old new : Option (List ℕ)) (e : E) (r : Result Answer F) → IsErr r
    → BeginsAnswer {E = E} IsIt old new (Err e) → BeginsAnswer {E = F} IsIt old new r
begins_as_err IsIt old new e r f b =
    record { whole = b.whole; is_it = b.is_it; rest = IfOk-from_err r _ f; prefix = on_err r b.prefix }

-- what is made of a session answers the text that stands for it
pub made_text : (asked : ScaledTask) (text : List ℕ) (s : List Statement) (l : List ℕ) → StandsFor asked.scale text s l
    → fault_of asked.scale s l ≡ None
    → AnswersText asked text (made asked.scale asked.task s)
made_text asked text s l stands e = read s l stands (fit e refl)

-- and so does a refusal with its checking fault
pub refused_session : (asked : ScaledTask) (text : List ℕ) (s : List Statement) (l : List ℕ) (fault : TextFault)
    → StandsFor asked.scale text s l
    → fault_of asked.scale s l ≡ Some fault → AnswersText asked text (refused fault)
refused_session asked text s l fault stands e = read s l stands (misfit fault e refl)

-- ---- what was read

-- what holds of each value
pub of_each : {X : Type 0} (P : X → Type 0) (o : Option X) → ((x : X) → P x) → IfSome o P
of_each P None h = tt
of_each P (Some x) h = h x

-- what follows from what holds of each value
pub in_each : {X : Type 0} (P Q : X → Type 0) (o : Option X) → ((x : X) → P x → Q x) → IfSome o P → IfSome o Q
in_each P Q None so h = tt
in_each P Q (Some x) so h = so x h

-- an answer to all that was read
pub begins_read : {E : Type 0} (P : List ℕ → Answer → Type 0) (old new : Option (List ℕ)) (text : List ℕ) (a b : Option (List ℕ))
    (r : Result Answer E) → Consumes old new text → IsAtEnd new → BeginsAnswer (P text) a b r
    → IfSome old (λ bytes. BeginsAnswer (P bytes) a b r)
begins_read P None new text a b r c e h = tt
begins_read P (Some x) None text a b r c e h = absurd c
begins_read P (Some x) (Some y) text a b r c e h =
    let all : text ≡ x = sym (c ∙ ap (λ (l : List ℕ). text ++ l) e ∙ append-nil text) in
    subst (λ (t : List ℕ). BeginsAnswer (P t) a b r) all h

-- what holds of all bytes of which so many were taken
pub of_long : (P : List ℕ → Type 0) (old new : Option (List ℕ)) (n : ℕ) → LosesCount old new n
    → ((bytes : List ℕ) → n ≤ length bytes → P bytes) → IfSome old P
of_long P None new n c h = tt
of_long P (Some x) None n c h = absurd c.consumed
of_long P (Some x) (Some y) n c h = h x (omega (arith, ap length c.consumed, length-append c.bytes y, c.count))

-- ---- the answer to a command

pub command_some : ((asked : ScaledTask) (text : List ℕ) → (a : Answer) × AnswersText asked text a)
    → (command : Option Command) (bytes : List ℕ) → (a : Answer) × AnswersCommand command bytes a
command_some some None bytes = (refused_words, refl)
command_some some (Some (Of asked)) bytes = some asked bytes
command_some some (Some (Gen seed modules)) bytes = (generated seed modules, refl)

pub command_only : ((asked : ScaledTask) (text : List ℕ) (a b : Answer) → AnswersText asked text a → AnswersText asked text b → a ≡ b)
    → (command : Option Command) (bytes : List ℕ) (a b : Answer) → AnswersCommand command bytes a → AnswersCommand command bytes b → a ≡ b
command_only only None bytes a b p q = p ∙ sym q
command_only only (Some (Of asked)) bytes a b p q = only asked bytes a b p q
command_only only (Some (Gen seed modules)) bytes a b p q = p ∙ sym q
