use Rattle.std.specs.Prelude.{map, string_bytes, []}
use Rattle.whole_answer.proofs.{Answering.in_each, ReportsTold.told_rest, ReportsTold.told_fault}
use Rattle.whole_answer.proofs.program.omnisim.Goals as goal

pub returns-in-Ok-clause-tells : goal.returns-in-Ok-clause-tells
returns-in-Ok-clause-tells g c =
    in_each _ _ (g.S.Source.left c.args.source.now)
    (λ bytes h. told_rest (map string_bytes c.args.words.now) bytes c.in-Ok.rest c.tell.result _ _ _ _ h c.tell.ensures.told)
    c.in-Ok.ensures.answers

pub returns-in-Ok-clause-without_input : goal.returns-in-Ok-clause-without_input
returns-in-Ok-clause-without_input g c = λ none.
    told_rest (map string_bytes c.args.words.now) [] c.in-Ok.rest c.tell.result _ _ _ _ (c.in-Ok.ensures.without_input none)
    c.tell.ensures.told

pub returns-in-Err-ReadFault-clause-tells : goal.returns-in-Err-ReadFault-clause-tells
returns-in-Err-ReadFault-clause-tells g c =
    in_each _ _ (g.S.Source.left c.args.source.now)
    (λ bytes h. told_fault (map string_bytes c.args.words.now) bytes _ _ _ _ _ (λ i. i) h) c.in-Err-ReadFault.ensures.answers

pub returns-in-Err-WriteFault-clause-tells : goal.returns-in-Err-WriteFault-clause-tells
returns-in-Err-WriteFault-clause-tells g c =
    in_each _ _ (g.S.Source.left c.args.source.now)
    (λ bytes h. told_fault (map string_bytes c.args.words.now) bytes _ _ _ _ _ (λ i. i) h) c.in-Err-WriteFault.ensures.answers

pub returns-in-Err-OutOfMemory-clause-tells : goal.returns-in-Err-OutOfMemory-clause-tells
returns-in-Err-OutOfMemory-clause-tells g c =
    in_each _ _ (g.S.Source.left c.args.source.now)
    (λ bytes h. told_fault (map string_bytes c.args.words.now) bytes _ _ _ _ _ (λ i. i) h) c.in-Err-OutOfMemory.ensures.answers

pub returns-in-Err-ReadFault-clause-without_input : goal.returns-in-Err-ReadFault-clause-without_input
returns-in-Err-ReadFault-clause-without_input g c = λ none.
    told_fault (map string_bytes c.args.words.now) [] _ _ _ _ _ (λ i. i) (c.in-Err-ReadFault.ensures.without_input none)

pub returns-in-Err-WriteFault-clause-without_input : goal.returns-in-Err-WriteFault-clause-without_input
returns-in-Err-WriteFault-clause-without_input g c = λ none.
    told_fault (map string_bytes c.args.words.now) [] _ _ _ _ _ (λ i. i) (c.in-Err-WriteFault.ensures.without_input none)

pub returns-in-Err-OutOfMemory-clause-without_input : goal.returns-in-Err-OutOfMemory-clause-without_input
returns-in-Err-OutOfMemory-clause-without_input g c = λ none.
    told_fault (map string_bytes c.args.words.now) [] _ _ _ _ _ (λ i. i) (c.in-Err-OutOfMemory.ensures.without_input none)
