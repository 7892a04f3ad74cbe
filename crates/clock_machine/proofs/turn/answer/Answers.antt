use Rattle.std.proofs.{Math.Seq.take-append_seam, lemmas.List.Folds.list_any-append}
use Rattle.std.proofs.Common.{ℕ, List, length, ◌≡◌, ◌++◌, ◌∷◌, [], refl, sym, ap, ◌∙◌, Bool, true, false, cond, Option, Some, None, get_or}
use Rattle.std.proofs.Common.{map, take}
use Rattle.std.proofs.lemmas.List.{take_more, map_more, append-nil}
use Rattle.std.specs.{Prelude.is_some, List.list_any}
use Rattle.flow_word.specs.declared.access.Kind.TheVariants.{Read}
use Rattle.clock_machine.specs.{Reply, Request, stalls, reply, answered, outcomes_in, popped, pushed}
use Rattle.clock_machine.proofs.Listed.{added, outcomes_add, popped_adds, pushed_adds}
use Rattle.clock_machine.proofs.turn.answer.Goals as goal

-- an operation that has an answer does not stall, and the answer is its reply
goes_on : (b : Bool) (a : Option Reply) (x y : Reply) → a ≡ cond b None (Some x) → a ≡ Some y → (b ≡ false) × (y ≡ x)
goes_on true a x y e f = cc
goes_on false a x y e f = (refl, cc)

-- what was told before is left
as_before : (old more : List Bool) (n : ℕ) → n ≡ length old → take n (old ++ more) ≡ old
as_before old more n e = ap (λ (k : ℕ). take k (old ++ more)) e ∙ take-append_seam old more

pub loop-request-preserved : goal.loop-request-preserved
loop-request-preserved c =
    let p = c.args.at.now.of.now.plan.now in
    let clock = c.args.at.now.clock in
    let contents = c.args.at.now.contents.now in
    let i = c.loop-request.request-index in
    let asked = c.args.requests.now in
    let none : Request = record { kind = Read; channel = 0; value = 0 } in
    let r = get_or asked i none in
    let has = ap is_some c.in-Some.is in
    let goes = goes_on (stalls p clock contents r) c.in_ok-answer_one.field-0 (reply p clock contents r) c.in-Some.reply
    c.in_ok-answer_one.ensures.reply c.in-Some.is in
    let so_far = map (answered p clock contents) (take i asked) in
    let here = answered p clock contents r ∷ [] in
    let more = map_more (answered p clock contents) asked i none c.loop-request-test.true in
    let still : list_any (stalls p clock contents) (take i asked ++ r ∷ []) ≡ false =
    list_any-append (stalls p clock contents) (take i asked) (r ∷ []) ∙ rw (c.loop-request.invariant.free, goes.0) refl in
    record {
      free = ap (list_any (stalls p clock contents)) (take_more asked i none c.loop-request-test.true) ∙ still;
      replies = c.in_ok-push-in-Some.ensures.ok ∙ (ap (λ l. l ++ c.in-Some.reply ∷ []) c.loop-request.invariant.replies
          ∙ (ap (λ (y : Reply). map (reply p clock contents) (take i asked) ++ y ∷ []) goes.1
          ∙ sym (map_more (reply p clock contents) asked i none c.loop-request-test.true)));
      outcomes = added outcomes_in outcomes_add c.args.outcomes.now c.loop-request.outcomes c.answer_one.new.outcomes so_far here _ more
          c.loop-request.invariant.outcomes (c.in_ok-answer_one.ensures.outcomes has);
      pops = added popped popped_adds c.args.traffic.now.pops c.loop-request.traffic.pops c.answer_one.new.traffic.pops so_far here _ more
          c.loop-request.invariant.pops (c.in_ok-answer_one.ensures.pops has);
      pushes = added pushed pushed_adds c.args.traffic.now.pushes c.loop-request.traffic.pushes c.answer_one.new.traffic.pushes so_far here
          _ more c.loop-request.invariant.pushes (c.in_ok-answer_one.ensures.pushes has);
    }

pub returns-in-None-clause-outcomes : goal.returns-in-None-clause-outcomes
returns-in-None-clause-outcomes c =
    c.truncate-in-None-3.ensures
    ∙ (ap (λ (told : List Bool). take c.len-told_before.result told)
    (c.in_ok-answer_one.ensures.no_outcome (ap is_some c.in-None.is) ∙ c.loop-request.invariant.outcomes)
    ∙ (as_before c.args.outcomes.now _ c.len-told_before.result c.len-told_before.ensures ∙ sym (append-nil c.args.outcomes.now)))
