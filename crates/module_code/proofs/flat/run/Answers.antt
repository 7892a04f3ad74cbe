use Rattle.std.proofs.Common.{◌≡◌, sym, ◌∙◌, ap, subst, arith, ℕ, ◌+◌, ◌<◌, ◌≤◌, [], ◌∷◌, List, length, take, drop}
use Rattle.std.proofs.lemmas.Grind.{common_steps}
use Rattle.module_code.specs.{Instruction, ran, IsInstructionSound}
use Rattle.module_code.proofs.Flats.{ran_none, left_more, rest_more, sound_at}
use Rattle.module_code.proofs.flat.run.Goals as goal

front : (c : goal.After-index-code-at)
    → drop c.loop-at.at c.args.code.now ≡ c.index-code-at.result ∷ drop (c.loop-at.at + 1) c.args.code.now
front c = left_more c.args.code.now c.loop-at.at c.index-code-at.result c.index-code-at.result c.loop-at-test.true (sym c.index-code-at.is)

places : (c : goal.After-index-code-at) → ℕ
places c = length c.args.registers.now + length c.args.temps.now

there : (at scratch code before : ℕ) → at < code → scratch ≡ before → code ≤ before → at < scratch
there at scratch code before a b c = omega arith

pub result_of-word-requires : goal.result_of-word-requires
result_of-word-requires c =
    let count : length (take c.loop-at.at c.loop-at.scratch) ≡ c.loop-at.at = grind (arith, common_steps) in
    subst (λ (n : ℕ). IsInstructionSound (length c.args.registers.now + length c.args.temps.now) n c.index-code-at.result) (sym count)
    (sound_at (length c.args.registers.now + length c.args.temps.now) c.loop-at.at c.args.code.now c.index-code-at.result (front c)
    c.loop-at.invariant.sound).0

pub loop-at-preserved : goal.loop-at-preserved
loop-at-preserved c =
    let ahead : drop c.loop-at.at c.args.code.now ≡ c.index-code-at.result ∷ drop (c.loop-at.at + 1) c.args.code.now =
    left_more c.args.code.now c.loop-at.at c.index-code-at.result c.index-code-at.result c.loop-at-test.true (sym c.index-code-at.is) in
    record {
      rest = rest_more c.args.registers.now c.args.temps.now c.loop-at.scratch (ran c.args.registers.now c.args.temps.now []
          c.args.code.now)
          c.args.code.now c.loop-at.at c.result_of-word.result c.index-code-at.result
          (there c.loop-at.at (length c.loop-at.scratch) (length c.args.code.now) (length c.args.scratch.now) c.loop-at-test.true
          c.loop-at.invariant.room c.requires.room)
          ahead c.result_of-word.ensures c.loop-at.invariant.rest;
      sound = (sound_at (length c.args.registers.now + length c.args.temps.now) c.loop-at.at c.args.code.now c.index-code-at.result ahead
          c.loop-at.invariant.sound).1;
      room = grind (arith, common_steps);
    }

pub returns-clause-results : goal.returns-clause-results
returns-clause-results c =
    let done : drop c.loop-at.at c.args.code.now ≡ [] = grind (arith, common_steps) in
    let whole : length c.args.code.now ≡ c.loop-at.at = grind (arith, common_steps) in
    ap (λ (n : ℕ). take n c.loop-at.scratch) whole
    ∙ (sym (ran_none c.args.registers.now c.args.temps.now (take c.loop-at.at c.loop-at.scratch))
    ∙ (ap (λ (is : List Instruction). ran c.args.registers.now c.args.temps.now (take c.loop-at.at c.loop-at.scratch) is) (sym done)
    ∙ c.loop-at.invariant.rest))
