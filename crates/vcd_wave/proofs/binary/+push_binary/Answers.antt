use Rattle.std.proofs.Common.{ℕ, List, ◌∷◌, [], ◌++◌, ◌+◌, ◌%◌, ◌/◌, ◌∙◌, ap, sym, append_assoc}
use Rattle.vcd_wave.specs.{numeral}
use Rattle.vcd_wave.proofs.{BinaryLemmas.binary_small, BinaryLemmas.binary_step, LineLemmas.on_ok}
use Rattle.vcd_wave.proofs.binary.+push_binary.Goals.{then-number-gt1+in_ok-push_binary, else-number-gt1}
use Rattle.vcd_wave.proofs.binary.+push_binary.Goals as goal

pub returns : goal.returns
returns t c =
    elim c.if-number-gt1.branch [
      | then-number-gt1+in_ok-push_binary w ↦ on_ok c.push.result c.push.ensures.ok
          (λ e. e ∙ (ap (λ (x : List ℕ). x ++ (48 + c.args.number % 2) ∷ []) (w.text-is ∙ w.in_ok-push_binary.ensures)
          ∙ (append_assoc c.args.text.now (numeral 2 (c.args.number / 2)) ((48 + c.args.number % 2) ∷ [])
          ∙ ap (λ (x : List ℕ). c.args.text.now ++ x) (sym (binary_step c.args.number w.if-number-gt1.true)))))
      | else-number-gt1 w ↦ on_ok c.push.result c.push.ensures.ok
          (λ e. e ∙ (ap (λ (x : List ℕ). x ++ (48 + c.args.number % 2) ∷ []) w.text-is
          ∙ ap (λ (x : List ℕ). c.args.text.now ++ x) (sym (binary_small c.args.number w.if-number-gt1.false))))
    ]
