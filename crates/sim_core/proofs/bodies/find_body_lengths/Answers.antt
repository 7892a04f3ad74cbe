use Rattle.std.proofs.Common.{◌≡◌, sym, ap, subst, ◌∙◌, ℕ, ◌+◌, ◌-◌, ◌<◌, inl, inr, List, [], ◌∷◌, ◌++◌, length, get_or, arith}
use Rattle.std.proofs.lemmas.Bool.{cases_lt}
use Rattle.std.proofs.lemmas.List.{get_or_append_left, get_or-append_right, get_or_default, length-append}
use Rattle.flow_design.specs.declared.design.Module.{Module}
use Rattle.sim_core.specs.{Plan, module_at, no_module, IsLongestBody, AreBodyLengths}
use Rattle.sim_core.proofs.bodies.find_body_lengths.Goals as goal

-- one module more
told_more : (p : Plan) (n : ℕ) (lengths more : List ℕ) (longest : ℕ) → AreBodyLengths p n lengths → more ≡ lengths ++ longest ∷ []
    → IsLongestBody (module_at p n) longest → AreBodyLengths p (n + 1) more
told_more p n lengths more longest are added this = record {
  count = ap (λ (xs : List ℕ). length xs) added ∙ length-append lengths (longest ∷ []) ∙ ap (λ (k : ℕ). k + 1) are.count;
  each = λ m l.
      elim (cases_lt m n) [
        | inl u ↦ subst (IsLongestBody (module_at p m))
            (sym (ap (λ (xs : List ℕ). get_or xs m 0) added
            ∙ get_or_append_left lengths (longest ∷ []) 0 m (let c = are.count in omega arith))) (are.each m u)
        | inr u ↦
            let same : m ≡ n = omega arith in
            subst (IsLongestBody (module_at p m))
            (sym (ap (λ (xs : List ℕ). get_or xs m 0) added ∙ get_or-append_right lengths (longest ∷ []) n m 0 are.count (omega arith)
            ∙ ap (λ (i : ℕ). get_or (longest ∷ []) i 0) (let z : m - n ≡ 0 = omega arith in z)))
            (subst (λ (i : ℕ). IsLongestBody (module_at p i) longest) (sym same) this)
      ];
}

pub loop-of-preserved : goal.loop-of-preserved
loop-of-preserved c =
    let all = c.args.plan.now.design.modules in
    let i = c.loop-of.of-index in
    let count = ap (λ (xs : List Module). length xs) c.modules-of-items.ensures in
    let inside : i < length all = omega (arith, c.loop-of-test.true) in
    let is : c.of-item.result ≡ module_at c.args.plan.now i =
    c.of-item.is ∙ ap (λ (xs : List Module). get_or xs i c.of-item.result) c.modules-of-items.ensures
    ∙ get_or_default all i c.of-item.result no_module inside in
    told_more c.args.plan.now i c.loop-of.lengths c.push.new.self c.longest_body.result c.loop-of.invariant c.in_ok-push.ensures.ok
    (subst (λ (of : Module). IsLongestBody of c.longest_body.result) is c.longest_body.ensures)
