-- What the reader keeps of an expression is the first test that it fails, or the expression.
use Rattle.std.proofs.Common.{◌≡◌, ℕ, ◌+◌, List, Bool, cond, ap, ◌∙◌, arith}
use Rattle.std.proofs.lemmas.Bool.Decides.{nat_tests}
use Rattle.std.specs.Prelude.{◌&&◌, nat_le, max}
use Rattle.flow_grammar.specs.{Expr, UnOp, BinOp, ParsedOperand, one, two, sized_operand, earlier, earlier_of, extend, choose}
use Rattle.flow_grammar.specs.declared.fault.Code.TheVariants.{BadNumber, UnknownName, TooMany}
use Rattle.flow_grammar.specs.declared.operand.ParsedOperand.TheVariants.{Whole, Faulty}
use Rattle.flow_design.specs.declared.expr.Expr.TheVariants.{Unary, Binary, Sext, Pick}

-- by three tests
abbrev pub verdict : Bool → Bool → Expr (List ℕ) → ℕ → ℕ → ParsedOperand
verdict ranged known e n d = cond ranged (cond known (sized_operand e n d) (Faulty UnknownName)) (Faulty BadNumber)

pub verdict_one : (o : UnOp) (a : Expr (List ℕ)) (n d : ℕ) (ranged known : Bool)
    → one o (verdict ranged known a n d) ≡ verdict ranged known (Unary o a) (1 + n) (1 + d)
unfolding one
verdict_one o a n d ranged known = grind (arith, nat_tests)

pub verdict_two : (o : BinOp) (a b : Expr (List ℕ)) (n d m e : ℕ) (r k s l : Bool)
    → two o (verdict r k a n d) (verdict s l b m e) ≡ verdict (r && s) (k && l) (Binary o a b) (1 + (n + m)) (1 + max d e)
unfolding two earlier earlier_of
verdict_two o a b n d m e r k s l = grind (arith, nat_tests)

pub verdict_sext : (k : ℕ) (a : Expr (List ℕ)) (n d : ℕ) (r f : Bool)
    → extend k (verdict r f a n d) ≡ verdict ((nat_le 1 k && nat_le k 64) && r) f (Sext k a) (1 + n) (1 + d)
unfolding extend
verdict_sext k a n d r f = grind (arith, nat_tests)

-- an operand by its three tests
abbrev tested : Bool → Bool → Bool → Expr (List ℕ) → ℕ → ℕ → ParsedOperand
tested r f s e n d = cond r (cond f (cond s (Whole e n d) (Faulty TooMany)) (Faulty UnknownName)) (Faulty BadNumber)

module _ (a b c : Expr (List ℕ)) (n d m e l h : ℕ) where
  abbrev picked : ParsedOperand
  picked = sized_operand (Pick a b c) (1 + (n + (m + l))) (1 + max d (max e h))

  pick_tested : (r f s r' f' s' r'' f'' s'' : Bool) → choose (tested r f s a n d) (tested r' f' s' b m e) (tested r'' f'' s'' c l h)
      ≡ cond (r && (r' && r'')) (cond (f && (f' && f'')) (cond (s && (s' && s'')) picked (Faulty TooMany)) (Faulty UnknownName))
      (Faulty BadNumber)
  unfolding choose earlier earlier_of
  pick_tested r f s r' f' s' r'' f'' s'' = grind arith

  pick_small : cond ((nat_le n 256 && nat_le d 32) && ((nat_le m 256 && nat_le e 32) && (nat_le l 256 && nat_le h 32))) picked
      (Faulty TooMany) ≡ picked
  pick_small = grind (arith, nat_tests)

  pub verdict_pick : (r f r' f' r'' f'' : Bool) → choose (verdict r f a n d) (verdict r' f' b m e) (verdict r'' f'' c l h)
      ≡ verdict (r && (r' && r'')) (f && (f' && f'')) (Pick a b c) (1 + (n + (m + l))) (1 + max d (max e h))
  verdict_pick r f r' f' r'' f'' =
      pick_tested r f (nat_le n 256 && nat_le d 32) r' f' (nat_le m 256 && nat_le e 32) r'' f'' (nat_le l 256 && nat_le h 32)
      ∙ ap (λ (o : ParsedOperand). cond (r && (r' && r'')) (cond (f && (f' && f'')) o (Faulty UnknownName)) (Faulty BadNumber)) pick_small
