-- The forms of operands.
use Rattle.std.proofs.Common.{◌≡◌, sym, ◌∙◌, ap, subst, arith, ℕ, List, [], ◌∷◌, length, get_or}
use Rattle.module_code.specs.{Expr, BinOp, Argument, Instruction, IsOperandOf, result_of, IsCodeOf, AreSound}
use Rattle.module_code.specs.declared.operand.Operand.TheVariants.{Number, Var, VarNumber, VarVar, Single, Long}
use Rattle.module_code.proofs.Flats.{last_result, ran_none, sound_first}
use Rattle.module_code.specs.declared.flat.Argument.TheVariants as arg

none_sound : (places : ℕ) → AreSound places 0 []
unfolding AreSound
none_sound places = tt

pub long_form : (code : List Instruction) (x : Argument) (e : Expr ℕ) → IsCodeOf [] code x e → IsOperandOf (Long code x) e
long_form code x e of = record {
  values = of.values;
  sound = λ places wide. (of.sound places wide (none_sound places), of.there places wide);
}

-- an argument that is no result needs no code
pub number_form : (code : List Instruction) (n : ℕ) (e : Expr ℕ) → IsCodeOf [] code (arg.Number n) e → IsOperandOf (Number n) e
number_form code n e of = record { values = of.values; sound = of.there }

pub var_form : (code : List Instruction) (at : ℕ) (e : Expr ℕ) → IsCodeOf [] code (arg.Var at) e → IsOperandOf (Var at) e
var_form code at e of = record { values = of.values; sound = of.there }

pub var_number_form : (code : List Instruction) (op : BinOp) (at n : ℕ) (e : Expr ℕ) → IsCodeOf [] code (arg.VarNumber op at n) e
    → IsOperandOf (VarNumber op at n) e
var_number_form code op at n e of = record { values = of.values; sound = of.there }

pub var_var_form : (code : List Instruction) (op : BinOp) (at other : ℕ) (e : Expr ℕ) → IsCodeOf [] code (arg.VarVar op at other) e
    → IsOperandOf (VarVar op at other) e
var_var_form code op at other e of = record { values = of.values; sound = of.there }

only : (code : List Instruction) (i : Instruction) → length code ≡ 1 → i ≡ get_or code 0 i → code ≡ i ∷ []
only [] i count first = absurd (omega arith)
only (j ∷ []) i count first = ap (λ (x : Instruction). x ∷ []) (sym first)
only (j ∷ k ∷ is) i count first = absurd (omega arith)

-- the one instruction of code whose result stands for the value
pub single_form : (code : List Instruction) (i : Instruction) (e : Expr ℕ) → length code ≡ 1 → i ≡ get_or code 0 i
    → IsCodeOf [] code (arg.Result 0) e → IsOperandOf (Single i) e
single_form code i e count first of =
    let is = only code i count first in
    record {
      values = λ registers temps. sym (last_result registers temps [] code i is
          ∙ ap (λ (rs : List ℕ). result_of registers temps rs i) (ran_none registers temps [])) ∙ of.values registers temps;
      sound = λ places wide. sound_first places 0 i []
          (subst (λ (c : List Instruction). AreSound places 0 c) is (of.sound places wide (none_sound places)));
    }

pub ruleset the_forms = (number_form, var_form, var_number_form, var_var_form, single_form, long_form)
