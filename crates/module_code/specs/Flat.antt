-- Flat code: the result of each instruction, and the results of a list of instructions.
use Rattle.std.specs.Prelude.{ℕ, ◌≡◌, ◌≤◌, ◌+◌, ◌%◌, ◌^◌, ◌<◌, ◌==◌, List, [], ◌∷◌, ◌++◌, length, slice_index, if◌then◌else◌}
use Rattle.flow_design.specs.{Expr, unary, binary, extended, variable, value, reach}
use Rattle.module_code.specs.{declared.flat.Argument.Argument, declared.flat.Instruction.Instruction}
use Rattle.module_code.specs.declared.flat.Argument.TheVariants.{Number, Var, VarNumber, VarVar, Result}
use Rattle.module_code.specs.declared.flat.Instruction.TheVariants.{Unary, Binary, Sext, Pick}

-- the value of an argument, where these are the results of the earlier instructions
abbrev pub argument_value : List ℕ → List ℕ → List ℕ → Argument → ℕ
argument_value registers temps results (Number n) = n
argument_value registers temps results (Var at) = variable registers temps at
argument_value registers temps results (VarNumber op at n) = binary op (variable registers temps at) n
argument_value registers temps results (VarVar op at other) = binary op (variable registers temps at) (variable registers temps other)
argument_value registers temps results (Result k) = slice_index results k

abbrev pub result_of : List ℕ → List ℕ → List ℕ → Instruction → ℕ
result_of registers temps results (Unary op a) = unary op (argument_value registers temps results a)
result_of registers temps results (Binary op a b) =
    binary op (argument_value registers temps results a) (argument_value registers temps results b)
result_of registers temps results (Sext k a) = extended k (argument_value registers temps results a % 2 ^ k)
result_of registers temps results (Pick a b c) =
    if argument_value registers temps results a == 0
    then argument_value registers temps results c
    else argument_value registers temps results b

-- these results, followed by those of the code
unfoldable pub ran : List ℕ → List ℕ → List ℕ → List Instruction → List ℕ
ran registers temps results [] = results
ran registers temps results (i ∷ is) = ran registers temps (results ++ result_of registers temps results i ∷ []) is

-- ---- what an instruction looks up is there

abbrev pub IsArgumentSound : ℕ → ℕ → Argument → Type 0
IsArgumentSound places results (Number n) = Unit {0}
IsArgumentSound places results (Var at) = at < places
IsArgumentSound places results (VarNumber op at n) = at < places
IsArgumentSound places results (VarVar op at other) = (at < places) × (other < places)
IsArgumentSound places results (Result k) = k < results

abbrev pub IsInstructionSound : ℕ → ℕ → Instruction → Type 0
IsInstructionSound places results (Unary op a) = IsArgumentSound places results a
IsInstructionSound places results (Binary op a b) = IsArgumentSound places results a × IsArgumentSound places results b
IsInstructionSound places results (Sext k a) = IsArgumentSound places results a
IsInstructionSound places results (Pick a b c) =
    IsArgumentSound places results a × (IsArgumentSound places results b × IsArgumentSound places results c)

-- what each instruction looks up is there: `places` registers and temps, and the results of the instructions before it, which begin
-- with `results` ones
unfoldable pub AreSound : ℕ → ℕ → List Instruction → Type 0
AreSound places results [] = Unit {0}
AreSound places results (i ∷ is) = IsInstructionSound places results i × AreSound places (results + 1) is

-- ---- the code of an expression

-- code was added, and after it the argument stands for the expression's value, whatever the registers and the temps are
pub record IsCodeOf (before after : List Instruction) (arg : Argument) (e : Expr ℕ) : Type 0 where
  pub more : List Instruction
  pub grown : after ≡ before ++ more
  pub values : (registers temps : List ℕ) → argument_value registers temps (ran registers temps [] after) arg ≡ value registers temps e
  pub there : (places : ℕ) → reach e ≤ places → IsArgumentSound places (length after) arg
  pub sound : (places : ℕ) → reach e ≤ places → AreSound places 0 before → AreSound places 0 after
