-- The value of an operand.
use Rattle.std.specs.Prelude.{ℕ, ◌≡◌, ◌<◌, ◌≤◌, List, [], length}
use Rattle.flow_design.specs.{Expr, binary, variable, value, reach}
use Rattle.module_code.specs.declared.operand.Operand.{Operand}
use Rattle.module_code.specs.declared.operand.Operand.TheVariants.{Number, Var, VarNumber, VarVar, Single, Long}
use Rattle.module_code.specs.Flat.{argument_value, result_of, ran, IsArgumentSound, IsInstructionSound, AreSound}

abbrev pub operand_value : List ℕ → List ℕ → Operand → ℕ
operand_value registers temps (Number n) = n
operand_value registers temps (Var at) = variable registers temps at
operand_value registers temps (VarNumber op at n) = binary op (variable registers temps at) n
operand_value registers temps (VarVar op at other) = binary op (variable registers temps at) (variable registers temps other)
operand_value registers temps (Single i) = result_of registers temps [] i
operand_value registers temps (Long code arg) = argument_value registers temps (ran registers temps [] code) arg

-- all that an operand looks up is there
abbrev pub IsOperandSound : ℕ → Operand → Type 0
IsOperandSound places (Number n) = Unit {0}
IsOperandSound places (Var at) = at < places
IsOperandSound places (VarNumber op at n) = at < places
IsOperandSound places (VarVar op at other) = (at < places) × (other < places)
IsOperandSound places (Single i) = IsInstructionSound places 0 i
IsOperandSound places (Long code arg) = AreSound places 0 code × IsArgumentSound places (length code) arg

-- how many results of instructions an operand needs room for
abbrev pub operand_room : Operand → ℕ
operand_room (Number n) = 0
operand_room (Var at) = 0
operand_room (VarNumber op at n) = 0
operand_room (VarVar op at other) = 0
operand_room (Single i) = 0
operand_room (Long code arg) = length code

-- the operand has the expression's value, whatever the registers and the temps are
pub record IsOperandOf (o : Operand) (e : Expr ℕ) : Type 0 where
  pub values : (registers temps : List ℕ) → operand_value registers temps o ≡ value registers temps e
  pub sound : (places : ℕ) → reach e ≤ places → IsOperandSound places o
