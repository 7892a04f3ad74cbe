-- What an operation uses: the registers, memories and ends of channels that it reads, writes, or has as its guard.
use Rattle.std.specs.Prelude.{ℕ, Bool, false, ◌||◌, ◌==◌, Option, Some, None, List}
use Rattle.std.specs.List.{list_any}
use Rattle.flow_word.specs.{Port, declared.access.Side.TheVariants.Pop, declared.access.Side.TheVariants.Push}
use Rattle.flow_design.specs.{Expr, Op, Timed, is_port, places_written, expressions_of, memory_used, port_of, used_port}
use Rattle.flow_design.specs.declared.expr.Expr.{more_of-Expr, Number, Var, Unary', Binary', Sext', Pick'}
use Rattle.flow_design.specs.declared.expr.Op.TheVariants.{Set, Load, Store, Read, Write, TryRead, TryWrite, Empty, Full}
use Rattle.serial_order.specs.declared.order.Used.{Used}
use Rattle.serial_order.specs.declared.order.Used.TheVariants.{Register, Memory, Reading, Writing}

-- ---- names

-- the expression names this register or temp
unfoldable pub names : ℕ → Expr ℕ → Bool
names x (Number n) = false
names x (Var at) = at == x
names x (Unary' op s (more_of-Expr a _)) = names x a
names x (Binary' op s (more_of-Expr a _) t (more_of-Expr b _)) = names x a || names x b
names x (Sext' k s (more_of-Expr a _)) = names x a
names x (Pick' s (more_of-Expr a _) t (more_of-Expr b _) u (more_of-Expr c _)) = names x a || (names x b || names x c)

-- one of the expressions names this register or temp
abbrev pub is_named : ℕ → List (Expr ℕ) → Bool
is_named x es = list_any (names x) es

-- a number is present, and it is this one
abbrev pub is_this : ℕ → Option ℕ → Bool
is_this n None = false
is_this n (Some k) = k == n

-- the register or temp is an item of the list
abbrev pub is_listed : ℕ → List ℕ → Bool
is_listed x xs = list_any (λ y. y == x) xs

-- ---- uses

-- the memory that an operation writes, if any
abbrev pub stored_in : Op ℕ → Option ℕ
stored_in (Set x e) = None
stored_in (Load x n e) = None
stored_in (Store n e a) = Some n
stored_in (Read f x) = None
stored_in (Write f e) = None
stored_in (TryRead f x ok) = None
stored_in (TryWrite f ok e) = None
stored_in (Empty f x) = None
stored_in (Full f x) = None

-- the end of a channel at which elements are popped; and then, the one at which they are pushed
abbrev pub reading_end : ℕ → Port
reading_end f = record { side = Pop; channel = f }

abbrev pub writing_end : ℕ → Port
writing_end f = record { side = Push; channel = f }

-- the operation writes the thing: a pop writes the reading end of its channel, and a push the writing end
abbrev pub writes : Used → Op ℕ → Bool
writes (Register x) op = is_listed x (places_written op)
writes (Memory n) op = is_this n (stored_in op)
writes (Reading f) op = is_port (reading_end f) (used_port op)
writes (Writing f) op = is_port (writing_end f) (used_port op)

-- the scheduled operation reads the thing, writes it or has it as its guard
abbrev pub is_use : Used → Timed → Bool
is_use (Register x) t = is_this x t.guard || (is_named x (expressions_of t.op) || is_listed x (places_written t.op))
is_use (Memory n) t = is_this n (memory_used t.op)
is_use (Reading f) t = is_port (reading_end f) (port_of t.op)
is_use (Writing f) t = is_port (writing_end f) (port_of t.op)
