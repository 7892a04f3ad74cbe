-- What an operation names: registers and temps, expressions, a memory, and the port of a channel at which it stands.
use Rattle.std.specs.Prelude.{ℕ, if◌then◌else◌, List, [], ◌∷◌, Option, Some, None, option_and_then}
use Rattle.std.specs.Option.{option_map}
use Rattle.flow_word.specs.{Kind, Port, side_of, is_taking, Side}
use Rattle.flow_design.specs.{declared.expr.Expr.Expr, declared.expr.Op.Op}
use Rattle.flow_design.specs.declared.expr.Op.TheVariants.{Set, Load, Store, Read, Write, TryRead, TryWrite, Empty, Full}
use Rattle.flow_word.specs.declared.access.Kind.TheVariants as kind

-- the registers and temps that an operation writes
abbrev pub places_written : Op ℕ → List ℕ
places_written (Set x e) = x ∷ []
places_written (Load x n e) = x ∷ []
places_written (Store n e a) = []
places_written (Read f x) = x ∷ []
places_written (Write f e) = []
places_written (TryRead f x ok) = x ∷ ok ∷ []
places_written (TryWrite f ok e) = ok ∷ []
places_written (Empty f x) = x ∷ []
places_written (Full f x) = x ∷ []

-- the expressions of an operation
abbrev pub expressions_of : Op ℕ → List (Expr ℕ)
expressions_of (Set x e) = e ∷ []
expressions_of (Load x n e) = e ∷ []
expressions_of (Store n e a) = e ∷ a ∷ []
expressions_of (Read f x) = []
expressions_of (Write f e) = e ∷ []
expressions_of (TryRead f x ok) = []
expressions_of (TryWrite f ok e) = e ∷ []
expressions_of (Empty f x) = []
expressions_of (Full f x) = []

-- the memory that an operation uses, if it uses one
abbrev pub memory_used : Op ℕ → Option ℕ
memory_used (Set x e) = None
memory_used (Load x n e) = Some n
memory_used (Store n e a) = Some n
memory_used (Read f x) = None
memory_used (Write f e) = None
memory_used (TryRead f x ok) = None
memory_used (TryWrite f ok e) = None
memory_used (Empty f x) = None
memory_used (Full f x) = None

-- the kind and the channel of a FIFO operation; none for any other operation
abbrev pub kind_and_channel : Op ℕ → Option (Kind × ℕ)
kind_and_channel (Set x e) = None
kind_and_channel (Load x n e) = None
kind_and_channel (Store n e a) = None
kind_and_channel (Read f x) = Some (kind.Read, f)
kind_and_channel (Write f e) = Some (kind.Write, f)
kind_and_channel (TryRead f x ok) = Some (kind.TryRead, f)
kind_and_channel (TryWrite f ok e) = Some (kind.TryWrite, f)
kind_and_channel (Empty f x) = Some (kind.Empty, f)
kind_and_channel (Full f x) = Some (kind.Full, f)

-- the port of an access of this kind
abbrev pub port : Kind → ℕ → Port
port k f = record { side = side_of k; channel = f }

-- the port at which an access of this kind pops or pushes; none where the kind only tests
abbrev pub taken_port : Kind → ℕ → Option Port
taken_port k f = if is_taking k then Some (port k f) else None

-- the port at which an operation stands: `read`, `tryread` and `empty` at the popping side, `write`, `trywrite` and `full` at the pushing
-- side
abbrev pub port_of : Op ℕ → Option Port
port_of op = option_map (λ a. port a.0 a.1) (kind_and_channel op)

-- the port at which an operation pops or pushes: only `read`, `tryread`, `write` and `trywrite` have one
abbrev pub used_port : Op ℕ → Option Port
used_port op = option_and_then (λ a. taken_port a.0 a.1) (kind_and_channel op)

-- this side of this channel
abbrev pub port_at : Side → ℕ → Port
port_at side c = record { side = side; channel = c }
