-- The action of each operation.
use Rattle.std.proofs.Common.{◌≡◌, refl, ◌∙◌, ap, ℕ, List, Bool, true, false, cond, [], ◌∷◌, ◌++◌, Option, Some}
use Rattle.std.specs.{Prelude.slice_index, Prelude.fold, Prelude.map, Int.from_bool, Int.Bits.bit_and}
use Rattle.module_code.specs.{Block, Channel, Expr, ModuleState, Reply, Request, cut_to, temps_of, Kind, memory_of, address_in, width_of}
use Rattle.module_code.specs.{value_of, value_in, is_yes, stored, Operand, Target, IsMaskOf, IsOperandOf, places_in, live_value, IsActionOf}
use Rattle.module_code.specs.{put_value, put_word, IsTargetOf}
use Rattle.flow_design.specs.{declared.design.Module.Module, declared.state.Effect.TheVariants.Variable}
use Rattle.module_code.proofs.Masking.{masked_is}
use Rattle.flow_word.specs.declared.access.Kind.TheVariants as kind
use Rattle.flow_design.specs.declared.expr.Op.TheVariants as op
use Rattle.module_code.specs.declared.action.OpCode.TheVariants as action

-- what a write asks
abbrev pushing : Kind → ℕ → ℕ → Option Request
pushing k f word = Some (record { kind = k; channel = f; value = word })

pushed_request : (channels : List Channel) (s : ModuleState) (i f mask : ℕ) (k : Kind) (o : Operand) (e : Expr ℕ)
    → IsMaskOf (width_of channels f) mask → IsOperandOf o e
    → pushing k f (bit_and (live_value s i o) mask) ≡ pushing k f (cut_to (width_of channels f) (value_of s i e))
pushed_request channels s i f mask k o e ones h =
    ap (pushing k f) (masked_is (live_value s i o) (width_of channels f) mask ones
    ∙ ap (λ (v : ℕ). cut_to (width_of channels f) v) (h.values s.registers (temps_of s i)))

pub set_action : (channels : List Channel) (m : Module) (b : Block) (t : Target) (x : ℕ) (o : Operand) (e : Expr ℕ) → IsTargetOf m b t x
    → IsOperandOf o e → IsActionOf channels m b (action.Set t o) (op.Set x e)
set_action channels m b t x o e target h = record {
  values = λ s i. h.values s.registers (temps_of s i);
  addresses = λ s i. refl;
  requests = λ s i. refl;
  replies = refl;
  written = λ s n r. target s n.iteration n.value;
  ready = λ s i there. h.sound (places_in s i) there;
}

pub load_action : (channels : List Channel) (m : Module) (b : Block) (t : Target) (x n : ℕ) (o : Operand) (e : Expr ℕ) → IsTargetOf m b t x
    → IsOperandOf o e → IsActionOf channels m b (action.Load t n o) (op.Load x n e)
load_action channels m b t x n o e target h = record {
  values = λ s i. ap (λ (v : ℕ). slice_index (memory_of s n) (address_in s n v)) (h.values s.registers (temps_of s i));
  addresses = λ s i. refl;
  requests = λ s i. refl;
  replies = refl;
  written = λ s k r. target s k.iteration k.value;
  ready = λ s i there. (h.sound (places_in s i) there.0, there.1);
}

pub store_action : (channels : List Channel) (m : Module) (b : Block) (n mask : ℕ) (o a : Operand) (e v : Expr ℕ)
    → IsMaskOf (slice_index (map (λ memory. memory.width) m.memories) n) mask → IsOperandOf o e → IsOperandOf a v
    → IsActionOf channels m b (action.Store n mask o a) (op.Store n e v)
store_action channels m b n mask o a e v ones h k = record {
  values = λ s i. k.values s.registers (temps_of s i);
  addresses = λ s i. ap (λ (x : ℕ). address_in s n x) (h.values s.registers (temps_of s i));
  requests = λ s i. refl;
  replies = refl;
  written = λ s d r. ap (λ (w : ℕ). put_word s n d.address w) (masked_is d.value _ mask ones);
  ready = λ s i there. (h.sound (places_in s i) there.0, (k.sound (places_in s i) there.1, there.2));
}

pub read_action : (channels : List Channel) (m : Module) (b : Block) (f : ℕ) (t : Target) (x : ℕ) → IsTargetOf m b t x
    → IsActionOf channels m b (action.Read f t) (op.Read f x)
read_action channels m b f t x target = record {
  values = λ s i. refl;
  addresses = λ s i. refl;
  requests = λ s i. refl;
  replies = refl;
  written = λ s n r. target s n.iteration (value_in r);
  ready = λ s i there. tt;
}

pub write_action : (channels : List Channel) (m : Module) (b : Block) (f mask : ℕ) (o : Operand) (e : Expr ℕ)
    → IsMaskOf (width_of channels f) mask → IsOperandOf o e → IsActionOf channels m b (action.Write f mask o) (op.Write f e)
write_action channels m b f mask o e ones h = record {
  values = λ s i. refl;
  addresses = λ s i. refl;
  requests = λ s i. pushed_request channels s i f mask kind.Write o e ones h;
  replies = refl;
  written = λ s n r. refl;
  ready = λ s i there. h.sound (places_in s i) there;
}

-- both targets of a tried read
taken : (m : Module) (b : Block) (t k : Target) (x ok : ℕ) (s : ModuleState) (i : ℕ) (r : Reply) (yes : Bool) → IsTargetOf m b t x
    → IsTargetOf m b k ok
    → put_value (cond yes (put_value s i t (value_in r)) s) i k (from_bool yes)
    ≡ fold (stored m b) s (cond yes (Variable i x (value_in r) ∷ []) [] ++ Variable i ok (from_bool yes) ∷ [])
taken m b t k x ok s i r true first second =
    second (put_value s i t (value_in r)) i 1 ∙ ap (λ (u : ModuleState). stored m b u (Variable i ok 1)) (first s i (value_in r))
taken m b t k x ok s i r false first second = second s i 0

pub try_read_action : (channels : List Channel) (m : Module) (b : Block) (f : ℕ) (t k : Target) (x ok : ℕ) → IsTargetOf m b t x
    → IsTargetOf m b k ok → IsActionOf channels m b (action.TryRead f t k) (op.TryRead f x ok)
try_read_action channels m b f t k x ok first second = record {
  values = λ s i. refl;
  addresses = λ s i. refl;
  requests = λ s i. refl;
  replies = refl;
  written = λ s n r. taken m b t k x ok s n.iteration r (is_yes r) first second;
  ready = λ s i there. tt;
}

pub try_write_action : (channels : List Channel) (m : Module) (b : Block) (f mask : ℕ) (t : Target) (ok : ℕ) (o : Operand) (e : Expr ℕ)
    → IsMaskOf (width_of channels f) mask → IsTargetOf m b t ok → IsOperandOf o e
    → IsActionOf channels m b (action.TryWrite f mask t o) (op.TryWrite f ok e)
try_write_action channels m b f mask t ok o e ones target h = record {
  values = λ s i. refl;
  addresses = λ s i. refl;
  requests = λ s i. pushed_request channels s i f mask kind.TryWrite o e ones h;
  replies = refl;
  written = λ s n r. target s n.iteration (from_bool (is_yes r));
  ready = λ s i there. h.sound (places_in s i) there;
}

pub empty_action : (channels : List Channel) (m : Module) (b : Block) (f : ℕ) (t : Target) (x : ℕ) → IsTargetOf m b t x
    → IsActionOf channels m b (action.Empty f t) (op.Empty f x)
empty_action channels m b f t x target = record {
  values = λ s i. refl;
  addresses = λ s i. refl;
  requests = λ s i. refl;
  replies = refl;
  written = λ s n r. target s n.iteration (from_bool (is_yes r));
  ready = λ s i there. tt;
}

pub full_action : (channels : List Channel) (m : Module) (b : Block) (f : ℕ) (t : Target) (x : ℕ) → IsTargetOf m b t x
    → IsActionOf channels m b (action.Full f t) (op.Full f x)
full_action channels m b f t x target = record {
  values = λ s i. refl;
  addresses = λ s i. refl;
  requests = λ s i. refl;
  replies = refl;
  written = λ s n r. target s n.iteration (from_bool (is_yes r));
  ready = λ s i there. tt;
}

pub ruleset the_actions = (
  set_action,
  load_action,
  store_action,
  read_action,
  write_action,
  try_read_action,
  try_write_action,
  empty_action,
  full_action,
)
