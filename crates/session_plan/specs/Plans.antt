-- The plan and the edits of a session.
use Rattle.std.specs.Prelude.{ℕ, ◌==◌, List, [], ◌∷◌, map, Option, None, Some, if◌then◌else◌}
use Rattle.std.specs.List.{filter_map, flat_map, enumerate_from}
use Rattle.flow_design.specs.{Statement, ChannelKind, Channel, Memory, BlockKind, Block as BlockOfPlan, Plan, Edit, Scale, limits_at}
use Rattle.flow_design.specs.{cut_to, Name, declared.design.Module.Module as ModuleOfPlan}
use Rattle.flow_design.specs.declared.session.Statement.TheVariants.{Source, Sink, Fifo, Module, Mem, Block, Loop, Input, Limits, Depth}
use Rattle.session_plan.specs.{Names.name_number, Names.Scope, Numbered.timed, Numbered.terminator, declared.defaults.TheConstants.CYCLES}
use Rattle.session_plan.specs.Sections.{sections, declared, declared_width}
use Rattle.flow_design.specs.declared.design.ChannelKind.TheVariants as kind
use Rattle.flow_design.specs.declared.design.BlockKind.TheVariants as block_kind
use Rattle.flow_design.specs.declared.design.Next.TheVariants as next
use Rattle.session_plan.specs.declared.section.Level.TheVariants as level
use Rattle.session_plan.specs.declared.section.Sort.TheVariants as sort

-- ---- channels

abbrev pub channel : Statement → Option Channel
channel (Source n w) = Some (record { name = n; width = w; kind = kind.Source })
channel (Sink n w) = Some (record { name = n; width = w; kind = kind.Sink })
channel (Fifo n w depth delay) = Some (record { name = n; width = w; kind = kind.Fifo depth delay })
channel s = None

-- the declared depth of a FIFO, or 0 for any other channel
abbrev pub depth_in : ChannelKind → ℕ
depth_in kind.Source = 0
depth_in kind.Sink = 0
depth_in (kind.Fifo depth delay) = depth

-- ---- blocks

-- the first item of a list, or the given default where there is none
abbrev pub first_or : {A : Type 0} → A → List A → A
first_or a [] = a
first_or a (b ∷ bs) = b

-- the kind of the block that `block N LEN`, or `loop N II LEN while R`, begins
abbrev pub kind_of : Scope → Statement → BlockKind
kind_of scope (Loop n ii len again) = block_kind.Loop ii (name_number scope.registers again)
kind_of scope s = block_kind.Plain

abbrev pub len_of : Statement → ℕ
len_of (Block n len) = len
len_of (Loop n ii len again) = len
len_of s = 0

-- a block in its module: the temps of its body are numbered after the module's registers
unfoldable pub block : Scope → Statement × List Statement → BlockOfPlan
block scope (head, body) =
    let own : Scope = record scope { temps = filter_map (declared sort.Temps) body } in
    record {
      kind = kind_of scope head;
      len = len_of head;
      temps = filter_map (declared_width sort.Temps) body;
      ops = filter_map (timed own) body;
      next = first_or next.Stop (filter_map (terminator own) body);
    }

-- ---- modules

abbrev pub memory : Statement → Option Memory
memory (Mem n w len) = Some (record { width = w; len = len })
memory s = None

abbrev pub name_declared : Statement → Name
name_declared (Module n) = n
name_declared s = []

-- the names that the bodies of a module may use, without their temps
abbrev pub scope_of : List Name → List Statement → Scope
scope_of channels body = record {
  channels = channels;
  registers = filter_map (declared sort.Registers) body;
  memories = filter_map (declared sort.Memories) body;
  blocks = filter_map (declared sort.Blocks) body;
  temps = [];
}

unfoldable pub plan_module : List Name → Statement × List Statement → ModuleOfPlan
plan_module channels (head, body) = record {
  name = name_declared head;
  registers = filter_map (declared_width sort.Registers) body;
  memories = filter_map memory body;
  blocks = map (block (scope_of channels body)) (sections level.Blocks body);
}

-- ---- inputs, limits and edits

-- the values of an `input` for channel f; none for any other statement
abbrev pub values_for : List Name → ℕ → Statement → List ℕ
values_for names f (Input n values) = if name_number names n == f then values else []
values_for names f s = []

-- the inputs of a channel: a source takes the values that are given for it, each cut to its width
abbrev pub cut_inputs : ChannelKind → ℕ → List ℕ → List ℕ
cut_inputs kind.Source width values = map (cut_to width) values
cut_inputs kind.Sink width values = []
cut_inputs (kind.Fifo depth delay) width values = []

abbrev pub inputs_for : List Name → List Statement → ℕ × Channel → List ℕ
inputs_for names statements (f, c) = cut_inputs c.kind c.width (flat_map (values_for names f) statements)

-- the cycle limit and the operation limit of each module that a statement gives, if it gives them
abbrev pub limits : Statement → Option (ℕ × ℕ)
limits (Limits cycles ops) = Some (cycles, ops)
limits s = None

-- the limits of a session: those that a statement gives, or else the defaults
abbrev pub session_limits : Scale → List Statement → ℕ × ℕ
session_limits scale statements = first_or (CYCLES, (limits_at scale).default_operations) (filter_map limits statements)

abbrev pub edit : List Name → Statement → Option Edit
edit names (Depth n depth) = Some (record { channel = name_number names n; depth = depth })
edit names s = None

-- ---- the whole

abbrev pub channels_of : List Statement → List Channel
channels_of statements = filter_map channel statements

abbrev pub channel_names : List Statement → List Name
channel_names statements = filter_map (declared sort.Channels) statements

abbrev pub plan_modules : List Statement → List ModuleOfPlan
plan_modules statements = map (plan_module (channel_names statements)) (sections level.Modules statements)

unfoldable pub plan_of : Scale → List Statement → Plan
plan_of scale statements = record {
  design = record { channels = channels_of statements; modules = plan_modules statements };
  inputs = map (inputs_for (channel_names statements) statements) (enumerate_from 0 (channels_of statements));
  cycles = (session_limits scale statements).0;
  ops = (session_limits scale statements).1;
  depths = map (λ c. depth_in c.kind) (channels_of statements);
}

unfoldable pub edits_of : List Statement → List Edit
edits_of statements = filter_map (edit (channel_names statements)) statements
