-- Small designs whose reports are known.
use Rattle.std.specs.Prelude.{ℕ, suc, List, [], ◌∷◌, Some, None}
use Rattle.flow_design.specs.{Expr, Op, Timed, Block, Channel, Plan, declared.design.Module.Module}
use Rattle.flow_design.specs.declared.expr.Expr.{Number, Var, Binary, Sext, Pick}
use Rattle.flow_design.specs.declared.expr.BinOp.TheVariants.{Add, Sub, Or, Xor, Shl, Shr, LtU, LtS, Div, Rem}
use Rattle.flow_design.specs.declared.expr.Op.TheVariants.{Set, Load, Store, Read, Write, TryRead, TryWrite, Empty}
use Rattle.flow_design.specs.declared.design.BlockKind.TheVariants.{Plain, Loop}
use Rattle.flow_design.specs.declared.design.ChannelKind.TheVariants.{Source, Sink, Fifo}
use Rattle.flow_design.specs.declared.design.Next.TheVariants.{Goto, Branch, Stop}

-- ---- parts

-- an operation at an offset
abbrev pub at : ℕ → Op ℕ → Timed
at offset op = record { offset = offset; guard = None; op = op }

-- an operation at an offset, with a guard
abbrev pub at_if : ℕ → ℕ → Op ℕ → Timed
at_if offset guard op = record { offset = offset; guard = Some guard; op = op }

abbrev pub source : ℕ → Channel
source width = record { name = []; width = width; kind = Source }

abbrev pub sink : ℕ → Channel
sink width = record { name = []; width = width; kind = Sink }

abbrev pub fifo : ℕ → Channel
fifo width = record { name = []; width = width; kind = Fifo 2 1 }

-- a FIFO with a delay
abbrev pub slow_fifo : ℕ → ℕ → Channel
slow_fifo width delay = record { name = []; width = width; kind = Fifo 2 delay }

-- a plain block `block LEN`, and a loop `loop II LEN while R`; after either the module ends
abbrev pub plain_block : ℕ → List Timed → Block
plain_block len ops = record { kind = Plain; len = len; temps = []; ops = ops; next = Stop }

abbrev pub loop : ℕ → ℕ → ℕ → List Timed → Block
loop ii len again ops = record { kind = Loop ii again; len = len; temps = []; ops = ops; next = Stop }

-- a module of one block, with registers of these widths
abbrev pub one_block : List ℕ → Block → Module
one_block registers b = record { name = []; registers = registers; memories = []; blocks = b ∷ [] }

-- a plan with the default limits
abbrev pub default_plan : List Channel → List Module → List (List ℕ) → List ℕ → Plan
default_plan channels modules inputs depths = record {
  design = record { channels = channels; modules = modules };
  inputs = inputs;
  cycles = 1000000000;
  ops = 100000;
  depths = depths;
}

-- ---- sources and sinks

abbrev pub adder : Module
adder = one_block (8 ∷ []) (plain_block 3 (at 0 (Read 0 0) ∷ at 2 (Write 1 (Binary Add (Var 0) (Number 1))) ∷ []))

abbrev pub adder_plan : List ℕ → Plan
adder_plan input = default_plan (source 8 ∷ sink 8 ∷ []) (adder ∷ []) (input ∷ [] ∷ []) (0 ∷ 0 ∷ [])

abbrev pub plain_case : Plan
plain_case = adder_plan (7 ∷ [])

abbrev pub exhausted_source : Plan
exhausted_source = adder_plan []

-- the operation count reaches the limit of 3 in the local clock in which the module ends
abbrev pub exact_operation_limit : Plan
exact_operation_limit = record plain_case { ops = 3 }

abbrev pub operation_limit_before_the_end : Plan
operation_limit_before_the_end = record plain_case { ops = 2 }

abbrev pub exact_end : Plan
exact_end = record plain_case { cycles = 3 }

abbrev pub cycle_limit_before_the_end : Plan
cycle_limit_before_the_end = record plain_case { cycles = 2 }

abbrev pub commit_order : Plan
commit_order = default_plan (sink 8 ∷ [])
    (one_block (8 ∷ []) (plain_block 2 (at 0 (Set 0 (Number 1)) ∷ at 0 (Set 0 (Number 2)) ∷ at 1 (Write 0 (Var 0)) ∷ [])) ∷ [])
    ([] ∷ []) (0 ∷ [])

-- operations that push one value after the other on channel 0, one in each clock
abbrev pub telling : ℕ → List (Expr ℕ) → List Timed
telling offset [] = []
telling offset (e ∷ es) = at offset (Write 0 e) ∷ telling (suc offset) es

abbrev pub word_arithmetic : Plan
word_arithmetic = default_plan (sink 64 ∷ [])
    (one_block [] (plain_block 9 (telling 0
    (Binary Div (Number 7) (Number 0)
    ∷ Binary Rem (Number 7) (Number 0)
    ∷ Binary Shl (Number 1) (Number 64)
    ∷ Sext 8 (Number 128)
    ∷ Binary LtS (Sext 1 (Number 1)) (Number 0)
    ∷ Binary Sub (Number 0) (Number 1)
    ∷ Pick (Number 0) (Number 5) (Number 6)
    ∷ Binary Shr (Number 256) (Number 4)
    ∷ Binary LtU (Number 18446744073709551615) (Number 1)
    ∷ []))) ∷ [])
    ([] ∷ []) (0 ∷ [])

abbrev pub empty_design : Plan
empty_design = default_plan [] [] [] []

-- ---- FIFOs

abbrev pub visibility_one_clock_later : Plan
visibility_one_clock_later = default_plan (source 8 ∷ fifo 8 ∷ sink 8 ∷ [])
    (one_block (8 ∷ []) (plain_block 2 (at 0 (Read 0 0) ∷ at 1 (Write 1 (Var 0)) ∷ []))
    ∷ one_block (8 ∷ []) (plain_block 2 (at 0 (Read 1 0) ∷ at 1 (Write 2 (Var 0)) ∷ []))
    ∷ [])
    ((5 ∷ []) ∷ [] ∷ [] ∷ []) (0 ∷ 2 ∷ 0 ∷ [])

-- the operations of a loop of three iterations, around an access: register i counts them, and register g tells the loop whether to
-- go on
abbrev pub counting : ℕ → ℕ → Op ℕ → List Timed
counting i g op = at 0 op ∷ at 0 (Set i (Binary Add (Var i) (Number 1))) ∷ at 0 (Set g (Binary LtU (Var i) (Number 2))) ∷ []

abbrev pub three_values : ℕ → Plan
three_values depth = default_plan (fifo 8 ∷ [])
    (one_block (8 ∷ 1 ∷ []) (loop 1 1 1 (counting 0 1 (Write 0 (Var 0))))
    ∷ one_block (8 ∷ 8 ∷ 1 ∷ []) (loop 1 1 2 (counting 1 2 (Read 0 0)))
    ∷ [])
    ([] ∷ []) (depth ∷ [])

abbrev pub three_values_through_depth_two : Plan
three_values_through_depth_two = three_values 2

abbrev pub three_values_through_depth_one : Plan
three_values_through_depth_one = three_values 1

-- a module that pushes and pops one FIFO; its registers are x, o and p
abbrev pub both_ends_in_one_module : Plan
both_ends_in_one_module = default_plan (fifo 8 ∷ sink 8 ∷ [])
    (one_block (8 ∷ 1 ∷ 1 ∷ []) (plain_block 3
    (at 0 (Write 0 (Number 5))
    ∷ at 0 (TryRead 0 0 1)
    ∷ at 1 (TryRead 0 0 2)
    ∷ at 2 (Write 1 (Binary Or (Binary Shl (Var 2) (Number 1)) (Var 1)))
    ∷ []))
    ∷ [])
    ([] ∷ [] ∷ []) (2 ∷ 0 ∷ [])

-- ---- queries

-- a push in clock 5, and a tried pop in the given clock
abbrev pub tried_pop : ℕ → Plan
tried_pop clock = default_plan (fifo 8 ∷ sink 8 ∷ [])
    (one_block [] (plain_block 6 (at 5 (Write 0 (Number 3)) ∷ []))
    ∷ one_block (8 ∷ 1 ∷ []) (plain_block (suc (suc clock)) (at clock (TryRead 0 0 1) ∷ at (suc clock) (Write 1 (Var 1)) ∷ []))
    ∷ [])
    ([] ∷ [] ∷ []) (2 ∷ 0 ∷ [])

abbrev pub tie_in_the_clock : Plan
tie_in_the_clock = tried_pop 5

abbrev pub one_clock_after_the_push : Plan
one_clock_after_the_push = tried_pop 6

-- a module that tries to pop one channel, then pushes another, and pushes the outcome on a third
abbrev pub asking : ℕ → ℕ → ℕ → Module
asking pops pushes tells = one_block (8 ∷ 1 ∷ [])
    (plain_block 2 (at 0 (TryRead pops 0 1) ∷ at 1 (Write pushes (Number 1)) ∷ at 1 (Write tells (Var 1)) ∷ []))

abbrev pub two_least_queries : Plan
two_least_queries = default_plan (fifo 8 ∷ fifo 8 ∷ sink 8 ∷ sink 8 ∷ []) (asking 1 0 2 ∷ asking 0 1 3 ∷ [])
    ([] ∷ [] ∷ [] ∷ [] ∷ []) (2 ∷ 2 ∷ 0 ∷ 0 ∷ [])

-- a module that tests and pops; its registers are x, e, g and z, and its channels b, c and y
abbrev pub tester : Module
tester = one_block (8 ∷ 1 ∷ 1 ∷ 1 ∷ []) (loop 1 4 2
    (at 0 (Read 0 0)
    ∷ at 0 (Set 2 (Binary Xor (Var 2) (Number 1)))
    ∷ at 2 (Empty 1 1)
    ∷ at 3 (Write 2 (Var 1))
    ∷ at_if 3 3 (Read 1 0)
    ∷ []))

abbrev pub later_stall_delays_earlier_query : Plan
later_stall_delays_earlier_query = default_plan (fifo 8 ∷ fifo 8 ∷ sink 8 ∷ [])
    (tester
    ∷ one_block [] (plain_block 11 (at 0 (Write 0 (Number 1)) ∷ at 9 (Write 0 (Number 2)) ∷ at 10 (Write 1 (Number 1)) ∷ []))
    ∷ [])
    ([] ∷ [] ∷ [] ∷ []) (2 ∷ 2 ∷ 0 ∷ [])

-- a try to push a second element, which fails at depth 1 and is done at depth 2
abbrev pub outcome_that_turns : ℕ → Plan
outcome_that_turns depth = default_plan (fifo 8 ∷ sink 8 ∷ [])
    (one_block (1 ∷ []) (plain_block 3 (at 0 (Write 0 (Number 1)) ∷ at 1 (TryWrite 0 0 (Number 2)) ∷ at 2 (Write 1 (Var 0)) ∷ []))
    ∷ one_block (8 ∷ []) (plain_block 10 (at 9 (Read 0 0) ∷ []))
    ∷ [])
    ([] ∷ [] ∷ []) (depth ∷ 0 ∷ [])

-- a module that tries to pop in each clock without end; its registers are x, ok and one
abbrev pub poller : Module
poller = one_block (8 ∷ 1 ∷ 1 ∷ []) (loop 1 1 2 (at 0 (TryRead 0 0 1) ∷ at 0 (Set 2 (Number 1)) ∷ []))

abbrev pub polling_loop : Plan
polling_loop = record {
  design =
      record { channels = fifo 8 ∷ []; modules = poller ∷ one_block (1 ∷ []) (plain_block 1 (at_if 0 0 (Write 0 (Number 1)) ∷ [])) ∷ [] };
  inputs = [] ∷ [];
  cycles = 1000;
  ops = 10;
  depths = 2 ∷ [];
}

-- ---- deadlock

-- a producer that pushes without end, and a consumer that never pops
abbrev pub run_ahead_past_full : Plan
run_ahead_past_full = default_plan (fifo 8 ∷ [])
    (one_block (1 ∷ []) (loop 1 1 0 (at 0 (Write 0 (Number 7)) ∷ at 0 (Set 0 (Number 1)) ∷ []))
    ∷ one_block (8 ∷ 1 ∷ []) (plain_block 1 (at_if 0 1 (Read 0 0) ∷ []))
    ∷ [])
    ([] ∷ []) (2 ∷ [])

-- a module that pops one channel, and then pushes another
abbrev pub waiting : ℕ → ℕ → Module
waiting pops pushes = one_block (8 ∷ []) (plain_block 2 (at 0 (Read pops 0) ∷ at 1 (Write pushes (Number 1)) ∷ []))

abbrev pub deadlock_at_once : Plan
deadlock_at_once = default_plan (fifo 8 ∷ fifo 8 ∷ []) (waiting 1 0 ∷ waiting 0 1 ∷ []) ([] ∷ [] ∷ []) (2 ∷ 2 ∷ [])

-- a deadlock that depends on the depth of the first FIFO; the channels are b, c and y
abbrev pub deadlocked_record_goes_on : ℕ → Plan
deadlocked_record_goes_on depth = default_plan (fifo 8 ∷ fifo 8 ∷ sink 8 ∷ [])
    (one_block [] (plain_block 4
    (at 0 (Write 0 (Number 1)) ∷ at 1 (Write 0 (Number 2)) ∷ at 2 (Write 0 (Number 3)) ∷ at 3 (Write 1 (Number 9)) ∷ []))
    ∷ one_block (8 ∷ []) (plain_block 5
    (at 0 (Read 1 0) ∷ at 1 (Read 0 0) ∷ at 2 (Read 0 0) ∷ at 3 (Read 0 0) ∷ at 4 (Write 2 (Var 0)) ∷ []))
    ∷ [])
    ([] ∷ [] ∷ [] ∷ []) (depth ∷ 2 ∷ 0 ∷ [])

-- ---- FIFOs with a delay

abbrev pub five_clocks_later : Plan
five_clocks_later = default_plan (source 8 ∷ slow_fifo 8 5 ∷ sink 8 ∷ [])
    (one_block (8 ∷ []) (plain_block 2 (at 0 (Read 0 0) ∷ at 1 (Write 1 (Var 0)) ∷ []))
    ∷ one_block (8 ∷ []) (plain_block 2 (at 0 (Read 1 0) ∷ at 1 (Write 2 (Var 0)) ∷ []))
    ∷ [])
    ((5 ∷ []) ∷ [] ∷ [] ∷ []) (0 ∷ 2 ∷ 0 ∷ [])

abbrev pub three_values_late : ℕ → Plan
three_values_late depth = record (three_values depth) {
  design = record (three_values depth).design { channels = slow_fifo 8 5 ∷ [] };
}

-- a push in clock 5 on a FIFO with this delay, and a tried pop in clock 6
abbrev pub tried_pop_late : ℕ → Plan
tried_pop_late delay = default_plan (slow_fifo 8 delay ∷ sink 8 ∷ [])
    (one_block [] (plain_block 6 (at 5 (Write 0 (Number 3)) ∷ []))
    ∷ one_block (8 ∷ 1 ∷ []) (plain_block 8 (at 6 (TryRead 0 0 1) ∷ at 7 (Write 1 (Var 1)) ∷ []))
    ∷ [])
    ([] ∷ [] ∷ []) (2 ∷ 0 ∷ [])

-- two modules that wait for one another; the FIFO that one of them pops has a long delay
abbrev pub slow_deadlock : Plan
slow_deadlock = record deadlock_at_once { design = record deadlock_at_once.design { channels = slow_fifo 8 9 ∷ fifo 8 ∷ [] } }

-- a module that waits for an element in flight, and for an element that never comes
abbrev pub held_by_the_second : Plan
held_by_the_second = default_plan (slow_fifo 8 9 ∷ fifo 8 ∷ [])
    (one_block [] (plain_block 1 (at 0 (Write 0 (Number 3)) ∷ []))
    ∷ one_block (8 ∷ 8 ∷ []) (plain_block 1 (at 0 (Read 0 0) ∷ at 0 (Read 1 1) ∷ []))
    ∷ one_block (1 ∷ []) (plain_block 1 (at_if 0 0 (Write 1 (Number 1)) ∷ []))
    ∷ [])
    ([] ∷ [] ∷ []) (2 ∷ 2 ∷ [])

-- ---- loops, temps, memories and terminators

-- II = LEN = 2: the temp of an iteration is 0 at its start, whatever the iteration before it wrote in its own temp. The registers
-- are i and g, and temp t is pushed at offset 0 and written at offset 1
abbrev pub back_to_back : Plan
back_to_back = default_plan (sink 8 ∷ [])
    (one_block (8 ∷ 1 ∷ []) (record {
      kind = Loop 2 1;
      len = 2;
      temps = 8 ∷ [];
      ops = at 0 (Write 0 (Var 2))
          ∷ at 0 (Set 0 (Binary Add (Var 0) (Number 1)))
          ∷ at 0 (Set 1 (Binary LtU (Var 0) (Number 2)))
          ∷ at 1 (Set 2 (Number 9))
          ∷ [];
      next = Stop;
    }) ∷ [])
    ([] ∷ []) (0 ∷ [])

-- registers i and g, and a memory of 3 words of 4 bits. The first block, a loop with two live iterations, stores 17 + i at address
-- i + 1 by a temp. A branch leads to the third block, which pushes the words on the sink, and then to the fourth, which ends the
-- module
abbrev pub module_parts : Plan
module_parts = default_plan (sink 8 ∷ [])
    (record {
      name = [];
      registers = 8 ∷ 1 ∷ [];
      memories = record { width = 4; len = 3 } ∷ [];
      blocks = record {
        kind = Loop 1 1;
        len = 2;
        temps = 8 ∷ [];
        ops = at 0 (Set 2 (Binary Add (Var 0) (Number 17)))
            ∷ at 0 (Set 0 (Binary Add (Var 0) (Number 1)))
            ∷ at 0 (Set 1 (Binary LtU (Var 0) (Number 2)))
            ∷ at 1 (Store 0 (Var 0) (Var 2))
            ∷ [];
        next = Branch 0 2 1;
      }
          ∷ plain_block 1 []
          ∷ record {
            kind = Plain;
            len = 4;
            temps = 8 ∷ [];
            ops = at 0 (Load 2 0 (Number 0))
                ∷ at 1 (Write 0 (Var 2))
                ∷ at 1 (Load 2 0 (Number 4))
                ∷ at 2 (Write 0 (Var 2))
                ∷ at 2 (Load 2 0 (Number 2))
                ∷ at 3 (Write 0 (Var 2))
                ∷ [];
            next = Goto 3;
          }
          ∷ plain_block 1 []
          ∷ [];
    } ∷ [])
    ([] ∷ []) (0 ∷ [])
