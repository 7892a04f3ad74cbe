-- The causes of a module's stalls, given its clocks at each empty channel and at each full one.
use Rattle.std.specs.Prelude.{ℕ, ◌<◌, List, slice_index}
use Rattle.flow_word.specs.{Side, declared.access.Side.TheVariants.Pop, declared.access.Side.TheVariants.Push}
use Rattle.flow_design.specs.{Design, Token}
use Rattle.report_text.specs.{module_name, channel_name}
use Rattle.timelines.specs.{Doing, declared.span.Doing.TheVariants.Moves, declared.span.Doing.TheVariants.Still}
use Rattle.stall_text.specs.StallText.{cause_lines}

-- where a module stalls, its port is at a channel whose number is below `channels`
abbrev pub HasChannelBelow : ℕ → Doing → Type 0
HasChannelBelow channels Moves = Unit {0}
HasChannelBelow channels (Still port) = port.channel < channels

abbrev pub causes_by : Design → ℕ → List ℕ → List ℕ → ℕ → Side → List (List Token)
causes_by design i empty full f Pop = cause_lines (module_name design i) (channel_name design f) Pop (slice_index empty f)
causes_by design i empty full f Push = cause_lines (module_name design i) (channel_name design f) Push (slice_index full f)
