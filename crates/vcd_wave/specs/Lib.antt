pub mod Wave
pub mod WaveText
pub mod Told
pub mod Walks
pub mod Digits
pub mod Headers
pub mod Scans
pub use Wave.{Change, Instant, changes_between, closing_instant, differs, fifo_names, has_some, instant_at, instant_of}
unfoldable pub use Wave.{instants_to, wave_of}
pub use WaveText.{change_tokens, fifo_code, header_lines, instant_lines, opening_instant, time_tokens, var_tokens}
unfoldable pub use WaveText.{wave_text}
pub use Told.{IsChange, IsWave, TellsFill, Varies, last_or, last_told, told_in}
unfoldable pub use Told.{told_fill}
pub use Walks.{AreWalks, StandsBy, change_if, change_of, least_next, other_fill}
pub use Digits.{digits_read, number_read, on_some, one_digit}
unfoldable pub use Digits.{numeral}
pub use Headers.{Headed, NamesFrom, declaring, empty_from, empty_text}
pub use Scans.{ChangesLead, FitsReader, InstantsLead, LeadsFor, ScanLeads, begun, change_step, opening_scan, step, time_step}
pub use declared.{reading.WaveLine.WaveLine, scan.Probe.Probe, scan.Scan.Scan, walk.FillChange.FillChange}
pub use Rattle.port_clocks.specs.{FifoWalk, IsFifoWalk, never, next_of}
pub use Rattle.timelines.specs.{HasFill, fifos, fills, last_clock}
unfoldable pub use Rattle.timelines.specs.{fill}
pub use Rattle.report_text.specs.{line, text_of_lines}
unfoldable pub use Rattle.lockstep_defs.specs.{moved}
pub use Rattle.flow_design.specs.{AreEntriesSound, Channel, ChannelKind, Design, FitsEngine, Plan, Token, begins_with_letter, clock_of}
pub use Rattle.flow_design.specs.{is_fifo, is_name, is_name_byte, kind_at, no_channel}
pub use Rattle.sim_io.specs.{AppendsPrefix, HasCauseOf, IsTold}
