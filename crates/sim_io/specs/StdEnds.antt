-- What contracts see of std's readers and writers as sources and sinks.
use Rattle.std.specs.Prelude.{ℕ, Bool}
use Rattle.sim_io.specs.{declared.std_ends.StdSource.StdSource, declared.std_ends.StdSink.StdSink}

-- the reader of a source
abbrev pub reader_of : {R : Type 0} → StdSource R → R
reader_of source = source.reader

-- how often a source has failed
abbrev pub take_faults : {R : Type 0} → StdSource R → ℕ
take_faults source = source.faults

-- the writer of a sink
abbrev pub writer_of : {W : Type 0} → StdSink W → W
writer_of sink = sink.writer

-- how often a sink has failed
abbrev pub put_faults : {W : Type 0} → StdSink W → ℕ
put_faults sink = sink.faults

-- whether a sink is finished
abbrev pub is_flushed : {W : Type 0} → StdSink W → Bool
is_flushed sink = sink.finished
