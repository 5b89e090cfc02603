-- What is seen of a writer as a sink.
use Rattle.std.specs.Prelude.{ℕ, List}
use Rattle.tt_io.specs.Gave.{bytes_in}
use Rattle.tt_io.specs.declared.standard.StdSink.{StdSink}

-- the writer
abbrev pub writer_of : {W : Type 0} → StdSink W → W
writer_of s = s.writer

-- how many writes failed
abbrev pub write_faults : {W : Type 0} → StdSink W → ℕ
write_faults s = s.faults

-- the bytes taken
abbrev pub bytes_taken : {W : Type 0} → StdSink W → List ℕ
bytes_taken s = bytes_in s.history.items
