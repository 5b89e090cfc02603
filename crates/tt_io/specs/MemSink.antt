-- What is seen of a sink over memory.
use Rattle.std.specs.Prelude.{ℕ, List}
use Rattle.tt_io.specs.declared.mem.MemSink.{MemSink}

-- the bytes written
abbrev pub written_in : MemSink → List ℕ
written_in s = s.bytes.items

-- how many bytes it holds at most
abbrev pub room_of : MemSink → ℕ
room_of s = s.room

-- the most bytes that one write takes
abbrev pub chunk_in : MemSink → ℕ
chunk_in s = s.chunk

-- how many writes there were, which is the number of the next
abbrev pub write_calls : MemSink → ℕ
write_calls s = s.calls

-- the numbers of the writes that fail
abbrev pub refusing : MemSink → List ℕ
refusing s = s.failing.items

-- how many writes failed
abbrev pub sink_faults : MemSink → ℕ
sink_faults s = s.faults
