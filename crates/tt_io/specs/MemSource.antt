-- What is seen of a source over memory.
use Rattle.std.specs.Prelude.{ℕ, List, Option}
use Rattle.tt_io.specs.Supply.{bytes_left, gave_so_far}
use Rattle.tt_io.specs.declared.mem.MemSource.{MemSource}

-- the bytes left
abbrev pub left_of : MemSource → List ℕ
left_of s = bytes_left s.supply

-- the most bytes that one read gives
abbrev pub chunk_of : MemSource → ℕ
chunk_of s = s.supply.chunk

-- how many bytes were given
abbrev pub given_by : MemSource → ℕ
given_by s = s.supply.given

-- how many reads there were, which is the number of the next
abbrev pub calls_of : MemSource → ℕ
calls_of s = s.calls

-- the numbers of the reads that fail
abbrev pub failing_of : MemSource → List ℕ
failing_of s = s.failing.items

-- how many reads failed
abbrev pub faults_of : MemSource → ℕ
faults_of s = s.faults

-- what was given
abbrev pub history_of : MemSource → List (Option ℕ)
history_of s = gave_so_far s.supply
