-- What is seen of a reader as a source.
use Rattle.std.specs.Prelude.{ℕ, List, Option}
use Rattle.tt_io.specs.declared.standard.StdSource.{StdSource}

-- the reader
abbrev pub reader_of : {R : Type 0} → StdSource R → R
reader_of s = s.reader

-- how many bytes were given
abbrev pub bytes_given : {R : Type 0} → StdSource R → ℕ
bytes_given s = s.given

-- how many reads failed
abbrev pub read_faults : {R : Type 0} → StdSource R → ℕ
read_faults s = s.faults

-- what was given
abbrev pub history_of : {R : Type 0} → StdSource R → List (Option ℕ)
history_of s = s.history.items
