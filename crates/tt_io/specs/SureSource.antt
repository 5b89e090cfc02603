-- What is seen of a source over memory that never fails.
use Rattle.std.specs.Prelude.{ℕ, List, Option}
use Rattle.tt_io.specs.Supply.{bytes_left, gave_so_far}
use Rattle.tt_io.specs.declared.mem.SureSource.{SureSource}

-- the bytes left
abbrev pub rest_of : SureSource → List ℕ
rest_of s = bytes_left s.supply

-- the most bytes that one read gives
abbrev pub most_of : SureSource → ℕ
most_of s = s.supply.chunk

-- how many bytes were given
abbrev pub given_of : SureSource → ℕ
given_of s = s.supply.given

-- what was given
abbrev pub history_of : SureSource → List (Option ℕ)
history_of s = gave_so_far s.supply
