-- What is seen of bytes that are given in their order.
use Rattle.std.specs.Prelude.{ℕ, List, Option, drop}
use Rattle.tt_io.specs.declared.mem.Supply.{Supply}

-- the bytes not yet given
abbrev pub bytes_left : Supply → List ℕ
bytes_left s = drop s.at s.bytes.items

-- what was given
abbrev pub gave_so_far : Supply → List (Option ℕ)
gave_so_far s = s.history.items
