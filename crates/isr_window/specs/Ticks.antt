-- The ticks of an ascending list from one on.
use Rattle.std.specs.Prelude.{ℕ, nat_le, List, [], ◌∷◌, if◌then◌else◌}

-- the ticks before it are passed
abbrev pub ticks_from : ℕ → List ℕ → List ℕ
ticks_from now [] = []
ticks_from now (tick ∷ rest) = if nat_le now tick then tick ∷ rest else ticks_from now rest
