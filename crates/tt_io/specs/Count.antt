-- The counts of a source and of a sink: of faults, and of bytes given. Each stays at its last value once it is there.
use Rattle.std.specs.Prelude.{ℕ, ◌+◌, ◌-◌, ◌^◌, ◌<◌, ◌≤◌, ◌⊎◌, min, max}

-- a count rose: it is higher than before, or it is at its last value
abbrev pub Rose : ℕ → ℕ → Type 0
Rose before after = (before < after) ⊎ (2 ^ 64 - 1 ≤ after)

-- a count after n more: higher by n, and no further than its last value
abbrev pub counted : ℕ → ℕ → ℕ
counted before n = min (before + n) (max before (2 ^ 64 - 1))
