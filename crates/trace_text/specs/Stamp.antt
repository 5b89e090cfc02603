-- A stamp whose digits are ready.
use Rattle.std.specs.Prelude.{◌≡◌, ℕ, ◌+◌, ◌%◌, ◌^◌, ◌<◌, ◌≤◌, List, take, decimal}

-- the first bytes of a text are the digits of a tick; the hundreds are that tick less its last two digits
abbrev pub IsStamp : ℕ → List ℕ → ℕ → ℕ → Type 0
IsStamp at text len hundreds =
    (take len text ≡ decimal at) × (len ≤ 20) × (hundreds + at % 100 ≡ at) × (at < 2 ^ 64)
