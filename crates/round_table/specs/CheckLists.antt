-- The checks of a mode, before and after they are put in order.
use Rattle.std.specs.Prelude.{◌≡◌, ℕ, ◌==◌, List, [], ◌∷◌, map, flat_map, filter}
use Rattle.std.specs.List.{range_with_len}
use Rattle.std.specs.List.Sorted.{IsNonDecreasing, IsNonDecreasingBy, IsPermutation}
use Rattle.tt_world.specs.declared.config.ModeDef.{ModeDef}
use Rattle.tt_world.specs.declared.world.Point.{Point}
use Rattle.tt_world.specs.declared.world.Point.TheVariants as point
use Rattle.tt_world.specs.Monitoring.{is_at}
use Rattle.tt_world.specs.Points.{offsets_in, point_of}
use Rattle.tt_world.specs.Rows.{row_of}
use Rattle.round_table.specs.declared.checks.Check.{Check}
use Rattle.round_table.specs.DueRows.{entries_due, is_round_end}

-- the offsets at which a mode has an activation, an enable or a stringent deadline, in ascending order
pub record AreOffsets (mode : ModeDef) (offsets : List ℕ) : Type 0 where
  pub all : IsPermutation (offsets_in mode) offsets
  pub ascending : IsNonDecreasing offsets

-- the check of an entry number, where its monitoring point is an offset
abbrev pub check_if : ℕ → Point → List Check
check_if entry (point.At offset) = record { offset = offset; entry = entry } ∷ []
check_if entry point.RoundEnd = []

-- those of the entry numbers below n
abbrev pub checks_among : ModeDef → ℕ → List Check
checks_among mode n = flat_map (λ entry. check_if entry (point_of mode (row_of mode entry))) (range_with_len 0 n)

-- the entry numbers below n whose monitoring point is the round's end
abbrev pub ends_among : ModeDef → ℕ → List ℕ
ends_among mode n = filter (λ entry. is_round_end (point_of mode (row_of mode entry))) (range_with_len 0 n)

abbrev pub entries_in : List Check → List ℕ
entries_in checks = map (λ (check : Check). check.entry) checks

-- the checks ascend by offset, and those of an offset are of the entries that are due there, in their order
pub record AreChecks (mode : ModeDef) (checks : List Check) : Type 0 where
  pub ascending : IsNonDecreasingBy (λ (check : Check). check.offset) checks
  pub entries : (offset : ℕ) → entries_in (filter (λ (check : Check). check.offset == offset) checks)
      ≡ entries_due (is_at offset) mode
