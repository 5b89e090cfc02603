-- Laws of the dispatcher tables of each configuration that meets the rules.
use Rattle.std.specs.Prelude.{◌≡◌, ℕ, ◌-◌, ◌<◌, Bool, None, map, length}
use Rattle.std.specs.List.Sorted.{IsStrictlyIncreasing}
use Rattle.tt_world.specs.declared.config.ConfigParts.{ConfigParts}
use Rattle.tt_world.specs.declared.config.Enable.{Enable}
use Rattle.tt_world.specs.declared.config.ModeDef.{ModeDef}
use Rattle.tt_world.specs.declared.world.Point.{Point}
use Rattle.tt_world.specs.declared.world.Point.TheVariants as point
use Rattle.tt_world.specs.ConfigRules.{IsMode}
use Rattle.tt_world.specs.Points.{point_of}
use Rattle.tt_world.specs.Rows.{enables_at, row_of}
use Rattle.tt_world.specs.RunLaws.{IsAfter}
use Rattle.round_table.specs.DueRows.{entries_due}

-- the monitoring point of an entry
abbrev pub point_at : ModeDef → ℕ → Point
point_at mode entry = point_of mode (row_of mode entry)

abbrev pub offset_at : ModeDef → ℕ → ℕ
offset_at mode entry = (row_of mode entry).offset

-- a law of each mode that meets the rules of a configuration
abbrev pub OfModes : (ConfigParts → ModeDef → Type 0) → Type 0
OfModes Law = (c : ConfigParts) (mode : ModeDef) → IsMode c mode → Law c mode

-- a monitoring point comes after the activation
abbrev pub PointsComeAfterActivations : Type 0
PointsComeAfterActivations =
    OfModes
    (λ c mode. (entry : ℕ) → entry < length mode.activations
    → IsAfter c None (offset_at mode entry) (point_at mode entry))

-- no mode has both a point at the offset L - A and one at the round's end
abbrev pub PointsHaveOneEnd : Type 0
PointsHaveOneEnd =
    OfModes
    (λ c mode. (entry other : ℕ) → entry < length mode.activations → other < length mode.activations
    → point_at mode entry ≡ point.At (c.round - c.adjust) → point_at mode other ≡ point.RoundEnd → ⊥)

-- checks that are due together ascend by the offset of their activations
abbrev pub ChecksAreByOffset : Type 0
ChecksAreByOffset =
    OfModes (λ c mode. (is_due : Point → Bool) → IsStrictlyIncreasing (map (offset_at mode) (entries_due is_due mode)))

-- the enables of an offset ascend by the number of the routine
abbrev pub EnablesAreByNumber : Type 0
EnablesAreByNumber =
    OfModes (λ c mode. (offset : ℕ)
    → IsStrictlyIncreasing (map (λ (row : Enable). row.isr.0) (enables_at offset mode.enables)))
