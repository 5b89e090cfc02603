use Rattle.std.proofs.Common.{ℕ, ◌≡◌, ◌+◌, ◌-◌, length}
use Rattle.round_table.specs.ExpiryPoints.{expiry_below}
use Rattle.round_table.specs.Merged.{ArePlaces}
use Rattle.round_table.proofs.merging.CheckedMode.expiry_points.Given as goal

-- the places are those of an offset, and the points are those of the offsets below it
abbrev pub invariant-loop-offset : goal.invariant-loop-offset
invariant-loop-offset l =
    (offset : ℕ)
    × ArePlaces l.self offset l.places
    × (l.points.items ≡ expiry_below (record { mode = l.self.mode; limit = 0 }) offset)

abbrev pub decreases-loop-offset : goal.decreases-loop-offset
decreases-loop-offset l =
    (length l.self.mode.activations + length l.self.mode.enables + length l.self.checks)
    - (l.places.activations + l.places.enables + l.places.checks)
