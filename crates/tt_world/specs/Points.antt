-- Where deadline monitoring looks at an activation of a round.
use Rattle.std.specs.Prelude.{ℕ, nat_le, min, Bool, true, false, List, [], ◌∷◌, ◌++◌, map, flat_map, Option, None, Some, if◌then◌else◌}
use Rattle.tt_world.specs.declared.config.Activation.{Activation}
use Rattle.tt_world.specs.declared.config.Enable.{Enable}
use Rattle.tt_world.specs.declared.config.ModeDef.{ModeDef}
use Rattle.tt_world.specs.declared.world.Point.{Point}
use Rattle.tt_world.specs.declared.world.Point.TheVariants as point

abbrev pub deadline_if : Bool → Activation → List ℕ
deadline_if true row = row.deadline ∷ []
deadline_if false row = []

-- the deadlines that are monitored stringently
abbrev pub stringent_deadlines : List Activation → List ℕ
stringent_deadlines rows = flat_map (λ (row : Activation). deadline_if row.stringent row) rows

-- the offsets at which a mode has an activation, an enable or a stringent deadline
abbrev pub offsets_in : ModeDef → List ℕ
offsets_in mode =
    map (λ (row : Activation). row.offset) mode.activations
    ++ (map (λ (row : Enable). row.offset) mode.enables ++ stringent_deadlines mode.activations)

abbrev pub lesser_or : ℕ → Option ℕ → ℕ
lesser_or offset None = offset
lesser_or offset (Some other) = min offset other

-- the least of some offsets that is at or after this one
abbrev pub least_from : ℕ → List ℕ → Option ℕ
least_from from [] = None
least_from from (offset ∷ rest) = if nat_le from offset then Some
    (lesser_or offset (least_from from rest)) else least_from from rest

abbrev pub at_or_end : Option ℕ → Point
at_or_end None = point.RoundEnd
at_or_end (Some offset) = point.At offset

abbrev pub point_by : Bool → ModeDef → ℕ → Point
point_by true mode deadline = point.At deadline
point_by false mode deadline = at_or_end (least_from deadline (offsets_in mode))

-- the monitoring point of an activation of a mode: its deadline, where it is monitored stringently; else the least
-- offset at or after the deadline at which the mode has an activation, an enable or a stringent deadline; and the
-- round's end where there is no such offset
abbrev pub point_of : ModeDef → Activation → Point
point_of mode row = point_by row.stringent mode row.deadline
