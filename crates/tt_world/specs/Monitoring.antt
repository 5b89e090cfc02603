-- Deadline monitoring: what it finds at the monitoring points, and what follows from a missed deadline.
use Rattle.std.specs.Prelude.{ℕ, ◌==◌, nat_le, Bool, true, false, List, [], ◌∷◌, Option, None, Some}
use Rattle.tt_base.specs.declared.number.TaskNo.{TaskNo}
use Rattle.tt_base.specs.declared.event.Event.{Event}
use Rattle.tt_base.specs.declared.event.Event.TheVariants.{Check}
use Rattle.tt_world.specs.declared.config.ConfigParts.{ConfigParts}
use Rattle.tt_world.specs.declared.config.ModeDef.{ModeDef}
use Rattle.tt_world.specs.World.{World, Job}
use Rattle.tt_world.specs.declared.world.Point.{Point}
use Rattle.tt_world.specs.declared.world.Point.TheVariants as point
use Rattle.tt_world.specs.Hooks.{misses}
use Rattle.tt_world.specs.Runners.{is_done}
use Rattle.tt_world.specs.Moved.{Moved, goes_on, preceded}
use Rattle.tt_world.specs.Points.{point_of}
use Rattle.tt_world.specs.Rows.{mode_of, row_of}

-- whether a point is this offset
abbrev pub is_at : ℕ → Point → Bool
is_at offset (point.At place) = place == offset
is_at offset point.RoundEnd = false

-- whether a point is no offset below this one, at which the round ends
abbrev pub is_at_end : ℕ → Point → Bool
is_at_end length (point.At place) = nat_le length place
is_at_end length point.RoundEnd = true

-- what checks give: their events, and the task of the first that is missed
pub record Checked : Type 0 where
  pub events : List Event
  pub missed : Option TaskNo

-- a check; the others follow it where it is met
abbrev pub check_then : ℕ → TaskNo → Bool → Checked → Checked
check_then at task true others = record { events = Check at task true ∷ others.events; missed = others.missed }
check_then at task false others = record { events = Check at task false ∷ []; missed = Some task }

abbrev pub check_if : Bool → Checked → Checked → Checked
check_if true check others = check
check_if false check others = others

-- the checks of those activations whose point is due, in their order, up to the first that is missed; a check is met
-- where nothing is left of the activation
unfoldable pub checked : ℕ → ModeDef → (Point → Bool) → List Job → Checked
checked at mode is_due [] = record { events = []; missed = None }
checked at mode is_due (job ∷ rest) =
    let row = row_of mode job.entry in
    check_if (is_due (point_of mode row)) (check_then at row.task (is_done job.left) (checked at mode is_due rest))
    (checked at mode is_due rest)

abbrev pub after_checks : ConfigParts → List Event → Option TaskNo → World → Moved
after_checks c events None w = goes_on w events
after_checks c events (Some task) w = preceded events (misses c task w)

-- the checks of those activations of the round whose point is due, and what follows from these checks
abbrev pub monitored : ConfigParts → (Point → Bool) → World → Moved
monitored c is_due w =
    let all = checked w.tick (mode_of c w) is_due w.jobs in after_checks c all.events all.missed w
