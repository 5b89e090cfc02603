-- Deadline monitoring, where each activation is at the place of its entry number.
use Rattle.std.specs.Prelude.{◌≡◌, ℕ, List, [], ◌∷◌, Option, None}
use Rattle.tt_base.specs.declared.number.TaskNo.{TaskNo}
use Rattle.tt_base.specs.declared.event.Event.{Event}
use Rattle.tt_world.specs.declared.config.ConfigParts.{ConfigParts}
use Rattle.tt_world.specs.declared.config.ModeDef.{ModeDef}
use Rattle.tt_world.specs.World.{World, Job}
use Rattle.tt_world.specs.Runners.{job_at, is_done}
use Rattle.tt_world.specs.Monitoring.{Checked, check_then, after_checks}
use Rattle.tt_world.specs.Moved.{Moved}
use Rattle.tt_world.specs.Rows.{row_of}

-- the checks of some entries, in their order, up to the first that is missed
unfoldable pub checked_entries : ℕ → ModeDef → List Job → List ℕ → Checked
checked_entries at mode jobs [] = record { events = []; missed = None }
checked_entries at mode jobs (entry ∷ rest) =
    check_then at (row_of mode entry).task (is_done (job_at jobs entry).left) (checked_entries at mode jobs rest)

-- the checks of some entries of a mode, and what follows from them
abbrev pub monitored_entries : ConfigParts → ModeDef → List ℕ → World → Moved
monitored_entries c mode entries w =
    let all = checked_entries w.tick mode w.jobs entries in after_checks c all.events all.missed w

-- what a part of the code checked is what the definition gives
pub record Checks {L : Type 0} (Told : L → List Event → L → Type 0) (before after : L) (missed : Option TaskNo)
    (all : Checked)
    : Type 0 where
  pub told : Told before all.events after
  pub missed_is : missed ≡ all.missed
