-- What comes before the tick of an instant, in order.
use Rattle.std.specs.Prelude.{ℕ, ◌==◌, List, [], ◌∷◌, ◌++◌, Option, None, Some, if◌then◌else◌}
use Rattle.tt_base.specs.declared.event.Event.TheVariants.{Activate}
use Rattle.tt_world.specs.declared.config.ConfigParts.{ConfigParts}
use Rattle.tt_world.specs.declared.script.ScriptParts.{ScriptParts}
use Rattle.tt_world.specs.World.{World}
use Rattle.tt_world.specs.Moved.{Moved, goes_on, chain}
use Rattle.tt_world.specs.Rows.{offset_of, mode_of, row_of, entry_at, body_of}
use Rattle.tt_world.specs.Monitoring.{is_at, monitored}
use Rattle.tt_world.specs.Rounds.{head, latch, round_end}
use Rattle.tt_world.specs.Gates.{enables, arrivals, acceptances}

-- the checks of this offset
unfoldable pub checks : ConfigParts → World → Moved
checks c w = monitored c (is_at (offset_of w)) w

-- a row activates its task with the whole body
abbrev pub activated : ConfigParts → Option ℕ → World → Moved
activated c None w = goes_on w []
activated c (Some entry) w =
    let task = (row_of (mode_of c w) entry).task in
    goes_on (record w { jobs = w.jobs ++ record { entry = entry; left = body_of c task } ∷ [] })
    (Activate w.tick task ∷ [])

-- the activation of this offset, if there is one
unfoldable pub activation : ConfigParts → World → Moved
activation c w = activated c (entry_at (offset_of w) (mode_of c w).activations) w

-- what is due at this offset and tick
abbrev pub due : ConfigParts → ScriptParts → List (World → Moved)
due c s = checks c ∷ enables c ∷ arrivals c s ∷ acceptances c ∷ activation c ∷ []

-- the opening of tick 0, and of each later tick
abbrev pub first_parts : ConfigParts → ScriptParts → List (World → Moved)
first_parts c s = head s ∷ due c s

abbrev pub later_parts : ConfigParts → ScriptParts → List (World → Moved)
later_parts c s = latch c ∷ round_end c s ∷ due c s

unfoldable pub opening : ConfigParts → ScriptParts → World → Moved
opening c s w = if w.tick == 0 then chain (first_parts c s) w else chain (later_parts c s) w
