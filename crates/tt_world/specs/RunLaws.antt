-- Laws of every run.
use Rattle.std.specs.Prelude.{◌≡◌, ℕ, ◌-◌, ◌<◌, ◌≤◌, Bool, true, false, List, All, Option, None, Some, length}
use Rattle.tt_base.specs.declared.event.Event.{Event}
use Rattle.tt_base.specs.declared.event.Event.TheVariants.{Check}
use Rattle.tt_world.specs.declared.config.ConfigParts.{ConfigParts}
use Rattle.tt_world.specs.declared.script.ScriptParts.{ScriptParts}
use Rattle.tt_world.specs.declared.world.Point.{Point}
use Rattle.tt_world.specs.declared.world.Point.TheVariants as point
use Rattle.tt_world.specs.ConfigRules.{IsConfig}
use Rattle.tt_world.specs.ScriptRules.{IsScript}
use Rattle.tt_world.specs.World.{World}
use Rattle.tt_world.specs.Runners.{job_at, is_done}
use Rattle.tt_world.specs.Rows.{offset_of, mode_of, row_of}
use Rattle.tt_world.specs.Points.{point_of}
use Rattle.tt_world.specs.Opening.{opening}
use Rattle.tt_world.specs.Schedule.{world_at, IsLast, last_instant, most_ticks, schedule}
use Rattle.tt_world.specs.Status.{stamp_of, status_of, EndsBy}
use Rattle.tt_world.specs.EventLaws.{ActivatesRows, OwnersRun, ChecksMonitor, InterruptsWait}

-- a law of every schedule
abbrev pub OfSchedules : (ConfigParts → List Event → Type 0) → Type 0
OfSchedules Law = (c : ConfigParts) (s : ScriptParts) → IsConfig c → IsScript c s → Law c (schedule c s)

-- ---- a run ends

-- a run ends: at one instant, in time, and with the event that its status asks for
pub record EndsInTime (c : ConfigParts) (s : ScriptParts) : Type 0 where
  pub last : IsLast c s (last_instant c s)
  pub only : (n : ℕ) → IsLast c s n → n ≡ last_instant c s
  pub bounded : last_instant c s ≤ most_ticks c s
  pub stamps : All (λ event. stamp_of event ≤ most_ticks c s) (schedule c s)
  pub ends_by : EndsBy (status_of (schedule c s)) (last_instant c s) (schedule c s)

-- every run ends
abbrev pub ScheduleEnds : Type 0
ScheduleEnds = (c : ConfigParts) (s : ScriptParts) → IsConfig c → IsScript c s → EndsInTime c s

-- ---- the laws of the events

abbrev pub ActivationsLaw : Type 0
ActivationsLaw = OfSchedules ActivatesRows

abbrev pub OwnersLaw : Type 0
OwnersLaw = OfSchedules OwnersRun

abbrev pub ChecksLaw : Type 0
ChecksLaw = OfSchedules ChecksMonitor

abbrev pub InterruptsLaw : Type 0
InterruptsLaw = OfSchedules InterruptsWait

-- ---- the world after the openings

-- what holds of the world after each opening of a run at which the run goes on
abbrev pub AfterOpenings : (ConfigParts → World → Type 0) → Type 0
AfterOpenings Fact =
    (c : ConfigParts) (s : ScriptParts) → IsConfig c → IsScript c s → (n : ℕ) → n ≤ last_instant c s
    → (opening c s (world_at c s n)).end ≡ None → Fact c (opening c s (world_at c s n)).world

-- at this place of the list is an activation with statements left
pub record IsUnfinished (w : World) (place : ℕ) : Type 0 where
  pub within : place < length w.jobs
  pub undone : is_done (job_at w.jobs place).left ≡ false

-- the round has not ended
abbrev pub IsRoundOn : ConfigParts → Option ℕ → ℕ → Type 0
IsRoundOn c None offset = offset < c.round - c.adjust
IsRoundOn c (Some length) offset = offset < length

-- a monitoring point comes after an offset of the round
abbrev pub IsAfter : ConfigParts → Option ℕ → ℕ → Point → Type 0
IsAfter c latched offset (point.At place) = offset < place
IsAfter c latched offset point.RoundEnd = IsRoundOn c latched offset

-- the monitoring point of each activation with statements left comes after the present offset
abbrev pub ArePointsAhead : ConfigParts → World → Type 0
ArePointsAhead c w =
    (place : ℕ) → IsUnfinished w place
    → IsAfter c w.latched (offset_of w) (point_of (mode_of c w) (row_of (mode_of c w) (job_at w.jobs place).entry))

-- an activation with statements left has not reached its monitoring point, since a missed check ends the run
abbrev pub PointsAreAhead : Type 0
PointsAreAhead = AfterOpenings ArePointsAhead

-- two activations of one task that both have statements left are the same
abbrev pub AreTasksSingle : ConfigParts → World → Type 0
AreTasksSingle c w =
    (p q : ℕ) → IsUnfinished w p → IsUnfinished w q
    → (row_of (mode_of c w) (job_at w.jobs p).entry).task ≡ (row_of (mode_of c w) (job_at w.jobs q).entry).task
    → p ≡ q

-- a task has at most one activation with statements left
abbrev pub TasksAreSingle : Type 0
TasksAreSingle = AfterOpenings AreTasksSingle

-- ---- checks

-- a check that is missed
abbrev pub is_missed : Event → Bool
is_missed (Check at task false) = true
is_missed event = false
