-- What the check promises of every run.
use Rattle.std.specs.Prelude.{◌≡◌, ℕ, suc, ◌+◌, ◌<◌, ◌≤◌, ◌==◌, Bool, true, false, List, ◌∷◌, ◌++◌, All, length, count_by}
use Rattle.tt_base.specs.declared.event.Event.{Event}
use Rattle.tt_base.specs.declared.event.Event.TheVariants.{Enable, End, Activate}
use Rattle.tt_base.specs.declared.event.Owner.TheVariants as owner
use Rattle.tt_base.specs.declared.number.TaskNo.{TaskNo}
use Rattle.tt_world.specs.declared.config.ConfigParts.{ConfigParts}
use Rattle.tt_world.specs.declared.script.ScriptParts.{ScriptParts}
use Rattle.tt_world.specs.declared.world.Runner.{Runner}
use Rattle.tt_world.specs.declared.world.Runner.TheVariants as runner
use Rattle.tt_world.specs.ConfigRules.{IsConfig}
use Rattle.tt_world.specs.ScriptRules.{IsScript}
use Rattle.tt_world.specs.Rows.{mode_at, row_of}
use Rattle.tt_world.specs.Schedule.{last_instant, schedule, events_between, ticks_of}
use Rattle.tt_world.specs.Status.{Missed, last_stamp, status_of}
use Rattle.tt_world.specs.Readings.{RoundStart, until_round}
use Rattle.tt_world.specs.EventLaws.{EachRound}
use Rattle.tt_world.specs.RunLaws.{is_missed}
use Rattle.schedule_check.specs.declared.answers.CheckAnswer.TheVariants.{Yes}
use Rattle.schedule_check.specs.Demand.{isr_of, isr_demand}
use Rattle.schedule_check.specs.Kept.{KeepsBounds}
use Rattle.schedule_check.specs.Responses.{answer_of}

-- ---- the ticks of one routine

abbrev pub is_isr : ℕ → Runner → Bool
is_isr isr (runner.Isr other) = other.0 == isr
is_isr isr _ = false

abbrev pub is_task : Runner → Bool
is_task (runner.Job place) = true
is_task _ = false

abbrev pub is_enable : ℕ → Event → Bool
is_enable isr (Enable at other) = other.0 == isr
is_enable isr event = false

-- in any k consecutive instants of a run, a time-triggered routine takes at most the ticks of its demand there
abbrev pub IsrIsBounded : Type 0
IsrIsBounded =
    (c : ConfigParts) (s : ScriptParts) → IsConfig c → IsScript c s → KeepsBounds c s → (isr : ℕ) → isr < length c.isrs
    → (m k : ℕ) → m + k ≤ suc (last_instant c s)
    → ticks_of (is_isr isr) c s m k ≤ isr_demand (isr_of c isr) (count_by (is_enable isr) (events_between c s m k)) k

-- ---- no miss

-- one of the events is the end of a task, after one tick and not after another
abbrev pub HasEnd : List Event → TaskNo → (from deadline : ℕ) → Type 0
HasEnd events task from deadline =
    (before after : List Event) × (at : ℕ) × (events ≡ before ++ End at (owner.Task task) ∷ after) × (from < at)
    × (at ≤ deadline)

-- an Activate event of a round is that of a row, and the task has ended by the row's deadline where the run reaches it
pub record EndsByDeadline (c : ConfigParts) (events : List Event) (round : RoundStart) (at : ℕ)
    (task : TaskNo) : Type 0 where
  pub entry : ℕ
  pub within : entry < length (mode_at c round.mode.0).activations
  pub at_is : at ≡ round.start + (row_of (mode_at c round.mode.0) entry).offset
  pub task_is : task ≡ (row_of (mode_at c round.mode.0) entry).task
  pub ends : round.start + (row_of (mode_at c round.mode.0) entry).deadline ≤ last_stamp events
      → HasEnd events task at (round.start + (row_of (mode_at c round.mode.0) entry).deadline)

-- no check is missed, and each activation whose deadline the run reaches has ended by its deadline
pub record NoneMissed (c : ConfigParts) (events : List Event) : Type 0 where
  pub checks : All (λ (event : Event). is_missed event ≡ false) events
  pub status : (task : TaskNo) (tick : ℕ) → status_of events ≡ Missed task tick → ⊥
  pub ends : EachRound
      (λ round rest. (before after : List Event) (at : ℕ) (task : TaskNo)
      → until_round rest ≡ before ++ Activate at task ∷ after → EndsByDeadline c events round at task)
      events

-- where the check says yes and the script keeps its bounds, no deadline is missed
abbrev pub NoMiss : Type 0
NoMiss = (c : ConfigParts) (s : ScriptParts) → IsConfig c → IsScript c s → answer_of c ≡ Yes → KeepsBounds c s
    → NoneMissed c (schedule c s)
