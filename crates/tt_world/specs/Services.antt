-- The services of the operating system, and the OSEK tasks that they make ready.
use Rattle.std.specs.Prelude.{ℕ, ◌+◌, ◌==◌, Bool, true, false, List, [], Option, None, Some, if◌then◌else◌, slice_get}
use Rattle.tt_base.specs.declared.event.Call.{Call}
use Rattle.tt_base.specs.declared.event.Call.TheVariants as call
use Rattle.tt_base.specs.declared.number.OsekNo.{OsekNo}
use Rattle.task_lang.specs.declared.syntax.Stmt.{Stmt}
use Rattle.tt_world.specs.declared.config.ConfigParts.{ConfigParts}
use Rattle.tt_world.specs.declared.script.ScriptParts.{ScriptParts}
use Rattle.tt_world.specs.declared.world.Runner.{Runner}
use Rattle.tt_world.specs.declared.world.Runner.TheVariants as runner
use Rattle.tt_world.specs.World.{World}
use Rattle.tt_world.specs.Rows.{offset_of, osek_body}
use Rattle.tt_world.specs.Runners.{is_done, left_of, leaving}
use Rattle.tt_world.specs.Correction.{correction_of}

-- what a service gives: its result, the world, what is left of the caller, and whether the caller ends
pub record Answer : Type 0 where
  pub result : ℕ
  pub world : World
  pub left : List Stmt
  pub ends : Bool

-- the caller goes on with what is left of it
abbrev pub answers : ℕ → World → List Stmt → Answer
answers result w left = record { result = result; world = w; left = left; ends = false }

-- the caller ends, and this is left of it
abbrev pub ends_with : World → List Stmt → Answer
ends_with w left = record { result = 0; world = w; left = left; ends = true }

-- ---- ttSyncTimes

-- ttSyncTimes with the next global time, if there is one
abbrev pub synced : ConfigParts → Option ℕ → World → List Stmt → Answer
synced c None w left = answers 1 w left
synced c (Some global) w left =
    answers 0
    (record w { pending = correction_of c.round c.adjust (offset_of w) global; times_used = w.times_used + 1 }) left

-- ---- OSEK tasks

abbrev pub is_suspended : World → OsekNo → Bool
is_suspended w task = is_done (left_of w (runner.Osek task))

-- the task is ready with its whole body
abbrev pub ready : ConfigParts → OsekNo → World → World
ready c task w = leaving w (runner.Osek task) (osek_body c task)

-- whether the caller is this task
abbrev pub is_caller : Runner → OsekNo → Bool
is_caller (runner.Osek caller) task = caller.0 == task.0
is_caller _ task = false

-- ---- each service

-- what a service gives to a caller; this is left of the caller after the call
unfoldable pub service : ConfigParts → ScriptParts → Runner → Call → List Stmt → World → Answer
service c s caller (call.Switch mode) left w = answers 0 (record w { wanted = mode }) left
service c s caller call.Sync left w = synced c (slice_get s.times w.times_used) w left
service c s caller call.Shutdown left w = answers 0 w left
service c s caller (call.Activate task) left w =
    if is_suspended w task then answers 0 (ready c task w) left else answers 4 w left
service c s caller (call.Chain task) left w =
    if is_caller caller task then ends_with w (osek_body c task)
    else (if is_suspended w task then ends_with (ready c task w) [] else answers 4 w left)
service c s caller call.Terminate left w = ends_with w []

-- whether a service ends the run
abbrev pub is_shutdown : Call → Bool
is_shutdown call.Shutdown = true
is_shutdown _ = false
