-- What a service makes of the round and of the OSEK subsystem. The table is that of the services of a run, restricted
-- to the parts that change.
use Rattle.std.specs.Prelude.{ℕ, ◌<◌, ◌≤◌, ◌==◌, Bool, true, false, List, length}
use Rattle.tt_base.specs.declared.event.Call.{Call}
use Rattle.tt_base.specs.declared.event.Call.TheVariants as call
use Rattle.tt_base.specs.declared.event.Owner.{Owner}
use Rattle.tt_base.specs.declared.event.Owner.TheVariants as owner
use Rattle.task_lang.specs.declared.syntax.Stmt.{Stmt}
use Rattle.round_end.specs.Round.{Round, next_time, sync_result, synced, wanting}
use Rattle.osek_idle.specs.Subsystem.{Subsystem, Setup, is_ready, result_of, activated, chained, chain_result, suspended}

-- the result, the round and the subsystem, and whether the caller ends
pub record Performed : Type 0 where
  pub result : ℕ
  pub round : Round
  pub subsystem : Subsystem
  pub ends : Bool

-- the number of the OSEK task that calls
abbrev pub caller_of : Owner → ℕ
caller_of (owner.Osek task) = task.0
caller_of _ = 0

abbrev pub IsOsek : Owner → Type 0
IsOsek (owner.Osek task) = Unit {0}
IsOsek _ = ⊥

-- what a service makes of them at a tick; each task has its whole body by number
abbrev pub performed : (body : ℕ → List Stmt) → (now : ℕ) → Owner → Call → Round → Subsystem → Performed
performed body now who (call.Switch mode) r s =
    record { result = 0; round = wanting mode r; subsystem = s; ends = false }
performed body now who call.Sync r s = record {
  result = sync_result (next_time r);
  round = synced now (next_time r) r;
  subsystem = s;
  ends = false;
}
performed body now who call.Shutdown r s = record { result = 0; round = r; subsystem = s; ends = false }
performed body now who (call.Activate task) r s = record {
  result = result_of (is_ready s.tasks task.0);
  round = r;
  subsystem = activated (body task.0) task.0 s;
  ends = false;
}
performed body now who (call.Chain task) r s = record {
  result = chain_result (caller_of who) task.0 s;
  round = r;
  subsystem = chained (body task.0) (caller_of who) task.0 s;
  ends = chain_result (caller_of who) task.0 s == 0;
}
performed body now who call.Terminate r s =
    record { result = 0; round = r; subsystem = suspended (caller_of who) s; ends = true }

-- The owner may make the call at this tick: its mode or task exists, the round has begun, and only an OSEK task chains
-- or terminates.
abbrev pub MayCall : (now : ℕ) → Owner → Call → Round → Setup → Type 0
MayCall now who (call.Switch mode) r setup = mode.0 < r.modes
MayCall now who call.Sync r setup = r.start ≤ now
MayCall now who call.Shutdown r setup = Unit {0}
MayCall now who (call.Activate task) r setup = task.0 < length setup.tasks
MayCall now who (call.Chain task) r setup = IsOsek who × (task.0 < length setup.tasks)
MayCall now who call.Terminate r setup = IsOsek who
