-- The tasks and routines of the OSEK subsystem: what is left of each, and what a service makes of them. The OSEK/VDX
-- standard: the operating system's conformance class BCC1. That routines run before tasks is the bench's own rule.
use Rattle.std.specs.Prelude.{◌≢◌, ℕ, ◌==◌, Bool, List, [], length, map, filter, Option, None, Some, if◌then◌else◌, IfSome, slice_index_or, slice_set}
use Rattle.std.specs.List.{All, range_with_len}
use Rattle.std.specs.Option.{is_some}
use Rattle.tt_base.specs.declared.event.Owner.{Owner}
use Rattle.tt_base.specs.declared.event.Owner.TheVariants as owner
use Rattle.task_lang.specs.declared.syntax.Stmt.{Stmt}
use Rattle.tt_world.specs.Runners.{highest}
use Rattle.tt_world.specs.declared.config.ConfigParts.{ConfigParts}
use Rattle.tt_world.specs.declared.config.OsekDef.{OsekDef}
use Rattle.tt_world.specs.declared.config.OisrDef.{OisrDef}

-- what is left of each task that is ready, and of each routine that is unfinished. Between its last tick and its end,
-- the empty list is left of it.
pub record Subsystem : Type 0 where
  pub tasks : List (Option (List Stmt))
  pub routines : List (Option (List Stmt))

-- what never changes: the number of the first code, and the priorities
pub record Setup : Type 0 where
  pub first : ℕ
  pub tasks : List ℕ
  pub routines : List ℕ

-- what is left of a task or a routine: nothing where the task is suspended or the routine finished
abbrev pub left_in : Option (List Stmt) → List Stmt
left_in None = []
left_in (Some left) = left

-- what is left of each
abbrev pub lefts : List (Option (List Stmt)) → List (List Stmt)
lefts states = map left_in states

-- whether a task is ready, or a routine unfinished
abbrev pub is_ready : {A : Type 0} → List (Option A) → ℕ → Bool
is_ready states number = is_some (slice_index_or states number None)

-- the numbers of those that are ready, or unfinished
abbrev pub ready_numbers : {A : Type 0} → List (Option A) → List ℕ
ready_numbers states = filter (λ (number : ℕ). is_ready states number) (range_with_len 0 (length states))

-- At the start the tasks with the auto mark are ready with their whole bodies, and no routine is unfinished.
abbrev pub first_subsystem : ConfigParts → Subsystem
first_subsystem c = record {
  tasks = map (λ (task : OsekDef). if task.auto then Some task.body else None) c.oseks;
  routines = map (λ (oisr : OisrDef). None) c.oisrs;
}

-- ---- who runs

-- a routine before a task
abbrev pub routine_first : (routine task : Option ℕ) → Option Owner
routine_first (Some routine) task = Some (owner.Oisr (record { 0 = routine }))
routine_first None (Some task) = Some (owner.Osek (record { 0 = task }))
routine_first None None = None

-- the unfinished routine of the highest priority, else the ready task of the highest priority
abbrev pub picked : Setup → Subsystem → Option Owner
picked setup s = routine_first (highest setup.routines (ready_numbers s.routines))
    (highest setup.tasks (ready_numbers s.tasks))

-- what is left of an owner
abbrev pub owner_left : Subsystem → Option Owner → List Stmt
owner_left s (Some (owner.Osek task)) = left_in (slice_index_or s.tasks task.0 None)
owner_left s (Some (owner.Oisr oisr)) = left_in (slice_index_or s.routines oisr.0 None)
owner_left s _ = []

-- now this is left of an owner; all others stay
abbrev pub owner_leaving : Option Owner → List Stmt → Subsystem → Subsystem
owner_leaving (Some (owner.Osek task)) left s = record s { tasks = slice_set s.tasks task.0 (Some left) }
owner_leaving (Some (owner.Oisr oisr)) left s = record s { routines = slice_set s.routines oisr.0 (Some left) }
owner_leaving _ left s = s

-- ---- services

-- E_OK is 0. E_OS_LIMIT is 4, for a task that is not suspended.
abbrev pub result_of : Bool → ℕ
result_of ready = if ready then 4 else 0

-- A task is ready with its whole body.
abbrev pub readied : List Stmt → ℕ → Subsystem → Subsystem
readied body task s = record s { tasks = slice_set s.tasks task (Some body) }

-- A task is suspended.
abbrev pub suspended : ℕ → Subsystem → Subsystem
suspended task s = record s { tasks = slice_set s.tasks task None }

-- A routine is gone.
abbrev pub gone : ℕ → Subsystem → Subsystem
gone oisr s = record s { routines = slice_set s.routines oisr None }

-- A routine has begun.
abbrev pub begun : List Stmt → ℕ → Subsystem → Subsystem
begun body oisr s = record s { routines = slice_set s.routines oisr (Some body) }

abbrev pub activated : List Stmt → ℕ → Subsystem → Subsystem
activated body task s = if is_ready s.tasks task then s else readied body task s

-- A chain to another task, whose body this is.
abbrev pub chained_to : (body : List Stmt) → (caller task : ℕ) → Subsystem → Subsystem
chained_to body caller task s = if is_ready s.tasks task then s else suspended caller (readied body task s)

-- A caller that chains to itself is ready again with its whole body.
abbrev pub chained : (body : List Stmt) → (caller task : ℕ) → Subsystem → Subsystem
chained body caller task s = if caller == task then readied body task s else chained_to body caller task s

abbrev pub chain_result : (caller task : ℕ) → Subsystem → ℕ
chain_result caller task s = if caller == task then 0 else result_of (is_ready s.tasks task)

-- The task of an owner is suspended, or its routine is gone.
abbrev pub finished : Owner → Subsystem → Subsystem
finished (owner.Osek task) s = suspended task.0 s
finished (owner.Oisr oisr) s = gone oisr.0 s
finished _ s = s

-- ---- between two ticks

-- Something is left of each task that is ready and each routine that is unfinished.
pub record IsSettled (s : Subsystem) : Type 0 where
  pub tasks : All (λ (state : Option (List Stmt)). IfSome state (λ left. left ≢ [])) s.tasks
  pub routines : All (λ (state : Option (List Stmt)). IfSome state (λ left. left ≢ [])) s.routines
