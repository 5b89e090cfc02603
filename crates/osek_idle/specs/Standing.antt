-- What the frames of the subsystem stand for, with their codes.
use Rattle.std.specs.Prelude.{◌≡◌, ℕ, ◌+◌, ◌≤◌, ◌<◌, List, [], length, map, Option, None, IfSome, slice_index_or}
use Rattle.std.specs.List.{All}
use Rattle.std.specs.Option.{option_map}
use Rattle.task_lang.specs.declared.syntax.Stmt.{Stmt}
use Rattle.task_machine.specs.declared.frame.Frame.{Frame}
use Rattle.task_machine.specs.Standing.{body_of, left_of, IsSound as IsSoundFrame}
use Rattle.tt_world.specs.declared.config.ConfigParts.{ConfigParts}
use Rattle.tt_world.specs.declared.config.OsekDef.{OsekDef}
use Rattle.tt_world.specs.declared.config.OisrDef.{OisrDef}
use Rattle.osek_idle.specs.Subsystem.{Subsystem, Setup, left_in}
use Rattle.osek_idle.specs.Slots.{priorities, frames}
use Rattle.osek_idle.specs.declared.slot.Slot.{Slot}
use Rattle.osek_idle.specs.declared.subsystem.Osek.{Osek}

-- what is left of each one that has a frame
abbrev pub states : List (List Stmt) → List (Option Frame) → List (Option (List Stmt))
states codes fs = map (option_map (left_of codes)) fs

abbrev pub AreSound : List (List Stmt) → List (Option Frame) → Type 0
AreSound codes fs = All (λ (f : Option Frame). IfSome f (IsSoundFrame codes)) fs

-- the subsystem that the frames stand for, with these codes
abbrev pub subsystem_of : List (List Stmt) → Osek → Subsystem
subsystem_of codes osek = record {
  tasks = states codes (frames osek.tasks);
  routines =
      states codes (frames osek.routines);
}

abbrev pub setup_of : Osek → Setup
setup_of osek = record {
  first = osek.first;
  tasks = priorities osek.tasks;
  routines =
      priorities osek.routines;
}

-- The codes of the tasks and then of the routines are there from the first one on, and the frames are of these codes.
pub record IsSound (codes : List (List Stmt)) (osek : Osek) : Type 0 where
  pub enough : osek.first + (length osek.tasks + length osek.routines) ≤ length codes
  pub tasks : AreSound codes (frames osek.tasks)
  pub routines : AreSound codes (frames osek.routines)

-- the bodies of a task and of a routine
abbrev pub task_body : List (List Stmt) → Setup → ℕ → List Stmt
task_body codes setup task = body_of codes (setup.first + task)

abbrev pub routine_body : List (List Stmt) → Setup → ℕ → List Stmt
routine_body codes setup oisr = body_of codes (setup.first + (length setup.tasks + oisr))

abbrev pub setup_for : ConfigParts → ℕ → Setup
setup_for c first = record {
  first = first;
  tasks = map (λ (task : OsekDef). task.priority) c.oseks;
  routines = map (λ (oisr : OisrDef). oisr.priority) c.oisrs;
}

-- The codes from the first one on are those of these bodies.
pub record HaveBodies (codes : List (List Stmt)) (first : ℕ) (bodies : List (List Stmt)) : Type 0 where
  pub enough : first + length bodies ≤ length codes
  pub bodies_are : (n : ℕ) → n < length bodies → body_of codes (first + n) ≡ slice_index_or bodies n []

-- The codes of a configuration's tasks and routines are there from the first one on.
pub record HaveOsek (codes : List (List Stmt)) (first : ℕ) (c : ConfigParts) : Type 0 where
  pub tasks : HaveBodies codes first (map (λ (task : OsekDef). task.body) c.oseks)
  pub routines : HaveBodies codes (first + length c.oseks) (map (λ (oisr : OisrDef). oisr.body) c.oisrs)

-- what is left of a task or a routine
abbrev pub slot_left : List (List Stmt) → List Slot → ℕ → List Stmt
slot_left codes slots number = left_in (slice_index_or (states codes (frames slots)) number None)
