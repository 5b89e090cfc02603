use Rattle.std.proofs.Common.{◌≡◌, ◌++◌, drop, length, map, Some, None}
use Rattle.std.specs.Prelude.{if◌then◌else◌}
use Rattle.tt_world.specs.declared.config.OsekDef.{OsekDef}
use Rattle.osek_idle.specs.Standing.{states, AreSound}
use Rattle.osek_idle.specs.Slots.{priorities, frames}
use Rattle.osek_idle.proofs.subsystem.first_tasks.Given as goal

-- the tasks so far and those that are left
abbrev pub invariant-loop-number : goal.invariant-loop-number
invariant-loop-number l = record {
  count : length l.slots.items ≡ l.number;
  priorities : priorities l.slots.items ++ map (λ (task : OsekDef). task.priority) (drop l.number l.tasks)
      ≡ map (λ (task : OsekDef). task.priority) l.tasks;
  sound : AreSound l.codes (frames l.slots.items);
  state : states l.codes (frames l.slots.items)
      ++ map (λ (task : OsekDef). if task.auto then Some task.body else None) (drop l.number l.tasks)
      ≡ map (λ (task : OsekDef). if task.auto then Some task.body else None) l.tasks;
}
