use Rattle.std.proofs.Common.{◌≡◌, ◌++◌, drop, length, map, None}
use Rattle.tt_world.specs.declared.config.OisrDef.{OisrDef}
use Rattle.osek_idle.specs.Slots.{priorities, frames}
use Rattle.osek_idle.proofs.subsystem.first_routines.Given as goal

-- the routines so far and those that are left
abbrev pub invariant-loop-oisr : goal.invariant-loop-oisr
invariant-loop-oisr l = record {
  count : length l.slots.items ≡ l.oisr-index;
  priorities : priorities l.slots.items ++ map (λ (oisr : OisrDef). oisr.priority) (drop l.oisr-index l.oisrs)
      ≡ map (λ (oisr : OisrDef). oisr.priority) l.oisrs;
  frames : frames l.slots.items ++ map (λ (oisr : OisrDef). None) (drop l.oisr-index l.oisrs)
      ≡ map (λ (oisr : OisrDef). None) l.oisrs;
}
