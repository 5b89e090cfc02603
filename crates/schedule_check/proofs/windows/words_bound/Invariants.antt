use Rattle.std.proofs.Common.{◌≡◌, ◌*◌, ◌≤◌, take}
use Rattle.std.specs.Prelude.{sum_by}
use Rattle.tt_world.specs.declared.config.IsrDef.{IsrDef}
use Rattle.schedule_check.proofs.windows.words_bound.Given as goal

abbrev pub invariant-loop-isr : goal.invariant-loop-isr
invariant-loop-isr l = record {
  stacks : l.stacks ≡ sum_by (λ (isr : IsrDef). isr.stack) (take l.isr-index l.config.isrs);
  bounded : l.stacks ≤ l.isr-index * 65535;
}
