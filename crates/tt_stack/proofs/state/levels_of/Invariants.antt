use Rattle.std.proofs.Common.{◌≡◌, map, take}
use Rattle.tt_world.specs.declared.config.IsrDef.{IsrDef}
use Rattle.tt_stack.proofs.state.levels_of.Given as goal

abbrev pub invariant-loop-isr : goal.invariant-loop-isr
invariant-loop-isr l = l.levels.items ≡ map (λ (isr : IsrDef). isr.level) (take l.isr-index l.isrs)
