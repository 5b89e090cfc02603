use Rattle.std.proofs.Common.{◌≡◌, map, take}
use Rattle.tt_world.specs.declared.config.IsrDef.{IsrDef}
use Rattle.tt_stack.proofs.words.words_of_isrs.Given as goal

abbrev pub invariant-loop-isr : goal.invariant-loop-isr
invariant-loop-isr l = l.words.items ≡ map (λ (isr : IsrDef). isr.stack) (take l.isr-index l.isrs)
