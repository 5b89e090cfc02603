use Rattle.std.proofs.Common.{◌≡◌}
use Rattle.tt_world.specs.Runners.{highest}
use Rattle.osek_idle.specs.Slots.{priorities}
use Rattle.osek_idle.proofs.Highest.{ready_from}
use Rattle.osek_idle.proofs.slot.highest.Given as goal

-- the one of the highest priority from the present number on
abbrev pub invariant-loop-number : goal.invariant-loop-number
invariant-loop-number l = l.best ≡ highest (priorities l.slots) (ready_from l.slots l.number)
