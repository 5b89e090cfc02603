use Rattle.std.proofs.Common.{◌≡◌, drop}
use Rattle.schedule_check.specs.Kept.{are_spaced}
use Rattle.schedule_check.proofs.bounds.is_spaced.Given as goal

abbrev pub invariant-loop-tick : goal.invariant-loop-tick
invariant-loop-tick l =
    are_spaced l.distance 0 l.arrivals ≡ are_spaced l.distance l.least (drop l.tick-index l.arrivals)
