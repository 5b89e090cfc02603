use Rattle.std.proofs.Common.{◌≡◌, ◌<◌, ℕ, [], true, get_or}
use Rattle.schedule_check.specs.Demand.{isr_of}
use Rattle.schedule_check.specs.Kept.{keeps_distance}
use Rattle.schedule_check.proofs.bounds.keeps_distances.Given as goal

abbrev pub invariant-loop-number : goal.invariant-loop-number
invariant-loop-number l =
    (k : ℕ) → k < l.number → keeps_distance (isr_of l.config k).distance (get_or l.script.arrivals.isrs k []) ≡ true
