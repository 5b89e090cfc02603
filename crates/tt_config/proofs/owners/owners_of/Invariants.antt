use Rattle.std.proofs.Common.{◌≡◌}
use Rattle.tt_parts.specs.Located.{parts}
use Rattle.tt_config.specs.Owners.{owners_of}
use Rattle.tt_config.proofs.owners.owners_of.Given as goal

-- the owners of the bodies so far
abbrev pub invariant-loop-at : goal.invariant-loop-at
invariant-loop-at l = l.owners ≡ owners_of l.demands (parts l.yielded)
