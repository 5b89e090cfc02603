use Rattle.std.proofs.Common.{◌≡◌, take}
use Rattle.tt_parts.specs.Located.{parts}
use Rattle.tt_config.proofs.config.vars_of.Given as goal

-- the values so far
abbrev pub invariant-loop-at : goal.invariant-loop-at
invariant-loop-at l = l.vars ≡ parts (take l.at-index l.located)
