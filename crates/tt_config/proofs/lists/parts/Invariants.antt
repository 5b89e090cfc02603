use Rattle.std.proofs.Common.{◌≡◌, take}
use Rattle.tt_parts.specs.Located.{parts}
use Rattle.tt_config.proofs.lists.parts.Given as goal

-- the parts so far
abbrev pub invariant-loop-at : goal.invariant-loop-at
invariant-loop-at g l = l.list ≡ parts (take l.at-index l.located)
