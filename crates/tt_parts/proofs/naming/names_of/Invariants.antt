use Rattle.std.proofs.Common.{◌≡◌, ◌++◌, drop}
use Rattle.tt_parts.specs.Located.{parts}
use Rattle.tt_parts.proofs.naming.names_of.Given as goal

-- the names so far and those of the entries that are left are all
abbrev pub invariant-loop-at : goal.invariant-loop-at
invariant-loop-at l = l.names ++ parts (drop l.at-index l.entries) ≡ parts l.entries
