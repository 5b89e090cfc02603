use Rattle.std.proofs.Common.{◌≡◌, ◌+◌, ◌≤◌, drop}
use Rattle.tt_base.specs.Names.{count_of}
use Rattle.tt_parts.specs.Located.{parts}
use Rattle.tt_config.proofs.lists.count_of.Given as goal

-- the names of the kind so far and those that are left are all
abbrev pub invariant-loop-at : goal.invariant-loop-at
invariant-loop-at l = record {
  counted : l.count + count_of l.kind (parts (drop l.at-index l.names)) ≡ count_of l.kind (parts l.names);
  low : l.count ≤ l.at-index;
}
