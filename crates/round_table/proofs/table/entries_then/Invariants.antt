use Rattle.std.proofs.Common.{◌≡◌, take}
use Rattle.round_table.specs.CheckLists.{entries_in}
use Rattle.round_table.proofs.table.entries_then.Given as goal

abbrev pub invariant-loop-check : goal.invariant-loop-check
invariant-loop-check l = l.entries.items ≡ entries_in (take l.check-index l.checks)
