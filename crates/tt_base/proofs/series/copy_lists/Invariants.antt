use Rattle.std.proofs.Common.{◌≡◌, take}
use Rattle.tt_base.proofs.series.copy_lists.Given as goal

abbrev pub invariant-loop-list : goal.invariant-loop-list
invariant-loop-list g l = l.copy ≡ take l.list-index l.lists
