use Rattle.std.proofs.Common.{◌≡◌, ◌++◌, length, reverse}
use Rattle.tt_parts.proofs.front_list.FrontList.into_series.Given as goal

-- the items so far and those that are left are all
abbrev pub invariant-loop-item : goal.invariant-loop-item
invariant-loop-item g l = l.series ++ reverse l.reversed.items ≡ reverse l.initial.reversed.items

abbrev pub decreases-loop-item : goal.decreases-loop-item
decreases-loop-item g l = length l.reversed.items
