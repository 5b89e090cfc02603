use Rattle.std.proofs.Common.{◌≡◌, map, take}
use Rattle.tt_world.specs.Points.{point_of}
use Rattle.round_table.specs.CheckLists.{checks_among, ends_among}
use Rattle.round_table.proofs.checks.Checks.by_entry.Given as goal

abbrev pub invariant-loop-entry : goal.invariant-loop-entry
invariant-loop-entry l =
    (l.checks.points.items ≡ map (point_of l.mode) (take l.entry l.mode.activations))
    × (l.checks.due.items ≡ checks_among l.mode l.entry)
    × (l.checks.ends.items ≡ ends_among l.mode l.entry)
