use Rattle.std.proofs.Common.{◌≡◌, ◌++◌}
use Rattle.osektime_core.specs.CheckText.{entries_below}
use Rattle.osektime_core.proofs.check.put_mode.Given as goal

-- the lines of the entries so far
abbrev pub invariant-loop-entry : goal.invariant-loop-entry
invariant-loop-entry l = l.text.items ≡ l.fn.text.items ++ entries_below l.fn.config l.fn.mode l.entry
