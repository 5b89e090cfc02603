use Rattle.std.proofs.Common.{◌≡◌}
use Rattle.osektime_core.specs.TableText.{modes_below}
use Rattle.osektime_core.proofs.table.table_text.Given as goal

-- the tables of the modes so far
abbrev pub invariant-loop-number : goal.invariant-loop-number
invariant-loop-number l = l.text.items ≡ modes_below l.fn.config l.number
