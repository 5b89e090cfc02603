use Rattle.std.proofs.Common.{◌≡◌}
use Rattle.osektime_core.specs.CheckText.{responses_below}
use Rattle.osektime_core.proofs.check.check_text.Given as goal

-- the lines of the modes so far
abbrev pub invariant-loop-number : goal.invariant-loop-number
invariant-loop-number l = l.text.items ≡ responses_below l.fn.config l.number
