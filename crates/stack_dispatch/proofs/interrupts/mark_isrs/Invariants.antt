use Rattle.std.proofs.Common.{◌≡◌}
use Rattle.stack_dispatch.proofs.Marks.{MarkedTo}
use Rattle.stack_dispatch.proofs.interrupts.mark_isrs.Given as goal

-- the numbers so far are marked
abbrev pub invariant-loop-number : goal.invariant-loop-number
invariant-loop-number l = record {
  isrs : MarkedTo l.number l.stack.isrs l.busy.isrs;
  oisrs : l.busy.oisrs ≡ l.fn.busy.oisrs;
}
