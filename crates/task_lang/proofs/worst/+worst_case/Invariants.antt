use Rattle.std.proofs.Common.{◌≡◌, ◌+◌, drop}
use Rattle.task_lang.specs.Limits.{AreNumbersInRange}
use Rattle.task_lang.specs.Worst.{worst_in}
use Rattle.task_lang.proofs.worst.+worst_case.Given as goal

-- the sum so far and the worst case of what is left
abbrev pub invariant-worst_in-loop-stmt : goal.invariant-worst_in-loop-stmt
invariant-worst_in-loop-stmt l = record {
  summed : l.sum + worst_in l.demands (drop l.stmt-index l.stmts) ≡ worst_in l.demands l.stmts;
  numbers : AreNumbersInRange (drop l.stmt-index l.stmts);
}
