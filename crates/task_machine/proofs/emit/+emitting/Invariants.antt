use Rattle.std.proofs.Common.{◌≡◌, ◌++◌, ◌+◌, ◌≤◌, drop}
use Rattle.task_lang.specs.Limits.{AreNumbersInRange, nesting_in}
use Rattle.task_machine.specs.Layout.{body_code}
use Rattle.task_machine.proofs.emit.+emitting.Given as goal

-- the instructions so far and those of the statements left
abbrev pub invariant-body_instrs-loop-stmt : goal.invariant-body_instrs-loop-stmt
invariant-body_instrs-loop-stmt l = record {
  laid : l.code.items ++ body_code l.depth (drop l.stmt-index l.body) ≡ body_code l.depth l.body;
  nested : l.depth + nesting_in (drop l.stmt-index l.body) ≤ 4;
  numbers : AreNumbersInRange (drop l.stmt-index l.body);
}
