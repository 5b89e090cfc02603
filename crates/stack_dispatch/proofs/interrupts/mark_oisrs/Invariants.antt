use Rattle.std.proofs.Common.{◌≡◌, List}
use Rattle.task_lang.specs.declared.syntax.Stmt.{Stmt}
use Rattle.osek_idle.specs.Subsystem.{lefts, IsSettled}
use Rattle.osek_idle.specs.Standing.{subsystem_of}
use Rattle.stack_dispatch.proofs.Marks.{MarkedTo}
use Rattle.stack_dispatch.proofs.interrupts.mark_oisrs.Given as goal

-- the numbers so far are marked
abbrev pub invariant-loop-number : goal.invariant-loop-number
invariant-loop-number l = record {
  oisrs : (codes : List (List Stmt)) → IsSettled (subsystem_of codes l.osek)
      → MarkedTo l.number (lefts (subsystem_of codes l.osek).routines) l.busy.oisrs;
  isrs : l.busy.isrs ≡ l.fn.busy.isrs;
}
