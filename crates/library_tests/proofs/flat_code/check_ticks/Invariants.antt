use Rattle.task_machine.specs.Standing.{IsSound}
use Rattle.library_tests.proofs.flat_code.check_ticks.Given as goal

-- the frame stays one of these codes
abbrev pub invariant-loop-tick : goal.invariant-loop-tick
invariant-loop-tick g l = IsSound l.codes l.frame
