use Rattle.std.proofs.Common.{◌-◌, length}
use Rattle.task_machine.proofs.expr.+evaluate.Given as goal

abbrev pub decreases-evaluate : goal.decreases-evaluate
decreases-evaluate l = length l.code.now - l.place
