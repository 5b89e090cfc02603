use Rattle.task_machine.proofs.Standings.{codes_grow}
use Rattle.task_machine.proofs.laws.codes_may_grow.Goals as goal

pub returns : goal.returns
returns c = codes_grow
