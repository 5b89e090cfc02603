use Rattle.task_machine.proofs.Standings.{begun_is_front}
use Rattle.task_machine.proofs.frame.Frame.work_left.Goals as goal

pub returns-clause-front : goal.returns-clause-front
returns-clause-front c = λ codes sound. begun_is_front codes c.args.self.now sound
