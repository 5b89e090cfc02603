use Rattle.task_lang.proofs.Ticking.{ends}
use Rattle.task_lang.proofs.laws.ticks_end.Goals as goal

pub returns : goal.returns
returns c = ends
