use Rattle.task_lang.proofs.Ticking.{keeps_each}
use Rattle.task_lang.proofs.laws.tick_keeps_each.Goals as goal

pub returns : goal.returns
returns c = keeps_each
