use Rattle.task_lang.proofs.Ticking.{lowers_worst}
use Rattle.task_lang.proofs.laws.tick_lowers_worst.Goals as goal

pub returns : goal.returns
returns c = lowers_worst
