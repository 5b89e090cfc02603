use Rattle.task_lang.proofs.Ticking.{keeps_numbers}
use Rattle.task_lang.proofs.laws.tick_keeps_numbers.Goals as goal

pub returns : goal.returns
returns c = keeps_numbers
