use Rattle.isr_window.proofs.NextTicks.{next_is_least_of}
use Rattle.isr_window.proofs.laws.next_is_least.Goals as goal

pub returns : goal.returns
returns c = next_is_least_of
