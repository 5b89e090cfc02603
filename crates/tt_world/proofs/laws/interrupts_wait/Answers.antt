use Rattle.tt_world.proofs.InterruptLaws.{interrupts_law}
use Rattle.tt_world.proofs.laws.interrupts_wait.Goals as goal

pub returns : goal.returns
returns c = interrupts_law
