use Rattle.schedule_check.proofs.IsrRuns.{isr_bounded}
use Rattle.schedule_check.proofs.laws.isr_is_bounded.Goals as goal

pub returns : goal.returns
returns c = isr_bounded
