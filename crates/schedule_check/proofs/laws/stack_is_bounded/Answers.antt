use Rattle.schedule_check.proofs.StackBound.{stack_bounded}
use Rattle.schedule_check.proofs.laws.stack_is_bounded.Goals as goal

pub returns : goal.returns
returns c = stack_bounded
