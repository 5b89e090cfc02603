use Rattle.schedule_check.proofs.NoMiss.{no_miss}
use Rattle.schedule_check.proofs.laws.no_miss.Goals as goal

pub returns : goal.returns
returns c = no_miss
