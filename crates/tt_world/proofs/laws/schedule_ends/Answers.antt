use Rattle.tt_world.proofs.Closing.{ends_in_time}
use Rattle.tt_world.proofs.laws.schedule_ends.Goals as goal

pub returns : goal.returns
returns c = ends_in_time
