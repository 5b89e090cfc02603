use Rattle.osek_idle.proofs.Picking.{picks_are}
use Rattle.osek_idle.proofs.laws.picks_are_the_runners.Goals as goal

pub returns : goal.returns
returns c = picks_are
