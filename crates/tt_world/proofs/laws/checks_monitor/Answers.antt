use Rattle.tt_world.proofs.MonitorLaw.{checks_law}
use Rattle.tt_world.proofs.laws.checks_monitor.Goals as goal

pub returns : goal.returns
returns c = checks_law
