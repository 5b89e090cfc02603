use Rattle.osek_idle.proofs.Growing.{grows}
use Rattle.osek_idle.proofs.laws.osek_codes_may_grow.Goals as goal

pub returns : goal.returns
returns c = grows
