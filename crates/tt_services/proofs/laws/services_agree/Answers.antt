use Rattle.tt_services.proofs.Agreeing.{agree}
use Rattle.tt_services.proofs.laws.services_agree.Goals as goal

pub returns : goal.returns
returns c = agree
