use Rattle.std.proofs.Common.{refl}
use Rattle.tt_read.proofs.ReadLaws.{passed_sound}
use Rattle.tt_read.proofs.document.read.Goals as goal

pub returns-in-End-clause-sound : goal.returns-in-End-clause-sound
returns-in-End-clause-sound c = passed_sound c.loop-rows.invariant (c.in-End.ensures.end.0 refl)
