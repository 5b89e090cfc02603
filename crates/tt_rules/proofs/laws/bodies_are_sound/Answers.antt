use Rattle.tt_rules.proofs.SoundBodies.{bodies_sound}
use Rattle.tt_rules.proofs.laws.bodies_are_sound.Goals as goal

pub returns : goal.returns
returns c = bodies_sound
