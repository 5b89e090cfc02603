use Rattle.tt_rules.proofs.SoundDeclarations.{declarations_sound}
use Rattle.tt_rules.proofs.laws.declarations_are_sound.Goals as goal

pub returns : goal.returns
returns c = declarations_sound
