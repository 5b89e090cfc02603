use Rattle.tt_rules.proofs.SoundTables.{mode_sound}
use Rattle.tt_rules.proofs.laws.tables_are_sound.Goals as goal

pub returns : goal.returns
returns c = mode_sound
