use Rattle.std.proofs.Common.{◌∙◌}
use Rattle.tt_config.proofs.acceptance.join_config.Goals as goal

pub new-config-requires : goal.new-config-requires
new-config-requires c = rw c.in-Ok.ensures c.requires.sound.config

pub new-script-requires : goal.new-script-requires
new-script-requires c = rw (c.new-config.ensures ∙ c.in-Ok.ensures) c.requires.script
