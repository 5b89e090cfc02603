-- What the bounds of depth and words promise of every run.
use Rattle.std.specs.Prelude.{◌≤◌}
use Rattle.tt_world.specs.declared.config.ConfigParts.{ConfigParts}
use Rattle.tt_world.specs.declared.script.ScriptParts.{ScriptParts}
use Rattle.tt_world.specs.ConfigRules.{IsConfig}
use Rattle.tt_world.specs.ScriptRules.{IsScript}
use Rattle.tt_world.specs.Load.{deepest, most_words}
use Rattle.schedule_check.specs.Windows.{depth_bound, words_bound}

-- no instant of the schedule is deeper than the depth bound, and none takes more words than the words bound
pub record IsInBounds (c : ConfigParts) (s : ScriptParts) : Type 0 where
  pub depth : deepest c s ≤ depth_bound c
  pub words : most_words c s ≤ words_bound c

-- this holds for every script, whether it keeps its declared bounds or not, and whatever the check says
abbrev pub StackIsBounded : Type 0
StackIsBounded = (c : ConfigParts) (s : ScriptParts) → IsConfig c → IsScript c s → IsInBounds c s
