-- What is elaborated from rows that break no rule.
use Rattle.tt_world.specs.ConfigRules.{IsConfig}
use Rattle.tt_world.specs.ScriptRules.{IsScript}
use Rattle.tt_parts.specs.Located.{parts}
use Rattle.tt_config.specs.declared.document.Elaborated.{Elaborated}
use Rattle.tt_config.specs.Owners.{AreFit}
use Rattle.tt_config.specs.Parts.{config_with, script_with}

-- the numbers of its owners fit the widths of those of a configuration, and what it gives keeps the rules of these
pub record IsSound (d : Elaborated) : Type 0 where
  pub bodies : AreFit d.demands d.bodies
  pub config : IsConfig (config_with d)
  pub script : IsScript (config_with d) (script_with (parts d.declared.names) d.said)
