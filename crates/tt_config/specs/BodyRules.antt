-- The rules about bodies, and what they say of a configuration.
use Rattle.std.specs.Prelude.{◌≡◌, ◌^◌, ◌<◌, List, [], All, length}
use Rattle.task_lang.specs.declared.allowed.OwnerKind.TheVariants as kind
use Rattle.tt_world.specs.declared.config.ConfigParts.{ConfigParts}
use Rattle.tt_world.specs.ConfigRules.{IsBody, IsTask, IsIsr, IsOsek, IsOisr}
use Rattle.tt_rows.specs.declared.row.NumberedRow.{NumberedRow}
use Rattle.tt_rows.specs.Sound.{AreSound}
use Rattle.tt_parts.specs.Names.{names_in}
use Rattle.tt_rules.specs.BodyRules.{lines_14, lines_15, lines_16, lines_17}
use Rattle.tt_rules.specs.DeclarationRules.{lines_9}
use Rattle.tt_rules.specs.StructureRules.{lines_2, lines_3}
use Rattle.tt_config.specs.Document.{elaborated_of}
use Rattle.tt_config.specs.Parts.{config_of}

-- sound rows, fewer than there are line numbers, where no line breaks a rule on bodies
pub record KeepBodyRules (rows : List NumberedRow) : Type 0 where
  pub sound : AreSound rows
  pub short : length rows < 2 ^ 32
  pub rule_2 : lines_2 rows ≡ []
  pub rule_3 : lines_3 rows ≡ []
  pub rule_9 : lines_9 rows ≡ []
  pub rule_14 : lines_14 (names_in rows) rows ≡ []
  pub rule_15 : lines_15 rows ≡ []
  pub rule_16 : lines_16 (elaborated_of rows).bodies ≡ []
  pub rule_17 : lines_17 (elaborated_of rows).demands (elaborated_of rows).bodies ≡ []

-- the bodies of a configuration keep its rules
pub record HasSoundBodies (c : ConfigParts) : Type 0 where
  pub tasks : All (IsTask c) c.tasks
  pub isrs : All (IsIsr c) c.isrs
  pub oseks : All (IsOsek c) c.oseks
  pub oisrs : All (IsOisr c) c.oisrs
  pub error_hook : IsBody c kind.Hook c.error_hook
  pub shutdown_hook : IsBody c kind.Hook c.shutdown_hook

-- where no line breaks a rule on bodies, the bodies of the configuration that rows give keep its rules
abbrev pub BodiesAreSound : Type 0
BodiesAreSound = (rows : List NumberedRow) → KeepBodyRules rows → HasSoundBodies (config_of rows)
