-- What the rules say of a configuration: where no line breaks them, its parts keep the configuration's own rules.
use Rattle.std.specs.Prelude.{◌≡◌, ℕ, ◌-◌, ◌*◌, ◌<◌, ◌≤◌, true, List, [], length}
use Rattle.std.specs.List.{AllByRecursion, list_all}
use Rattle.tt_base.specs.declared.names.NameKind.{NameKind}
use Rattle.tt_base.specs.declared.names.NameKind.TheVariants as Kind
use Rattle.tt_base.specs.Names.{count_of}
use Rattle.tt_world.specs.declared.config.ConfigParts.{ConfigParts}
use Rattle.tt_world.specs.ConfigRules.{IsMode, are_names_free}
use Rattle.tt_base.specs.declared.names.NameEntry.{NameEntry}
use Rattle.task_lang.specs.declared.allowed.OwnerKind.{OwnerKind}
use Rattle.task_lang.specs.declared.allowed.OwnerKind.TheVariants as kind
use Rattle.task_lang.specs.Allowed.{is_allowed}
use Rattle.task_lang.specs.Limits.{each_in, is_number_in_range}
use Rattle.tt_rows.specs.declared.row.NumberedRow.{NumberedRow}
use Rattle.tt_parts.specs.declared.bodies.Owner.{Owner}
use Rattle.tt_parts.specs.declared.bodies.Owner.TheVariants as owner
use Rattle.tt_parts.specs.declared.bodies.BodyPart.{BodyPart}
use Rattle.tt_parts.specs.Bodies.{bodies_of}
use Rattle.tt_rules.specs.StructureRules.{lines_2}
use Rattle.tt_rules.specs.DeclarationRules.{lines_9}
use Rattle.tt_rules.specs.BodyRules.{lines_15}
use Rattle.tt_parts.specs.declared.located.At.{At}
use Rattle.tt_parts.specs.declared.declared_parts.Declarations.{Declarations}
use Rattle.tt_parts.specs.declared.entries.Entry.{Entry}
use Rattle.tt_parts.specs.Located.{parts}
use Rattle.tt_rules.specs.Document.{round_of, adjust_of}
use Rattle.tt_rules.specs.RoundRules.{lines_4, lines_6}
use Rattle.tt_rules.specs.NameRules.{lines_7, lines_8, most_of}
use Rattle.tt_rules.specs.TableRules.{lines_19, lines_20, lines_21, lines_22, lines_23, lines_24}
use Rattle.tt_rules.specs.Tables.{is_entry_known, mode_with}

-- the round and the names of a configuration
pub record AreDeclarationsSound (d : Declarations) : Type 0 where
  pub round_long : 2 ≤ round_of d
  pub round_short : round_of d ≤ 10000000
  pub adjust : 4 * adjust_of d ≤ round_of d
  pub names : are_names_free (parts d.names) ≡ true
  pub some_mode : 1 ≤ count_of Kind.Mode (parts d.names)
  pub few : (kind : NameKind) → count_of kind (parts d.names) ≤ most_of kind

-- Where no line breaks rules 4, 6, 7 and 8, the round and the names are those of a configuration.
abbrev pub DeclarationsAreSound : Type 0
DeclarationsAreSound = (d : Declarations) → lines_4 d ≡ [] → lines_6 d ≡ [] → lines_7 d ≡ [] → lines_8 d ≡ []
    → AreDeclarationsSound d

-- no line breaks a rule on tables
pub record AreTablesKept (limit modes : ℕ) (xs : List (At Entry)) : Type 0 where
  pub enables : lines_19 limit xs ≡ []
  pub deadlines : lines_20 limit xs ≡ []
  pub places : lines_21 xs ≡ []
  pub sources : lines_22 xs ≡ []
  pub apart : lines_23 xs ≡ []
  pub few : lines_24 modes xs ≡ []

-- Where entries name what is declared and no line breaks rules 19 to 24, each mode has a table of a configuration.
abbrev pub TablesAreSound : Type 0
TablesAreSound = (c : ConfigParts) (modes : ℕ) (xs : List (At Entry))
    → list_all (is_entry_known modes (length c.tasks) (length c.isrs)) (parts xs) ≡ true
    → AreTablesKept (c.round - c.adjust) modes xs → (mode : ℕ) → mode < modes → IsMode c (mode_with (parts xs) mode)

abbrev pub kind_of : Owner → OwnerKind
kind_of (owner.Task stack) = kind.Task
kind_of (owner.Isr level stack distance) = kind.Isr
kind_of (owner.Osek priority auto) = kind.Osek
kind_of (owner.Oisr priority) = kind.Oisr
kind_of owner.ErrorHook = kind.Hook
kind_of owner.ShutdownHook = kind.Hook

-- the numbers of a body are in range, and its owner may have each of its statements
pub record IsBodySound (b : BodyPart) : Type 0 where
  pub numbers : each_in is_number_in_range b.body ≡ true
  pub allowed : each_in (is_allowed (kind_of b.owner)) b.body ≡ true

-- Where no line breaks rules 2, 9 and 15, each body is such a body.
abbrev pub BodiesAreSound : Type 0
BodiesAreSound = (names : List NameEntry) (rows : List NumberedRow) → lines_2 rows ≡ [] → lines_9 rows ≡ []
    → lines_15 rows ≡ []
    → AllByRecursion (λ (x : At BodyPart). IsBodySound x.part) (bodies_of names rows)
