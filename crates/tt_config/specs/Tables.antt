-- The dispatcher tables of the entries of each mode.
use Rattle.std.specs.Prelude.{ℕ, List, [], ◌∷◌, flat_map, Option, Some}
use Rattle.tt_world.specs.declared.config.Activation.{Activation}
use Rattle.tt_world.specs.declared.config.Enable.{Enable}
use Rattle.tt_world.specs.declared.config.ModeDef.{ModeDef}
use Rattle.tt_parts.specs.declared.entries.Entry.{Entry}
use Rattle.tt_parts.specs.declared.entries.Entry.TheVariants as entry
use Rattle.tt_rules.specs.Order.{ascending}
use Rattle.tt_rules.specs.TableRules.{mode_of}
use Rattle.tt_rules.specs.Tables.{is_earlier, is_enabled_earlier}

-- the mode of an entry, and the entry
abbrev pub entry_place : Entry → Option (ℕ × Entry)
entry_place x = Some (mode_of x, x)

abbrev pub activation_of : Entry → List Activation
activation_of (entry.Activates mode a) = a ∷ []
activation_of (entry.Enables mode e) = []

abbrev pub enable_of : Entry → List Enable
enable_of (entry.Activates mode a) = []
enable_of (entry.Enables mode e) = e ∷ []

-- the table of a mode that has exactly these entries
abbrev pub mode_of_entries : List Entry → ModeDef
mode_of_entries entries = record {
  activations = ascending is_earlier (flat_map activation_of entries);
  enables = ascending is_enabled_earlier (flat_map enable_of entries);
}
