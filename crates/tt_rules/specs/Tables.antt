-- The dispatcher tables that entries give.
use Rattle.std.specs.Prelude.{ℕ, ◌==◌, ◌&&◌, ◌||◌, nat_lt, Bool, List, [], ◌∷◌, flat_map, if◌then◌else◌}
use Rattle.tt_world.specs.declared.config.Activation.{Activation}
use Rattle.tt_world.specs.declared.config.Enable.{Enable}
use Rattle.tt_world.specs.declared.config.ModeDef.{ModeDef}
use Rattle.tt_parts.specs.declared.entries.Entry.{Entry}
use Rattle.tt_parts.specs.declared.entries.Entry.TheVariants as entry
use Rattle.tt_rules.specs.Order.{ascending}

-- the mode and the task or the source of an entry are some of these
abbrev pub is_entry_known : (modes tasks isrs : ℕ) → Entry → Bool
is_entry_known modes tasks isrs (entry.Activates mode a) = nat_lt mode.0 modes && nat_lt a.task.0 tasks
is_entry_known modes tasks isrs (entry.Enables mode e) = nat_lt mode.0 modes && nat_lt e.isr.0 isrs

abbrev pub activation_in : ℕ → Entry → List Activation
activation_in mode (entry.Activates other a) = if other.0 == mode then a ∷ [] else []
activation_in mode (entry.Enables other e) = []

abbrev pub enable_in : ℕ → Entry → List Enable
enable_in mode (entry.Activates other a) = []
enable_in mode (entry.Enables other e) = if other.0 == mode then e ∷ [] else []

abbrev pub is_earlier : Activation → Activation → Bool
is_earlier a b = nat_lt a.offset b.offset

-- by offset, and then by number
abbrev pub is_enabled_earlier : Enable → Enable → Bool
is_enabled_earlier a b = nat_lt a.offset b.offset || ((a.offset == b.offset) && nat_lt a.isr.0 b.isr.0)

-- the table of a mode
abbrev pub mode_with : List Entry → ℕ → ModeDef
mode_with entries mode = record {
  activations = ascending is_earlier (flat_map (activation_in mode) entries);
  enables = ascending is_enabled_earlier (flat_map (enable_in mode) entries);
}
