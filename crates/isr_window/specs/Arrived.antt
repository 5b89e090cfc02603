-- An arrival that was taken.
use Rattle.tt_world.specs.World.{Source}
use Rattle.tt_world.specs.Gates.{source_owner}
use Rattle.isr_window.specs.declared.gates.Arrived.{Arrived}
use Rattle.isr_window.specs.Window.{Window, held_at}

-- an arrival at a source; it is merged where an interrupt is held there
abbrev pub arrived_at : Window → Source → Arrived
arrived_at g source = record { source = source_owner source; merged = held_at g source }
