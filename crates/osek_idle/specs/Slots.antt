-- Tasks or routines by number, and which of them runs before the others.
use Rattle.std.specs.Prelude.{ℕ, nat_lt, List, map, Option, None, Some, if◌then◌else◌}
use Rattle.task_machine.specs.declared.frame.Frame.{Frame}
use Rattle.tt_world.specs.Runners.{higher, highest}
use Rattle.osek_idle.specs.Subsystem.{ready_numbers}
use Rattle.osek_idle.specs.declared.slot.Slot.{Slot}

abbrev pub priorities : List Slot → List ℕ
priorities slots = map (λ (slot : Slot). slot.priority) slots

abbrev pub frames : List Slot → List (Option Frame)
frames slots = map (λ (slot : Slot). slot.frame) slots

-- of those that have a frame, the one of the highest priority
abbrev pub top_of : List Slot → Option ℕ
top_of slots = highest (priorities slots) (ready_numbers (frames slots))

-- the one of two numbers that runs before the other: that of the higher priority, of equals the lesser
abbrev pub first_of : List ℕ → ℕ → Option ℕ → ℕ
first_of priorities number None = number
first_of priorities number (Some other) =
    if nat_lt other number then higher priorities other (Some number) else higher priorities number (Some other)
