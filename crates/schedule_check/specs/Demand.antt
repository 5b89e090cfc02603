-- The demand of an activation: how many ticks it and all that can delay it ask for.
use Rattle.std.specs.Prelude.{ℕ, ◌+◌, ◌-◌, ◌*◌, ◌/◌, min, ◌==◌, ◌&&◌, nat_le, nat_lt, Bool, Option, None, Some, length, sum_by, count_by, cond, slice_index_or}
use Rattle.std.specs.List.{range_with_len}
use Rattle.tt_world.specs.declared.config.Activation.{Activation}
use Rattle.tt_world.specs.declared.config.Enable.{Enable}
use Rattle.tt_world.specs.declared.config.IsrDef.{IsrDef}
use Rattle.tt_world.specs.declared.config.ModeDef.{ModeDef}
use Rattle.tt_world.specs.declared.config.ConfigParts.{ConfigParts}
use Rattle.tt_world.specs.Rows.{no_task, no_isr}

-- whether an offset is at or after one, and below another
abbrev pub is_within : (from to offset : ℕ) → Bool
is_within from to offset = nat_le from offset && nat_lt offset to

-- the routine of a number
abbrev pub isr_of : ConfigParts → ℕ → IsrDef
isr_of c number = slice_index_or c.isrs number no_isr

abbrev pub task_budget : ConfigParts → Activation → ℕ
task_budget c row = (slice_index_or c.tasks row.task.0 no_task).budget

-- the budgets of the activations with offsets from one up to below another
abbrev pub tasks_demand : ConfigParts → ModeDef → (from to : ℕ) → ℕ
tasks_demand c mode from to = sum_by
    (λ (row : Activation). cond (is_within from to row.offset) (task_budget c row) 0) mode.activations

-- how many enables of a routine have such offsets
abbrev pub enables_in : ModeDef → (isr from to : ℕ) → ℕ
enables_in mode isr from to = count_by
    (λ (row : Enable). (row.isr.0 == isr) && is_within from to row.offset) mode.enables

-- how often a routine begins at most, with some enables and in some ticks, besides what is carried over
abbrev pub most_begins : Option ℕ → (enables ticks : ℕ) → ℕ
most_begins None enables ticks = enables
most_begins (Some distance) enables ticks = min enables ((ticks + (distance - 1)) / distance)

-- the demand of a routine: for an occurrence that is unfinished, for one that an open gate admits, and for the others
abbrev pub isr_demand : IsrDef → (enables ticks : ℕ) → ℕ
isr_demand isr enables ticks = isr.budget * (2 + most_begins isr.distance enables ticks)

abbrev pub isrs_demand : ConfigParts → ModeDef → (from to : ℕ) → ℕ
isrs_demand c mode from to =
    sum_by (λ (number : ℕ). isr_demand (isr_of c number) (enables_in mode number from to) (to - from))
    (range_with_len 0 (length c.isrs))

-- the demand from an offset up to a later one
unfoldable pub demand : ConfigParts → ModeDef → (from to : ℕ) → ℕ
demand c mode from to = tasks_demand c mode from to + isrs_demand c mode from to
