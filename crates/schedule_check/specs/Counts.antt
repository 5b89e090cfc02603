-- What is counted of the rows of a mode from one offset up to a later one.
use Rattle.std.specs.Prelude.{◌≡◌, ℕ, ◌+◌, ◌*◌, ◌^◌, ◌≤◌, ◌<◌, ◌==◌, ◌&&◌, nat_lt, Bool, true, List, length, take, sum_by, count_by, slice_index_or}
use Rattle.tt_world.specs.declared.config.Activation.{Activation}
use Rattle.tt_world.specs.declared.config.Enable.{Enable}
use Rattle.tt_world.specs.declared.config.ModeDef.{ModeDef}
use Rattle.tt_world.specs.declared.config.ConfigParts.{ConfigParts}
use Rattle.tt_world.specs.ConfigRules.{IsConfig}
use Rattle.round_table.specs.Cuts.{IsCut}
use Rattle.round_table.specs.TableRows.{TableRows}
use Rattle.schedule_check.specs.declared.counts.Begun.{Begun}
use Rattle.schedule_check.specs.declared.counts.Enabled.{Enabled}
use Rattle.schedule_check.specs.Demand.{task_budget}
use Rattle.schedule_check.specs.TablesOf.{IsTableOf}

abbrev pub no_enable : Enable
no_enable = record { offset = 0; isr = record { 0 = 0 } }

-- whether there is a row at a place, with an offset below this one
abbrev pub is_before : {X : Type 0} → (offset : X → ℕ) (d : X) → List X → (to place : ℕ) → Bool
is_before {X} offset d rows to place = nat_lt place (length rows) && nat_lt (offset (slice_index_or rows place d)) to

-- each row before a place has an offset below this one
abbrev pub AreBefore : {X : Type 0} → (offset : X → ℕ) → List X → (to place : ℕ) → Type 0
AreBefore {X} offset rows to place =
    (k : ℕ) (d : X) → k < place → nat_lt (offset (slice_index_or rows k d)) to ≡ true

-- activations from one place up to below another have these budgets
pub record AreBegun (c : ConfigParts) (rows : List Activation) (begun : Begun) : Type 0 where
  pub within : begun.end ≤ length rows
  pub budgets : begun.budgets + sum_by (task_budget c) (take begun.first rows)
      ≡ sum_by (task_budget c) (take begun.end rows)
  pub bounded : begun.budgets ≤ begun.end * 10 ^ 12

-- how many enables of a routine come before a place
abbrev pub enables_in_front : List Enable → (isr place : ℕ) → ℕ
enables_in_front rows isr place = count_by (λ (row : Enable). row.isr.0 == isr) (take place rows)

-- how many enables each routine has from one place up to below another
pub record AreEnabled (rows : List Enable) (enabled : Enabled) : Type 0 where
  pub within : enabled.end ≤ length rows
  pub all : length enabled.counts ≡ 16
  pub counts : (isr : ℕ) → isr < 16
      → slice_index_or enabled.counts isr 0 + enables_in_front rows isr enabled.first
      ≡ enables_in_front rows isr enabled.end

-- a window: from one offset of a mode of a configuration up to a later one
pub record Window : Type 0 where
  pub parts : ConfigParts
  pub mode : ModeDef
  pub from : ℕ
  pub to : ℕ

-- what is counted of the rows of a table in a window
pub record IsCounted (c : ConfigParts) (table : TableRows) (from to : ℕ) (begun : Begun)
    (enabled : Enabled) : Type 0 where
  pub rules : IsConfig c
  pub table_is : IsTableOf c table
  pub order : from ≤ to
  pub first_begun : IsCut (λ (row : Activation). nat_lt row.offset from) table.mode.activations begun.first
  pub end_begun : IsCut (λ (row : Activation). nat_lt row.offset to) table.mode.activations begun.end
  pub activations : AreBegun c table.mode.activations begun
  pub first_enabled : IsCut (λ (row : Enable). nat_lt row.offset from) table.mode.enables enabled.first
  pub end_enabled : IsCut (λ (row : Enable). nat_lt row.offset to) table.mode.enables enabled.end
  pub enables : AreEnabled table.mode.enables enabled
