-- The rows of a mode's table, and the rules that they meet.
use Rattle.std.proofs.Common.{ℕ, ◌<◌, ◌≤◌, ◌-◌, subst, sym, ap, arith, length}
use Rattle.std.specs.Prelude.{◌&&◌, nat_le, nat_lt}
use Rattle.std.specs.List.Sorted.{IsNonDecreasingBy}
use Rattle.std.proofs.lemmas.List.Elements.{All-get_or}
use Rattle.std.proofs.lemmas.Bool.{and_parts, ltb-true, leb-true}
use Rattle.tt_world.specs.declared.config.Activation.{Activation}
use Rattle.tt_world.specs.declared.config.Enable.{Enable}
use Rattle.tt_world.specs.declared.config.ConfigParts.{ConfigParts}
use Rattle.tt_world.specs.ConfigRules.{IsConfig, IsMode, is_activation}
use Rattle.tt_world.specs.Rows.{no_mode, no_row, row_of}
use Rattle.tt_world.proofs.TableRows.{list_all_get}
use Rattle.round_table.specs.TableRows.{TableRows}
use Rattle.round_table.proofs.RowOrder.{activations_rise, enables_rise, mode_within}
use Rattle.schedule_check.specs.TablesOf.{IsTableOf}

module _ (c : ConfigParts) (rules : IsConfig c) where
  module _ (table : TableRows) (of : IsTableOf c table) where
    pub mode_of_table : IsMode c table.mode
    mode_of_table = subst (IsMode c) (sym (ap (λ (t : TableRows). t.mode) of.is))
        (All-get_or (IsMode c) c.modes of.mode no_mode of.within rules.modes)

    -- a row's offset is before its deadline, and its deadline is within the shortest round
    pub row_within : (entry : ℕ) → entry < length table.mode.activations
        → ((row_of table.mode entry).offset < (row_of table.mode entry).deadline)
        × ((row_of table.mode entry).deadline ≤ c.round - c.adjust)
    row_within entry l =
        let row = row_of table.mode entry in
        let h = list_all_get (is_activation c) table.mode.activations entry no_row mode_of_table.activations l in
        let times = (and_parts (nat_lt row.task.0 (length c.tasks))
        (nat_lt row.offset row.deadline && nat_le row.deadline (c.round - c.adjust)) h).1 in
        let both = and_parts (nat_lt row.offset row.deadline) (nat_le row.deadline (c.round - c.adjust)) times in
        (ltb-true row.offset row.deadline both.0, leb-true row.deadline (c.round - c.adjust) both.1)

    -- a row's offset is before its deadline, and its deadline is within the round
    pub row_bounds : (entry : ℕ) → entry < length table.mode.activations
        → ((row_of table.mode entry).offset < (row_of table.mode entry).deadline)
        × ((row_of table.mode entry).deadline ≤ 10000000)
    row_bounds entry l =
        let both = row_within entry l in
        let short = rules.round_short in
        let end = both.1 in
        (both.0, omega arith)

    -- the rows ascend
    pub offsets_rise : IsNonDecreasingBy (λ (row : Activation). row.offset) table.mode.activations
    offsets_rise = activations_rise (c.round - c.adjust) table.mode (mode_within c table.mode mode_of_table)

    pub enable_offsets_rise : IsNonDecreasingBy (λ (row : Enable). row.offset) table.mode.enables
    enable_offsets_rise = enables_rise (c.round - c.adjust) table.mode (mode_within c table.mode mode_of_table)
