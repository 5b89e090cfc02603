use Rattle.std.proofs.Common.{ℕ, ◌<◌, ◌≤◌, ◌-◌, None, arith}
use Rattle.tt_world.specs.declared.config.ConfigParts.{ConfigParts}
use Rattle.tt_world.specs.declared.world.Point.{Point}
use Rattle.tt_world.specs.declared.world.Point.TheVariants as point
use Rattle.tt_world.specs.ConfigRules.{is_activation}
use Rattle.tt_world.specs.Rows.{no_row, row_of}
use Rattle.tt_world.specs.RunLaws.{IsAfter}
use Rattle.tt_world.proofs.Deadlines.{IsFrom, point_is_from}
use Rattle.tt_world.proofs.TableRows.{list_all_get}
use Rattle.round_table.specs.TableLaws.{point_at}
use Rattle.round_table.proofs.RowOrder.{deadline_parts}
use Rattle.round_table.proofs.laws.points_come_after_activations.Goals as goal

after : (c : ConfigParts) (offset deadline : ℕ) (p : Point) → offset < deadline → deadline ≤ c.round - c.adjust
    → IsFrom deadline p → IsAfter c None offset p
after c offset deadline (point.At place) before within from = omega arith
after c offset deadline point.RoundEnd before within from = omega arith

pub returns : goal.returns
returns _ c mode rules entry l =
    let parts = deadline_parts c (row_of mode entry)
    (list_all_get (is_activation c) mode.activations entry no_row rules.activations l) in
    after c _ _ (point_at mode entry) parts.0 parts.1 (point_is_from mode (row_of mode entry))
