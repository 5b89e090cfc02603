use Rattle.std.proofs.Common.{◌-◌, refl, ap, ◌∙◌}
use Rattle.std.proofs.lemmas.Bool.{eq-eqb}
use Rattle.tt_world.specs.Monitoring.{is_at}
use Rattle.round_table.specs.DueRows.{is_round_end}
use Rattle.round_table.proofs.Limits.{one_end}
use Rattle.round_table.proofs.RowOrder.{mode_within}
use Rattle.round_table.proofs.laws.points_have_one_end.Goals as goal

pub returns : goal.returns
returns _ c mode rules entry other l m here end =
    let limit = c.round - c.adjust in
    one_end limit mode (mode_within c mode rules) entry other l m (ap (is_at limit) here ∙ eq-eqb limit limit refl)
    (ap is_round_end end)
