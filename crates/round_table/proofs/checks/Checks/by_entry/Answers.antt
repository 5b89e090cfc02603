use Rattle.std.proofs.Common.{◌∙◌}
use Rattle.round_table.proofs.CheckOrder.{points_more, checks_more, ends_more}
use Rattle.round_table.proofs.checks.Checks.by_entry.Goals as goal

pub loop-entry-preserved : goal.loop-entry-preserved
loop-entry-preserved c =
    let mode = c.args.mode.now in
    let entry = c.loop-entry.entry in
    let done = c.loop-entry.invariant in
    let within = rw c.as_slice-row-items.ensures at c.loop-entry-test.true in
    let point = rw (c.in_ok-monitor.ensures, c.as_slice-row-items.ensures) at c.point_of.ensures in (
      c.in_ok-put.ensures.points ∙ points_more mode entry within _ _ point _ done.0,
      c.in_ok-put.ensures.due ∙ checks_more mode entry within _ _ point _ done.1,
      c.in_ok-put.ensures.ends ∙ ends_more mode entry within _ _ point _ done.2,
    )
