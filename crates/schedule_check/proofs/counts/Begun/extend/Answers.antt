use Rattle.std.proofs.Common.{sym, ◌∙◌}
use Rattle.tt_world.specs.declared.config.Activation.{Activation}
use Rattle.tt_world.specs.Rows.{no_row}
use Rattle.schedule_check.proofs.Counting.{cut_here}
use Rattle.schedule_check.proofs.counts.Begun.extend.Goals as goal

pub returns-clause-end : goal.returns-clause-end
returns-clause-end c =
    cut_here (λ (row : Activation). row.offset) no_row c.args.rows.now c.args.to c.requires.ascending
    c.loop-tasks.self.end c.loop-tasks.invariant.begun.within c.loop-tasks.invariant.before
    (sym c.is_activation_before.ensures ∙ c.loop-tasks-test.false)
