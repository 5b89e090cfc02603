use Rattle.std.proofs.Common.{◌+◌, ap, ◌∙◌}
use Rattle.schedule_check.specs.Counts.{Window}
use Rattle.schedule_check.specs.Demand.{demand, tasks_demand}
use Rattle.schedule_check.proofs.Counting.{budgets_are, isrs_are}
use Rattle.schedule_check.proofs.demands.Window.demand.Goals as goal

pub returns : goal.returns
unfolding demand
returns c =
    let inside = c.self.inside in
    let tasks = budgets_are inside.parts.now inside.table.now inside.from inside.to inside.begun inside.enabled
    c.self.invariant in
    let isrs = c.isrs_demand.ensures.exact
    ∙ isrs_are inside.parts.now inside.table.now inside.from inside.to inside.begun inside.enabled c.self.invariant
    c.self.invariant.rules.few.isrs in
    ap (λ t. t + c.isrs_demand.result) tasks
    ∙ ap (λ i. tasks_demand inside.parts.now inside.table.now.mode inside.from inside.to + i) isrs
    ∙ ap (λ (w : Window). demand w.parts w.mode w.from w.to) c.self.view_is
