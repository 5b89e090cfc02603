use Rattle.std.proofs.Common.{◌∙◌}
use Rattle.osek_idle.specs.Subsystem.{readied}
use Rattle.osek_idle.specs.Standing.{subsystem_of, setup_of, task_body}
use Rattle.osek_idle.proofs.Changes.{limit, ok, chosen_first, chosen_second}
use Rattle.osek_idle.proofs.subsystem.Osek.activate.Goals as goal

pub returns-then-is_ready-clause-result : goal.returns-then-is_ready-clause-result
returns-then-is_ready-clause-result c =
    limit _ c.is_ready.result (c.is_ready.ensures c.args.codes.now) c.if-is_ready.true

pub returns-then-is_ready-clause-state : goal.returns-then-is_ready-clause-state
returns-then-is_ready-clause-state c =
    let s = subsystem_of c.args.codes.now c.args.self.now in
    let body = task_body c.args.codes.now (setup_of c.args.self.now) c.args.task.0 in
    chosen_first s (readied body c.args.task.0 s) _ c.is_ready.result
    (c.is_ready.ensures c.args.codes.now) c.if-is_ready.true

pub returns-clause-result : goal.returns-clause-result
returns-clause-result c = ok _ c.is_ready.result (c.is_ready.ensures c.args.codes.now) c.if-is_ready.false

pub returns-clause-state : goal.returns-clause-state
returns-clause-state c =
    let s = subsystem_of c.args.codes.now c.args.self.now in
    let body = task_body c.args.codes.now (setup_of c.args.self.now) c.args.task.0 in
    c.make_ready.ensures.state ∙ chosen_second s (readied body c.args.task.0 s) _ c.is_ready.result
    (c.is_ready.ensures c.args.codes.now) c.if-is_ready.false
