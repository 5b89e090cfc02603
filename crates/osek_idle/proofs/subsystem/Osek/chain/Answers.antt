use Rattle.std.proofs.Common.{ap, ◌∙◌}
use Rattle.osek_idle.specs.Subsystem.{result_of, is_ready, readied, suspended, chained_to}
use Rattle.osek_idle.specs.Standing.{subsystem_of, setup_of, task_body}
use Rattle.osek_idle.proofs.Changes.{limit, ok, chosen_first, chosen_second, other_task}
use Rattle.osek_idle.proofs.subsystem.Osek.chain.Goals as goal

pub returns-then-is_ready-clause-result : goal.returns-then-is_ready-clause-result
returns-then-is_ready-clause-result c =
    let ready = is_ready (subsystem_of c.args.codes.now c.args.self.now).tasks c.args.task.0 in
    limit ready c.is_ready.result (c.is_ready.ensures c.args.codes.now) c.if-is_ready.true
    ∙ other_task 0 (result_of ready) c.args.caller.0 c.args.task.0 c.if-caller-task.false

pub returns-then-is_ready-clause-state : goal.returns-then-is_ready-clause-state
returns-then-is_ready-clause-state c =
    let s = subsystem_of c.args.codes.now c.args.self.now in
    let body = task_body c.args.codes.now (setup_of c.args.self.now) c.args.task.0 in
    let ready = is_ready s.tasks c.args.task.0 in
    chosen_first s (suspended c.args.caller.0 (readied body c.args.task.0 s)) ready c.is_ready.result
    (c.is_ready.ensures c.args.codes.now) c.if-is_ready.true
    ∙ other_task (readied body c.args.task.0 s)
    (chained_to body c.args.caller.0 c.args.task.0 s) c.args.caller.0 c.args.task.0 c.if-caller-task.false

pub returns-clause-result : goal.returns-clause-result
returns-clause-result c =
    let ready = is_ready (subsystem_of c.args.codes.now c.args.self.now).tasks c.args.task.0 in
    ok ready c.is_ready.result (c.is_ready.ensures c.args.codes.now) c.if-is_ready.false
    ∙ other_task 0 (result_of ready) c.args.caller.0 c.args.task.0 c.if-caller-task.false

pub returns-clause-state : goal.returns-clause-state
returns-clause-state c =
    let s = subsystem_of c.args.codes.now c.args.self.now in
    let body = task_body c.args.codes.now (setup_of c.args.self.now) c.args.task.0 in
    let ready = is_ready s.tasks c.args.task.0 in
    c.suspend.ensures.state c.args.codes.now ∙ ap (suspended c.args.caller.0) c.make_ready-2.ensures.state
    ∙ chosen_second s (suspended c.args.caller.0 (readied body c.args.task.0 s)) ready c.is_ready.result
    (c.is_ready.ensures c.args.codes.now) c.if-is_ready.false
    ∙ other_task (readied body c.args.task.0 s)
    (chained_to body c.args.caller.0 c.args.task.0 s) c.args.caller.0 c.args.task.0 c.if-caller-task.false
