use Rattle.std.proofs.Common.{refl, ap, sym, ◌∙◌, subst}
use Rattle.task_machine.specs.Standing.{work_in_front}
use Rattle.osek_idle.specs.Standing.{setup_of, subsystem_of}
use Rattle.tt_stack.specs.Stacked.{left_in, running}
use Rattle.stack_dispatch.specs.State.{RunState}
use Rattle.stack_dispatch.specs.Ticking.{IsInIdleTime, IsOnStack}
use Rattle.stack_dispatch.proofs.Taking.{idle_front, stack_front}
use Rattle.stack_dispatch.proofs.WhoRuns.{HasLefts, stack_of}
use Rattle.stack_dispatch.proofs.state.State.work_left.Goals as goal

pub returns-in-Isr : goal.returns-in-Isr
returns-in-Isr c =
    c.work_left.ensures
    ∙ ap (λ (x : RunState). work_in_front (left_in (stack_of x) (running (stack_of x)))) c.self.view_is
    ∙ stack_front c.args.config.now c.args.script.now c.args.self.now c.requires.kept c.args.runner c.requires.runs
    (subst IsOnStack (sym c.in-Isr.is) tt)

pub returns-in-Job : goal.returns-in-Job
returns-in-Job c =
    c.work_left-in-Job.ensures
    ∙ ap (λ (x : RunState). work_in_front (left_in (stack_of x) (running (stack_of x)))) c.self.view_is
    ∙ stack_front c.args.config.now c.args.script.now c.args.self.now c.requires.kept c.args.runner c.requires.runs
    (subst IsOnStack (sym c.in-Job.is) tt)

pub returns-in-Oisr : goal.returns-in-Oisr
returns-in-Oisr c =
    let sub = subsystem_of c.self.inside.stack.codes c.self.inside.osek in
    let setup = setup_of c.self.inside.osek in
    c.work_left-in-Oisr.ensures c.self.inside.stack.codes c.self.invariant.0
    ∙ idle_front c.args.config.now c.args.script.now c.args.self.now c.requires.kept c.args.runner c.requires.runs
    setup sub (subst IsInIdleTime (sym c.in-Oisr.is) tt)
    (subst (λ (x : RunState). HasLefts x.world sub) c.self.view_is (record { tasks = refl; routines = refl }))
    (ap (λ (x : RunState). x.beside.setup) (sym c.self.view_is)) c.self.invariant.1

pub returns-in-Osek : goal.returns-in-Osek
returns-in-Osek c =
    let sub = subsystem_of c.self.inside.stack.codes c.self.inside.osek in
    let setup = setup_of c.self.inside.osek in
    c.work_left-in-Osek.ensures c.self.inside.stack.codes c.self.invariant.0
    ∙ idle_front c.args.config.now c.args.script.now c.args.self.now c.requires.kept c.args.runner c.requires.runs
    setup sub (subst IsInIdleTime (sym c.in-Osek.is) tt)
    (subst (λ (x : RunState). HasLefts x.world sub) c.self.view_is (record { tasks = refl; routines = refl }))
    (ap (λ (x : RunState). x.beside.setup) (sym c.self.view_is)) c.self.invariant.1
