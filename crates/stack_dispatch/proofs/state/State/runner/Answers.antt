use Rattle.std.proofs.Common.{refl, ap, sym, ◌∙◌, subst}
use Rattle.osek_idle.specs.Standing.{setup_of, subsystem_of}
use Rattle.osek_idle.specs.Laws.{runner_in as idle_runner}
use Rattle.tt_stack.specs.Stacked.{runner_in}
use Rattle.stack_dispatch.specs.State.{RunState}
use Rattle.stack_dispatch.proofs.WhoRuns.{HasLefts, stack_of, is_of, runs_on_stack, runs_in_idle_time}
use Rattle.stack_dispatch.proofs.state.State.runner.Goals as goal

pub returns-in-Some : goal.returns-in-Some
returns-in-Some c = λ s kept.
    runs_on_stack c.args.config.now s c.args.self.now kept c.in-Some.runner
    (ap (λ (x : RunState). runner_in (stack_of x)) (sym c.self.view_is) ∙ sym c.runner.ensures ∙ c.in-Some.is)

pub returns-in-None : goal.returns-in-None
returns-in-None c = λ s kept.
    let sub = subsystem_of c.self.inside.stack.codes c.self.inside.osek in
    let setup = setup_of c.self.inside.osek in
    runs_in_idle_time c.args.config.now s c.args.self.now kept setup sub c.in_idle_time.result
    (ap (λ (x : RunState). runner_in (stack_of x)) (sym c.self.view_is) ∙ sym c.runner.ensures ∙ c.in-None.is)
    (is_of c.args.config.now s c.args.self.now kept setup sub
    (subst (λ (x : RunState). HasLefts x.world sub) c.self.view_is (record { tasks = refl; routines = refl }))
    (ap (λ (x : RunState). x.beside.setup) (sym c.self.view_is)) c.self.invariant.1)
    (c.in_idle_time.ensures ∙ ap idle_runner (c.picks.ensures c.self.inside.stack.codes))
