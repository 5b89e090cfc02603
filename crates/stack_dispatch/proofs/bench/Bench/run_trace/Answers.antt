use Rattle.std.proofs.Common.{ap, subst}
use Rattle.tt_world.specs.ConfigRules.{IsConfig}
use Rattle.tt_world.specs.ScriptRules.{IsScript}
use Rattle.stack_dispatch.specs.Reports.{Benched}
use Rattle.schedule_check.proofs.NoMiss.{no_miss}
use Rattle.stack_dispatch.proofs.Laws.{laws_hold, ran_on, run_bounded, run_meets}
use Rattle.stack_dispatch.proofs.bench.Bench.run_trace.Goals as goal

pub returns-clause-laws : goal.returns-clause-laws
returns-clause-laws g c =
    laws_hold c.args.self.config c.args.self.script
    (subst IsConfig (ap (λ (b : Benched). b.config) c.self.view_is) c.parts.ensures.rules)
    (subst (λ (b : Benched). IsScript b.config b.script) c.self.view_is c.self.invariant.script_is)

pub returns-clause-no_miss : goal.returns-clause-no_miss
returns-clause-no_miss g c = λ said kept.
    no_miss c.args.self.config c.args.self.script
    (subst IsConfig (ap (λ (b : Benched). b.config) c.self.view_is) c.parts.ensures.rules)
    (subst (λ (b : Benched). IsScript b.config b.script) c.self.view_is c.self.invariant.script_is) said kept

pub returns-clause-not_missed : goal.returns-clause-not_missed
returns-clause-not_missed g c = λ said kept.
    run_meets c.args.self.config c.args.self.script
    (subst IsConfig (ap (λ (b : Benched). b.config) c.self.view_is) c.parts.ensures.rules)
    (subst (λ (b : Benched). IsScript b.config b.script) c.self.view_is c.self.invariant.script_is)
    g.R.Recorder c.args.recorder.now c.run_told-run.new.recorder c.run_told-run.result
    (ran_on g.R.Recorder c.args.self c.self.inside.config c.parts.result.now c.self.inside.script c.parts-2.result.now
    c.args.recorder.now c.run_told-run.new.recorder c.run_told-run.result c.parts.ensures.same c.parts-2.ensures.same
    c.self.view_is c.run_told-run.ensures.ran) said kept

pub returns-clause-bounded : goal.returns-clause-bounded
returns-clause-bounded g c =
    run_bounded c.args.self.config c.args.self.script
    (subst IsConfig (ap (λ (b : Benched). b.config) c.self.view_is) c.parts.ensures.rules)
    (subst (λ (b : Benched). IsScript b.config b.script) c.self.view_is c.self.invariant.script_is)
    g.R.Recorder c.args.recorder.now c.run_told-run.new.recorder c.run_told-run.result
    (ran_on g.R.Recorder c.args.self c.self.inside.config c.parts.result.now c.self.inside.script c.parts-2.result.now
    c.args.recorder.now c.run_told-run.new.recorder c.run_told-run.result c.parts.ensures.same c.parts-2.ensures.same
    c.self.view_is c.run_told-run.ensures.ran)
