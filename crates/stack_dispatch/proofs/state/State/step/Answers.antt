use Rattle.std.proofs.Common.{Bool, None, ◌-◌, ap, subst, arith}
use Rattle.tt_world.specs.Moved.{Gives, is_over}
use Rattle.tt_world.specs.Step.{tick_over}
use Rattle.tt_world.specs.World.{World}
use Rattle.stack_dispatch.specs.Jumps.{lessened}
use Rattle.stack_dispatch.specs.Ticking.{Took}
use Rattle.stack_dispatch.specs.Told.{Tells}
use Rattle.stack_dispatch.proofs.Telling.{outcome_is, telling}
use Rattle.stack_dispatch.proofs.Stepping.{Stepped, Waits, tick_from, step_ends, step_goes_on, step_room, ends_is, waits_number, waits_within, waits_runs, waits_owns, waits_can, waits_last, waits_work}
use Rattle.stack_dispatch.proofs.state.State.step.Given.{Over}
use Rattle.stack_dispatch.proofs.state.State.step.Goals as goal
use Rattle.stack_dispatch.proofs.state.State.step.Goals.{After-tell_did-end, After-wait}

-- all ticks but the last are over
waits : (g : Over) (c : After-wait g)
    → Waits c.args.config.now c.args.script.now c.args.k c.args.self.now c.wait.new.self c.args.runner
    c.owner-who.result
waits g c = record {
  some = c.requires.some;
  can = c.requires.can;
  runs = c.requires.runs;
  owns = c.owner-who.ensures;
  is = c.wait.ensures.world;
  beside = c.wait.ensures.beside;
}

-- what followed from the last tick was done
stepped : (g : Over) (c : After-tell_did-end g)
    → Stepped (Tells g.R.Recorder) c.args.config.now c.args.script.now (c.args.k - 1) c.args.self.now.world
    c.args.runner c.owner-who.result c.args.log.now c.tell_did-end.new.log c.tell_did-end.new.self.world
    c.tell_did-end.result c.take-taken.result.ended
stepped g c = record {
  runs = c.requires.runs;
  owns = c.owner-who.ensures;
  between = c.tell_run.new.log;
  line = c.tell_run.ensures;
  tick = tick_from (telling g.R.Recorder) c.args.config.now c.args.script.now c.args.runner c.owner-who.result
      c.tell_run.new.log c.tell_did-end.new.log c.tell_did-end.new.self.world c.tell_did-end.result
      c.take-taken.result c.take-taken.new.self.world _
      (subst (λ (w : World). Took c.args.config.now c.args.script.now c.args.runner
      (lessened (c.args.k - 1) c.args.runner w) c.take-taken.result c.take-taken.new.self.world) c.wait.ensures.world
      c.take-taken.ensures.took)
      c.tell_did-end.ensures.gives;
}

pub owner-who-requires : goal.owner-who-requires
owner-who-requires g c = c.requires.can.can.mode

pub take-taken-requires-clause-within : goal.take-taken-requires-clause-within
take-taken-requires-clause-within g c =
    waits_within (waits g (goal.at.take-taken-requires-clause-within g c).After-wait)

pub take-taken-requires-clause-can : goal.take-taken-requires-clause-can
take-taken-requires-clause-can g c =
    waits_can (waits g (goal.at.take-taken-requires-clause-can g c).After-wait)

pub take-taken-requires-clause-runs : goal.take-taken-requires-clause-runs
take-taken-requires-clause-runs g c =
    waits_runs (waits g (goal.at.take-taken-requires-clause-runs g c).After-wait)

pub take-taken-requires-clause-owns : goal.take-taken-requires-clause-owns
take-taken-requires-clause-owns g c =
    waits_owns (waits g (goal.at.take-taken-requires-clause-owns g c).After-wait)

pub returns-in-Some-clause-gives : goal.returns-in-Some-clause-gives
returns-in-Some-clause-gives g c =
    outcome_is
    (step_ends (telling g.R.Recorder) (stepped g (goal.at.returns-in-Some-clause-gives g c).After-tell_did-end)
    (ap is_over c.in-Some.is)) c.in-Some.is

pub end_tick-requires : goal.end_tick-requires
end_tick-requires g c =
    let same = step_room (telling g.R.Recorder) (stepped g (goal.at.end_tick-requires g c).After-tell_did-end)
    c.in_default.is in
    let last = waits_number c.args.config.now c.args.script.now c.args.k c.requires.some c.args.self.now
    c.requires.can in
    omega (arith, same, last, c.requires.some)

pub returns-clause-gives : goal.returns-clause-gives
returns-clause-gives g c =
    step_goes_on (telling g.R.Recorder) (stepped g (goal.at.returns-clause-gives g c).After-tell_did-end)
    c.in_default.is c.end_tick.new.log c.end_tick.new.self.world
    (subst (λ (b : Bool). Gives (Tells g.R.Recorder) c.tell_did-end.new.log c.end_tick.new.log
    c.end_tick.new.self.world None
    (tick_over c.owner-who.result b c.tell_did-end.new.self.world)) c.somebody_ended-ended.ensures
    c.end_tick.ensures.gives)

pub returns-in-Some-clause-ended : goal.returns-in-Some-clause-ended
returns-in-Some-clause-ended g c =
    ends_is (telling g.R.Recorder) (stepped g (goal.at.returns-in-Some-clause-ended g c).After-tell_did-end)
    (waits_work (waits g (goal.at.returns-in-Some-clause-ended g c).After-wait))
    c.somebody_ended-ended.result c.somebody_ended-ended.ensures

pub returns-in-Some-clause-last : goal.returns-in-Some-clause-last
returns-in-Some-clause-last g c =
    waits_last (waits g (goal.at.returns-in-Some-clause-last g c).After-wait)
    c.tick-last.result c.tick-last.ensures

pub returns-clause-ended : goal.returns-clause-ended
returns-clause-ended g c =
    ends_is (telling g.R.Recorder) (stepped g (goal.at.returns-clause-ended g c).After-tell_did-end)
    (waits_work (waits g (goal.at.returns-clause-ended g c).After-wait))
    c.somebody_ended-ended.result c.somebody_ended-ended.ensures

pub returns-clause-last : goal.returns-clause-last
returns-clause-last g c =
    waits_last (waits g (goal.at.returns-clause-last g c).After-wait)
    c.tick-last.result c.tick-last.ensures

pub wait-requires-clause-number : goal.wait-requires-clause-number
wait-requires-clause-number g c =
    waits_number c.args.config.now c.args.script.now c.args.k c.requires.some c.args.self.now c.requires.can
