use Rattle.std.proofs.Common.{refl, sym, ◌∙◌}
use Rattle.stack_dispatch.proofs.Begins.{few_over}
use Rattle.stack_dispatch.proofs.Jumping.{Jumps, can_jump, is_jump, jump_few, jump_foresees, jump_peaks, jump_sources, over_passes, passes_all, peaks_over, some_ticks}
use Rattle.stack_dispatch.proofs.Opened.{can_weigh, instant_over}
use Rattle.stack_dispatch.proofs.RunEvents.{counted_jump, counted_opening, counting}
use Rattle.stack_dispatch.proofs.Telling.{outcome_is, telling}
use Rattle.stack_dispatch.proofs.state.State.pass.Given.{Over}
use Rattle.stack_dispatch.proofs.state.State.pass.Goals as goal
use Rattle.stack_dispatch.proofs.state.State.pass.Goals.{After-jump_to-k}

-- the opening goes on, and the one who runs takes ticks at once
jumps : (g : Over) (c : After-jump_to-k g)
    → Jumps c.args.config.now c.args.script.now c.args.self.now c.open_ahead.new.self c.open_ahead.new.ahead.next
    c.jump_to-k.result
jumps g c =
    let goes = c.in_default.is in
    let on = sym goes in
    let fixed = c.open_ahead.ensures.fixed ∙ c.requires.can.fixed in
    record {
      can = c.requires.can;
      on = c.requires.on_schedule;
      world_is = c.open_ahead.ensures.gives.world_is;
      goes = on ∙ c.open_ahead.ensures.gives.end_is;
      fixed = fixed;
      opened = c.open_ahead.ensures.opened on;
      ahead = c.open_ahead.ensures.ahead on;
      soon = c.open_ahead.ensures.later on;
      due = c.open_ahead.ensures.due on;
      ticks = is_jump c.runner-runner.result c.open_ahead.new.self.world c.args.config.now
          c.open_ahead.new.ahead.next c.jump_to-k.result (c.runner-runner.ensures c.args.script.now fixed)
          c.jump_to-k.ensures;
    }

pub returns-in-Some-clause-passes : goal.returns-in-Some-clause-passes
returns-in-Some-clause-passes g c =
    over_passes (telling g.R.Recorder) c.args.config.now c.args.script.now c.args.self.now.world _ _ _ _
    c.tick-first.result c.requires.on_schedule c.tick-first.ensures
    (instant_over (telling g.R.Recorder) c.args.config.now c.args.script.now c.args.self.now.world _ _ _ _
    c.in-Some.end c.open_ahead.ensures.gives c.in-Some.is)

pub returns-in-Some-clause-peaks : goal.returns-in-Some-clause-peaks
returns-in-Some-clause-peaks g c = λ is.
    peaks_over c.args.config.now c.args.script.now c.args.self.now.world c.args.peaks.now c.tick-first.result
    c.open_ahead.result c.in-Some.end c.requires.on_schedule c.tick-first.ensures c.in-Some.is
    c.open_ahead.ensures.gives.end_is is

pub raise-requires : goal.raise-requires
raise-requires g c =
    let can = c.requires.can in
    can_weigh (telling g.R.Recorder) c.args.config.now c.args.script.now c.args.self.now.world
    c.open_ahead.new.self.world _ _ (outcome_is c.open_ahead.ensures.gives c.in_default.is)
    can.served can.named c.open_ahead.new.self refl (c.open_ahead.ensures.fixed ∙ can.fixed)

pub jump_to-k-requires-clause-kept : goal.jump_to-k-requires-clause-kept
jump_to-k-requires-clause-kept g c = c.open_ahead.ensures.fixed ∙ c.requires.can.fixed

pub jump_to-k-requires-clause-runs : goal.jump_to-k-requires-clause-runs
jump_to-k-requires-clause-runs g c =
    c.runner-runner.ensures c.args.script.now (c.open_ahead.ensures.fixed ∙ c.requires.can.fixed)

pub step-ticked-requires-clause-some : goal.step-ticked-requires-clause-some
step-ticked-requires-clause-some g c =
    some_ticks (jumps g (goal.at.step-ticked-requires-clause-some g c).After-jump_to-k)

pub step-ticked-requires-clause-can : goal.step-ticked-requires-clause-can
step-ticked-requires-clause-can g c =
    can_jump (jumps g (goal.at.step-ticked-requires-clause-can g c).After-jump_to-k)

pub step-ticked-requires-clause-runs : goal.step-ticked-requires-clause-runs
step-ticked-requires-clause-runs g c =
    c.runner-runner.ensures c.args.script.now (c.open_ahead.ensures.fixed ∙ c.requires.can.fixed)

pub returns-clause-passes : goal.returns-clause-passes
returns-clause-passes g c =
    passes_all (jumps g (goal.at.returns-clause-passes g c).After-jump_to-k) c.step-ticked.ensures.last
    c.step-ticked.ensures.gives (telling g.R.Recorder) c.open_ahead.ensures.gives.told

pub returns-clause-sources : goal.returns-clause-sources
returns-clause-sources g c = λ on.
    jump_sources (jumps g (goal.at.returns-clause-sources g c).After-jump_to-k) c.step-ticked.ensures.last
    c.step-ticked.ensures.gives (sym on) c.step-ticked.new.self refl c.step-ticked.ensures.beside

pub returns-clause-foresees : goal.returns-clause-foresees
returns-clause-foresees g c = λ on.
    jump_foresees (jumps g (goal.at.returns-clause-foresees g c).After-jump_to-k) c.step-ticked.ensures.last
    c.step-ticked.ensures.gives (sym on) c.step-ticked.new.self c.step-ticked.result.ended refl
    c.step-ticked.ensures.beside c.step-ticked.ensures.ended

pub returns-clause-peaks : goal.returns-clause-peaks
returns-clause-peaks g c = λ is.
    jump_peaks (jumps g (goal.at.returns-clause-peaks g c).After-jump_to-k) c.step-ticked.ensures.last
    c.step-ticked.ensures.gives c.args.peaks.now c.raise.new.self is c.raise.ensures

pub returns-clause-few : goal.returns-clause-few
returns-clause-few g c =
    jump_few (jumps g (goal.at.returns-clause-few g c).After-jump_to-k) c.step-ticked.ensures.last
    c.step-ticked.ensures.gives c.args.steps.now c.step-ticked.new.steps c.step-ticked.ensures.counted

pub returns-in-Some-clause-few : goal.returns-in-Some-clause-few
returns-in-Some-clause-few g c =
    few_over c.args.config.now c.args.script.now c.args.self.now.world.tick c.tick-first.result c.args.steps.now
    c.tick-first.ensures

pub returns-clause-enough : goal.returns-clause-enough
returns-clause-enough g c =
    passes_all (jumps g (goal.at.returns-clause-enough g c).After-jump_to-k) c.step-ticked.ensures.last
    (counted_jump c.args.config.now c.args.script.now _ _ _ _ _ _ c.args.steps.now c.step-ticked.new.steps
    c.step-ticked.ensures.counted c.step-ticked.ensures.gives) counting
    (counted_opening c.args.config.now c.args.script.now _ _ _ _ c.args.self.now.world c.args.steps.now
    c.open_ahead.ensures.gives).told

pub returns-in-Some-clause-enough : goal.returns-in-Some-clause-enough
returns-in-Some-clause-enough g c =
    over_passes counting c.args.config.now c.args.script.now c.args.self.now.world _ _ _ _
    c.tick-first.result c.requires.on_schedule c.tick-first.ensures
    (instant_over counting c.args.config.now c.args.script.now c.args.self.now.world _ _ _ _
    c.in-Some.end
    (counted_opening c.args.config.now c.args.script.now _ _ _ _ c.args.self.now.world c.args.steps.now
    c.open_ahead.ensures.gives) c.in-Some.is)
