use Rattle.std.proofs.Common.{arith, ℕ, suc, add-one, ◌≡◌, ◌+◌, ◌≤◌, sym, ◌∙◌, ap, subst}
use Rattle.tt_world.specs.Schedule.{most_ticks, events_before}
use Rattle.tt_world.proofs.Ends.{are_bounded, few_ticks}
use Rattle.stack_dispatch.specs.Counts.{Counted, due_before, ended_before}
use Rattle.stack_dispatch.specs.Served.{Foresees, HasSources}
use Rattle.stack_dispatch.specs.State.{RunState, fixed_in}
use Rattle.stack_dispatch.specs.Told.{Tells}
use Rattle.stack_dispatch.proofs.Begins.{few_all, few_some, moves_last, moves_later}
use Rattle.stack_dispatch.proofs.Foreseen.{foresees_first}
use Rattle.stack_dispatch.proofs.Opened.{can_pass, first_sources}
use Rattle.stack_dispatch.specs.Peaks.{peaks_before}
use Rattle.stack_dispatch.proofs.Peaked.{peaks_first}
use Rattle.stack_dispatch.proofs.Running.{AtTick, at_first, at_next, tick_next, told_next, going_next, before_last, all_told, at_last, number_is, status_is, stamp_is, nearer, schedule_rest, schedule_split}
use Rattle.stack_dispatch.proofs.RunEvents.{counting}
use Rattle.stack_dispatch.proofs.Telling.{telling}
use Rattle.stack_dispatch.proofs.run.run.Goals as goal

pub instants-init : goal.instants-init
instants-init g c = record {
  at = subst (λ (z : RunState). AtTick
      (Tells g.R.Recorder) c.args.config.now c.args.script.now c.args.log.now z.world c.args.log.now)
      (sym c.requires.state) (at_first (telling g.R.Recorder) c.args.config.now c.args.script.now c.args.log.now);
  fixed = ap (λ (z : RunState). fixed_in z.beside) c.requires.state;
  sources = subst (λ (z : RunState). HasSources c.args.config.now c.args.script.now z.world.tick z)
      (sym c.requires.state)
      (first_sources (telling g.R.Recorder) c.args.config.now c.args.script.now c.requires.script);
  foresees = subst (λ (z : RunState). Foresees c.args.config.now c.args.script.now z _) (sym c.requires.state)
      (foresees_first (telling g.R.Recorder) c.args.config.now c.args.script.now);
  peaks = subst (λ (z : RunState). record { deepest = 0; words = 0 }
      ≡ peaks_before c.args.config.now c.args.script.now z.world.tick) (sym c.requires.state)
      (peaks_first c.args.config.now c.args.script.now);
  few = omega arith;
  enough = subst (λ (z : RunState). AtTick Counted c.args.config.now c.args.script.now c.args.steps.now z.world
      c.args.steps.now) (sym c.requires.state)
      (at_first counting c.args.config.now c.args.script.now c.args.steps.now);
}

pub pass-passed-requires-clause-can : goal.pass-passed-requires-clause-can
pass-passed-requires-clause-can g c =
    can_pass (telling g.R.Recorder) c.args.config.now c.args.script.now c.instants.state c.requires.config
    c.requires.script c.instants.invariant.at.on c.instants.invariant.fixed c.instants.invariant.sources

pub returns-in-Some-clause-same_recorder : goal.returns-in-Some-clause-same_recorder
returns-in-Some-clause-same_recorder g c =
    (told_next (telling g.R.Recorder) c.instants.invariant.at c.pass-passed.ensures.passes).same_recorder

pub returns-then-failed-clause-same_recorder : goal.returns-then-failed-clause-same_recorder
returns-then-failed-clause-same_recorder g c =
    (told_next (telling g.R.Recorder) c.instants.invariant.at c.pass-passed.ensures.passes).same_recorder

pub returns-in-Some-clause-ran : goal.returns-in-Some-clause-ran
returns-in-Some-clause-ran g c =
    let bounded = are_bounded c.args.config.now c.args.script.now c.requires.config c.requires.script in
    record {
      told = all_told (telling g.R.Recorder) c.instants.invariant.at c.pass-passed.ensures.passes c.in-Some.is bounded;
      status = status_is (telling g.R.Recorder) c.instants.invariant.at c.pass-passed.ensures.passes c.in-Some.is bounded;
      tick = stamp_is (telling g.R.Recorder) c.instants.invariant.at c.pass-passed.ensures.passes c.in-Some.is bounded;
      rounds = c.round_number.ensures
          ∙ number_is (telling g.R.Recorder) c.instants.invariant.at c.pass-passed.ensures.passes c.in-Some.is bounded;
      peaks = c.pass-passed.ensures.peaks c.instants.invariant.peaks
          ∙ ap (peaks_before c.args.config.now c.args.script.now) (add-one c.pass-passed.result.last)
          ∙ ap (λ (n : ℕ). peaks_before c.args.config.now c.args.script.now (suc n))
          (at_last (telling g.R.Recorder) c.instants.invariant.at c.pass-passed.ensures.passes c.in-Some.is bounded);
    }

pub instants-preserved : goal.instants-preserved
instants-preserved g c =
    let next = tick_next (telling g.R.Recorder) c.instants.invariant.at c.pass-passed.ensures.passes c.in_default.is in
    record {
      at = at_next (telling g.R.Recorder) c.instants.invariant.at c.pass-passed.ensures.passes c.in_default.is;
      fixed = c.pass-passed.ensures.fixed ∙ c.instants.invariant.fixed;
      sources = subst (λ t. HasSources c.args.config.now c.args.script.now t c.pass-passed.new.self) (sym next)
          (c.pass-passed.ensures.sources (sym c.in_default.is));
      foresees = c.pass-passed.ensures.foresees (sym c.in_default.is);
      peaks = c.pass-passed.ensures.peaks c.instants.invariant.peaks
          ∙ ap (peaks_before c.args.config.now c.args.script.now) (sym next);
      few = subst (λ (n : ℕ). c.pass-passed.new.steps ≤ c.args.steps.now
          + (ended_before c.args.config.now c.args.script.now n
          + due_before c.args.config.now c.args.script.now (n + 1))) (sym next)
          (moves_later c.args.config.now c.args.script.now c.instants.state.world.tick c.pass-passed.result.last
          c.args.steps.now c.instants.steps c.pass-passed.new.steps c.instants.invariant.few
          c.pass-passed.ensures.few);
      enough = at_next counting c.instants.invariant.enough c.pass-passed.ensures.enough c.in_default.is;
    }

pub instants-smaller : goal.instants-smaller
instants-smaller g c =
    nearer (most_ticks c.args.config.now c.args.script.now) c.instants.state.world.tick c.pass-passed.result.last
    c.pass-passed.new.self.world.tick
    (few_ticks c.args.config.now c.args.script.now
    (are_bounded _ _ c.requires.config c.requires.script) c.instants.state.world.tick
    c.instants.invariant.at.on.going) c.pass-passed.ensures.passes.later
    (tick_next (telling g.R.Recorder) c.instants.invariant.at c.pass-passed.ensures.passes c.in_default.is)

pub returns-then-failed-clause-ran : goal.returns-then-failed-clause-ran
returns-then-failed-clause-ran g c =
    let bounded = are_bounded c.args.config.now c.args.script.now c.requires.config c.requires.script in
    record {
      front = events_before c.args.config.now c.args.script.now (c.pass-passed.result.last + 1);
      rest = schedule_rest c.args.config.now c.args.script.now (c.pass-passed.result.last + 1);
      split = schedule_split c.args.config.now c.args.script.now bounded (c.pass-passed.result.last + 1)
          (going_next (telling g.R.Recorder) c.instants.invariant.at c.pass-passed.ensures.passes c.in_default.is);
      told = told_next (telling g.R.Recorder) c.instants.invariant.at c.pass-passed.ensures.passes;
      failed = sym c.failed.ensures.value ∙ c.if-failed.true;
    }

pub returns-in-Some-clause-few : goal.returns-in-Some-clause-few
returns-in-Some-clause-few g c =
    few_all c.args.config.now c.args.script.now c.args.steps.now c.pass-passed.new.steps c.pass-passed.result.last
    (at_last (telling g.R.Recorder) c.instants.invariant.at c.pass-passed.ensures.passes c.in-Some.is
    (are_bounded c.args.config.now c.args.script.now c.requires.config c.requires.script))
    (moves_last c.args.config.now c.args.script.now c.instants.state.world.tick c.pass-passed.result.last
    c.args.steps.now c.instants.steps c.pass-passed.new.steps c.instants.invariant.few c.pass-passed.ensures.few)

pub returns-then-failed-clause-few : goal.returns-then-failed-clause-few
returns-then-failed-clause-few g c =
    few_some c.args.config.now c.args.script.now c.args.steps.now c.pass-passed.new.steps c.pass-passed.result.last
    (before_last c.args.config.now c.args.script.now
    (are_bounded c.args.config.now c.args.script.now c.requires.config c.requires.script) c.pass-passed.result.last
    (going_next (telling g.R.Recorder) c.instants.invariant.at c.pass-passed.ensures.passes c.in_default.is))
    (moves_last c.args.config.now c.args.script.now c.instants.state.world.tick c.pass-passed.result.last
    c.args.steps.now c.instants.steps c.pass-passed.new.steps c.instants.invariant.few c.pass-passed.ensures.few)

pub returns-in-Some-clause-enough : goal.returns-in-Some-clause-enough
returns-in-Some-clause-enough g c =
    all_told counting c.instants.invariant.enough c.pass-passed.ensures.enough c.in-Some.is
    (are_bounded c.args.config.now c.args.script.now c.requires.config c.requires.script)
