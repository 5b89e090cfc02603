use Rattle.std.proofs.Common.{◌<◌, ◌+◌, [], ◌∷◌, None, refl, sym, ap, ◌∙◌, subst}
use Rattle.tt_base.specs.declared.event.Event.{Event}
use Rattle.tt_world.specs.Gates.{arrivals}
use Rattle.tt_world.specs.Moved.{Gives}
use Rattle.tt_world.specs.World.{World}
use Rattle.isr_window.specs.Played.{with_window, arrival_event, Arriving, AreSourcesOf, AreLeftFrom}
use Rattle.isr_window.proofs.Arrivals.{arriving_begin, arriving_from, arriving_more, arriving_end}
use Rattle.isr_window.proofs.Fewer.{left_in, fewer_left}
use Rattle.stack_dispatch.specs.Told.{Tells}
use Rattle.stack_dispatch.proofs.Telling.{telling}
use Rattle.stack_dispatch.specs.State.{RunState, fixed_in, window_in}
use Rattle.stack_dispatch.proofs.state.State.arrive_all.Goals as goal

pub sources-init : goal.sources-init
sources-init g c = record {
  at = arriving_begin (telling g.R.Recorder) c.args.config.now c.args.script.now c.args.log.now c.args.self.now.world
      (window_in c.args.self.now) refl c.requires.sources c.requires.left;
  tick = refl;
  fixed = refl;
}

pub take_arrival-requires : goal.take_arrival-requires
take_arrival-requires g c = arriving_from c.args.config.now c.args.script.now _ _ _ _ _ c.sources.invariant.at

pub sources-preserved : goal.sources-preserved
sources-preserved g c =
    let st = c.sources.self in
    let gates = window_in st in
    let tick = sym (ap (λ (z : RunState). z.world.tick) c.self.view_is ∙ sym c.sources.invariant.tick) in
    let noted = subst (λ (e : Event). Tells g.R.Recorder c.sources.log (e ∷ []) c.tell.new.self)
    (c.arrival.ensures ∙ sym (ap (λ t. arrival_event t c.in-Some.arrived) tick)) c.tell.ensures in
    let more = arriving_more (telling g.R.Recorder) c.args.config.now c.args.script.now _ _ c.tell.new.self
    c.args.self.now.world st.world gates _ c.in-Some.arrived c.requires.script
    c.sources.invariant.at c.in-Some.ensures.value refl noted in
    record {
      at = subst (λ (z : RunState). Arriving
          (Tells g.R.Recorder) c.args.config.now c.args.script.now c.args.log.now c.tell.new.self
          c.args.self.now.world z.world (window_in z))
          (sym c.take_arrival.ensures.state)
          more;
      tick = ap (λ (z : RunState). z.world.tick) c.take_arrival.ensures.state ∙ c.sources.invariant.tick;
      fixed = ap (λ (z : RunState). fixed_in z.beside) c.take_arrival.ensures.state ∙ c.sources.invariant.fixed;
    }

pub sources-smaller : goal.sources-smaller
sources-smaller g c =
    subst (λ (z : RunState). left_in (window_in z) < left_in (window_in c.sources.self))
    (sym c.take_arrival.ensures.state)
    (fewer_left c.sources.self.world.tick (window_in c.sources.self) c.in-Some.arrived c.in-Some.ensures.value)

pub returns-clause-gives : goal.returns-clause-gives
returns-clause-gives g c =
    let st = c.sources.self in
    let end = arriving_end (telling g.R.Recorder) c.args.config.now c.args.script.now _ _ _ _ _ _ c.requires.script
    c.sources.invariant.at c.in_default.ensures.value refl in
    subst (λ (w : World). Gives (Tells g.R.Recorder) c.args.log.now c.sources.log w None
    (arrivals c.args.config.now c.args.script.now c.args.self.now.world))
    (sym (ap (λ (z : RunState). z.world) c.take_arrival.ensures.state ∙ ap (with_window st.world) end.same
    ∙ c.sources.invariant.at.seen)) end.gives

pub returns-clause-fixed : goal.returns-clause-fixed
returns-clause-fixed g c = ap (λ (z : RunState). fixed_in z.beside) c.take_arrival.ensures.state
    ∙ c.sources.invariant.fixed

pub returns-clause-sources : goal.returns-clause-sources
returns-clause-sources g c =
    let end = arriving_end (telling g.R.Recorder) c.args.config.now c.args.script.now _ _ _ _ _ _ c.requires.script
    c.sources.invariant.at c.in_default.ensures.value refl in
    subst (AreSourcesOf c.args.config.now)
    (sym (ap window_in c.take_arrival.ensures.state ∙ end.same)) c.sources.invariant.at.are

pub returns-clause-left : goal.returns-clause-left
returns-clause-left g c =
    let end = arriving_end (telling g.R.Recorder) c.args.config.now c.args.script.now _ _ _ _ _ _ c.requires.script
    c.sources.invariant.at c.in_default.ensures.value refl in
    subst (λ t. AreLeftFrom c.args.config.now c.args.script.now (t + 1) (window_in c.take_arrival.new.self))
    c.sources.invariant.tick
    (subst (AreLeftFrom c.args.config.now c.args.script.now (c.sources.self.world.tick + 1))
    (sym (ap window_in c.take_arrival.ensures.state ∙ end.same)) end.left)
