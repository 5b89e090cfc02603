use Rattle.std.proofs.Common.{◌<◌, [], ◌∷◌, None, refl, sym, ap, ◌∙◌, subst}
use Rattle.tt_base.specs.declared.event.Event.TheVariants.{Accept}
use Rattle.tt_world.specs.Gates.{acceptances}
use Rattle.tt_world.specs.Moved.{Gives}
use Rattle.tt_world.specs.World.{World}
use Rattle.isr_window.specs.Window.{Window, first_ready, accepting}
use Rattle.isr_window.specs.Played.{with_window, Accepting, AreSourcesOf, begun}
use Rattle.isr_window.proofs.Acceptances.{accepting_begin, accepting_more, accepting_end}
use Rattle.isr_window.proofs.Fewer.{held_in, fewer_held}
use Rattle.stack_dispatch.specs.Told.{Tells}
use Rattle.stack_dispatch.proofs.Telling.{telling}
use Rattle.stack_dispatch.specs.State.{RunState, window_in}
use Rattle.stack_dispatch.specs.Due.{CanBegin, NoneAccepted}
use Rattle.stack_dispatch.proofs.Marks.{accepted_window, accepting_beside, begins_with, can_begin}
use Rattle.stack_dispatch.proofs.state.State.accept_all.Goals as goal

pub sources-init : goal.sources-init
sources-init g c = record {
  at = accepting_begin (telling g.R.Recorder) c.args.config.now c.args.log.now c.args.self.now.world
      (window_in c.args.self.now) c.busy-busy.result refl c.requires.sources c.busy-busy.ensures;
  beside = refl;
}

pub sources-preserved : goal.sources-preserved
sources-preserved g c =
    let st = c.sources.self in
    let busy = c.busy-busy.result in
    let next = accepting (first_ready busy (window_in st)) (window_in st) in
    let world = c.accept.ensures.world
    ∙ ap (λ (z : RunState). begun c.args.config.now c.in-Some.source z.world) c.take_held.ensures.state in
    let beside = c.accept.ensures.beside ∙ ap (λ (z : RunState). z.beside) c.take_held.ensures.state in
    let noted = subst (λ (z : RunState). Tells g.R.Recorder c.sources.log
    (Accept z.world.tick c.in-Some.source ∷ []) c.accept.new.log)
    c.take_held.ensures.state c.accept.ensures.told in
    let more = accepting_more (telling g.R.Recorder) c.args.config.now _ _ c.accept.new.log _ st.world
    (window_in st) next busy c.in-Some.source c.sources.invariant.at c.in-Some.ensures.value refl noted in
    record {
      at = subst (λ (v : Window). Accepting
          (Tells g.R.Recorder) c.args.config.now c.args.log.now c.accept.new.log c.args.self.now.world
          c.accept.new.self.world v busy)
          (sym (accepted_window c.args.config.now c.in-Some.source next st c.accept.new.self world beside))
          (subst (λ (w : World). Accepting
          (Tells g.R.Recorder) c.args.config.now c.args.log.now c.accept.new.log c.args.self.now.world w next
          busy) (sym world)
          more);
      beside = beside ∙ accepting_beside (first_ready busy (window_in st)) st ∙ c.sources.invariant.beside;
    }

pub sources-smaller : goal.sources-smaller
sources-smaller g c =
    let st = c.sources.self in
    let world = c.accept.ensures.world
    ∙ ap (λ (z : RunState). begun c.args.config.now c.in-Some.source z.world) c.take_held.ensures.state in
    let beside = c.accept.ensures.beside ∙ ap (λ (z : RunState). z.beside) c.take_held.ensures.state in
    subst (λ (v : Window). held_in v < held_in (window_in st))
    (sym (accepted_window c.args.config.now c.in-Some.source _ st c.accept.new.self world beside))
    (fewer_held c.busy-busy.result (window_in st) c.in-Some.source c.in-Some.ensures.value)

pub returns-clause-gives : goal.returns-clause-gives
returns-clause-gives g c =
    let st = c.sources.self in
    let end = accepting_end (telling g.R.Recorder) c.args.config.now _ _ _ _ _ _ _ c.sources.invariant.at
    c.in_default.ensures.value refl in
    subst (λ (w : World). Gives (Tells g.R.Recorder) c.args.log.now c.sources.log w None
    (acceptances c.args.config.now c.args.self.now.world))
    (sym (ap (λ (z : RunState). z.world) c.take_held.ensures.state ∙ ap (with_window st.world) end.same
    ∙ c.sources.invariant.at.seen)) end.gives

pub returns-clause-sources : goal.returns-clause-sources
returns-clause-sources g c =
    let end = accepting_end (telling g.R.Recorder) c.args.config.now _ _ _ _ _ _ _ c.sources.invariant.at
    c.in_default.ensures.value refl in
    subst (AreSourcesOf c.args.config.now)
    (sym (ap window_in c.take_held.ensures.state ∙ end.same)) c.sources.invariant.at.are

pub returns-clause-none : goal.returns-clause-none
returns-clause-none g c =
    let st = c.sources.self in
    let end = accepting_end (telling g.R.Recorder) c.args.config.now _ _ _ _ _ _ _ c.sources.invariant.at
    c.in_default.ensures.value refl in
    subst (NoneAccepted c.args.config.now)
    (sym (ap (λ (z : RunState). z.world) c.take_held.ensures.state ∙ ap (with_window st.world) end.same
    ∙ c.sources.invariant.at.seen)) end.none

pub returns-clause-beside : goal.returns-clause-beside
returns-clause-beside g c =
    ap (λ (z : RunState). z.beside) c.take_held.ensures.state
    ∙ accepting_beside (first_ready c.busy-busy.result (window_in c.sources.self)) c.sources.self
    ∙ c.sources.invariant.beside

pub accept-requires-clause-can : goal.accept-requires-clause-can
accept-requires-clause-can g c =
    let st = c.sources.self in
    let at = c.sources.invariant.at in
    subst (λ (z : RunState). CanBegin c.args.config.now c.in-Some.source z.world) (sym c.take_held.ensures.state)
    (begins_with c.args.config.now st.world
    (accepting (first_ready c.busy-busy.result (window_in st)) (window_in st)) c.in-Some.source
    (can_begin c.args.config.now st.world c.busy-busy.result
    (window_in st) c.in-Some.source at.seen at.are at.unfinished c.in-Some.ensures.value))
