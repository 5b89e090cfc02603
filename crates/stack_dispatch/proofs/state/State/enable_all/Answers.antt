use Rattle.std.proofs.Common.{refl, ◌∙◌}
use Rattle.stack_dispatch.proofs.Enabling.{leads_first, leads_more, leads_last}
use Rattle.stack_dispatch.proofs.Telling.{telling}
use Rattle.stack_dispatch.proofs.state.State.enable_all.Goals as goal

pub loop-place-init : goal.loop-place-init
loop-place-init g c = record { all = leads_first (telling g.R.Recorder) _ _; beside = refl }

pub loop-place-preserved : goal.loop-place-preserved
loop-place-preserved g c = record {
  all = leads_more (telling g.R.Recorder) _ _ _ _ _ _ _ c.loop-place.invariant.all _ c.loop-place-test.true
      c.enable_at.ensures _ _
      c.enable.ensures.gives;
  beside = c.enable.ensures.beside ∙ c.loop-place.invariant.beside;
}

pub returns-clause-gives : goal.returns-clause-gives
returns-clause-gives g c = leads_last
    (telling g.R.Recorder) _ _ _ _ _ _ _ c.loop-place.invariant.all c.loop-place-test.false
