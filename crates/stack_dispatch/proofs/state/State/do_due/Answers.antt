use Rattle.std.proofs.Common.{◌+◌, ap, ◌∙◌, subst}
use Rattle.isr_window.specs.Played.{AreLeftFrom}
use Rattle.stack_dispatch.specs.State.{fixed_in, window_in}
use Rattle.stack_dispatch.proofs.Activating.{activates}
use Rattle.stack_dispatch.proofs.Opened.{Kept, due_over, due_all, enabled, before_activation, has_sources, is_opened, left_kept}
use Rattle.stack_dispatch.proofs.Telling.{telling}
use Rattle.stack_dispatch.proofs.state.State.do_due.Given.{Over}
use Rattle.stack_dispatch.proofs.state.State.do_due.Goals as goal
use Rattle.stack_dispatch.proofs.state.State.do_due.Goals.{After-enable_all}

-- the checks and the enables leave the tick and the sources
kept : (g : Over) (c : After-enable_all g) → Kept c.args.self.now.world c.enable_all.new.self.world
kept g c =
    enabled (telling g.R.Recorder) c.args.config.now c.args.script.now c.requires.served c.requires.table
    c.requires.stands _ c.monitor.ensures.gives c.in_default.is c.enable_all.ensures.gives

pub returns-in-Some-clause-gives : goal.returns-in-Some-clause-gives
returns-in-Some-clause-gives g c =
    due_over (telling g.R.Recorder) c.args.config.now c.args.script.now c.requires.served c.requires.table
    c.requires.stands c.monitor.ensures.gives c.in-Some.is

pub arrive_all-requires-clause-sources : goal.arrive_all-requires-clause-sources
arrive_all-requires-clause-sources g c =
    (has_sources (telling g.R.Recorder) c.args.config.now c.args.script.now c.args.self.now c.enable_all.new.self
    (c.enable_all.ensures.beside ∙ c.monitor.ensures.beside)
    (kept g (goal.at.arrive_all-requires-clause-sources g c).After-enable_all) c.requires.sources).sources

pub arrive_all-requires-clause-left : goal.arrive_all-requires-clause-left
arrive_all-requires-clause-left g c =
    (has_sources (telling g.R.Recorder) c.args.config.now c.args.script.now c.args.self.now c.enable_all.new.self
    (c.enable_all.ensures.beside ∙ c.monitor.ensures.beside)
    (kept g (goal.at.arrive_all-requires-clause-left g c).After-enable_all) c.requires.sources).left

pub activate_entry-requires : goal.activate_entry-requires
activate_entry-requires g c =
    activates c.args.config.now c.args.script.now c.requires.served.rules c.args.table.now c.args.self.now.world
    c.requires.table
    c.accept_all.new.self
    (ap fixed_in c.accept_all.ensures.beside ∙ c.arrive_all.ensures.fixed
    ∙ ap fixed_in (c.enable_all.ensures.beside ∙ c.monitor.ensures.beside)
    ∙ c.requires.fixed)
    (before_activation (telling g.R.Recorder) c.args.config.now c.args.script.now c.requires.served c.requires.table
    c.requires.stands c.monitor.ensures.gives c.in_default.is c.enable_all.ensures.gives c.arrive_all.ensures.gives
    c.accept_all.ensures.gives)
    c.args.due c.requires.stands

pub returns-clause-gives : goal.returns-clause-gives
returns-clause-gives g c =
    due_all (telling g.R.Recorder) c.args.config.now c.args.script.now c.requires.served c.requires.table
    c.requires.stands c.monitor.ensures.gives c.in_default.is c.enable_all.ensures.gives c.arrive_all.ensures.gives
    c.accept_all.ensures.gives c.activate_entry.ensures.gives

pub returns-clause-opened : goal.returns-clause-opened
returns-clause-opened g c = λ _.
    let left = subst (λ t. AreLeftFrom c.args.config.now c.args.script.now (t + 1) (window_in c.arrive_all.new.self))
    (kept g (goal.at.returns-clause-opened g c).After-enable_all).tick c.arrive_all.ensures.left in
    is_opened (telling g.R.Recorder) c.args.config.now c.args.script.now c.args.self.now.world.tick
    c.args.table.now.mode
    c.args.due.activation c.accept_all.new.self c.activate_entry.new.self _ _ c.activate_entry.ensures.beside
    c.activate_entry.ensures.gives
    c.accept_all.ensures.sources
    (left_kept (telling g.R.Recorder) c.args.config.now c.args.script.now _ c.arrive_all.new.self c.accept_all.new.self
    c.accept_all.ensures.beside left)
    c.accept_all.ensures.none
