use Rattle.std.proofs.Common.{arith}
use Rattle.stack_dispatch.proofs.Foreseen.{due_accepted, tick_accepted, opens_accepting, opens_idle, idle_sources, ahead_accepted, ahead_idle}
use Rattle.stack_dispatch.proofs.Opened.{left_kept}
use Rattle.stack_dispatch.proofs.Telling.{telling}
use Rattle.stack_dispatch.proofs.state.State.open_idle.Goals as goal

pub returns-then-ahead-clause-gives : goal.returns-then-ahead-clause-gives
returns-then-ahead-clause-gives g c =
    opens_accepting (telling g.R.Recorder) c.args.config.now c.args.script.now c.args.self.now c.requires.can
    c.args.ahead.next
    c.requires.foresees.next c.requires.idle _ _ _ c.accept_all.ensures.gives

pub returns-then-ahead-clause-opened : goal.returns-then-ahead-clause-opened
returns-then-ahead-clause-opened g c =
    let h = idle_sources (telling g.R.Recorder) c.args.config.now c.args.script.now c.args.self.now c.requires.can
    c.args.ahead.next
    c.requires.foresees.next c.requires.idle in
    record {
      sources = record {
        sources = c.accept_all.ensures.sources;
        left = left_kept (telling g.R.Recorder) c.args.config.now c.args.script.now _ c.args.self.now
            c.accept_all.new.self
            c.accept_all.ensures.beside h.left;
      };
      none = c.accept_all.ensures.none;
    }

pub returns-then-ahead-clause-ahead : goal.returns-then-ahead-clause-ahead
returns-then-ahead-clause-ahead g c =
    ahead_accepted (telling g.R.Recorder) c.args.config.now c.args.script.now c.args.self.now c.accept_all.new.self
    c.args.ahead.next _ _
    c.accept_all.ensures.beside c.accept_all.ensures.gives c.requires.foresees.next

pub returns-else-ahead-clause-gives : goal.returns-else-ahead-clause-gives
returns-else-ahead-clause-gives g c =
    opens_idle (telling g.R.Recorder) c.args.config.now c.args.script.now c.args.self.now c.requires.can
    c.args.ahead.next
    c.requires.foresees.next c.requires.idle _ (c.requires.foresees.none c.if-ahead.false)

pub returns-else-ahead-clause-opened : goal.returns-else-ahead-clause-opened
returns-else-ahead-clause-opened g c = record {
  sources = idle_sources (telling g.R.Recorder) c.args.config.now c.args.script.now c.args.self.now c.requires.can
      c.args.ahead.next
      c.requires.foresees.next c.requires.idle;
  none = c.requires.foresees.none c.if-ahead.false;
}

pub returns-else-ahead-clause-ahead : goal.returns-else-ahead-clause-ahead
returns-else-ahead-clause-ahead g c =
    ahead_idle (telling g.R.Recorder) c.args.config.now c.args.script.now c.args.self.now c.args.ahead.next
    c.requires.foresees.next

pub returns-then-ahead-clause-later : goal.returns-then-ahead-clause-later
returns-then-ahead-clause-later g c =
    let same = tick_accepted (telling g.R.Recorder) c.args.config.now c.args.script.now c.args.self.now.world
    c.accept_all.new.self.world _ _ c.accept_all.ensures.gives in
    omega (arith, same, c.requires.idle)

pub returns-then-ahead-clause-due : goal.returns-then-ahead-clause-due
returns-then-ahead-clause-due g c =
    due_accepted (telling g.R.Recorder) c.args.config.now c.args.script.now c.args.self.now.world
    c.accept_all.new.self.world c.args.ahead.next _ _ c.accept_all.ensures.gives
    (c.requires.foresees.due c.requires.idle)

pub returns-else-ahead-clause-due : goal.returns-else-ahead-clause-due
returns-else-ahead-clause-due g c = c.requires.foresees.due c.requires.idle
