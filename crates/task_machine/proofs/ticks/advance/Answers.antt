use Rattle.std.proofs.Common.{◌≤◌, max, ap, sym, subst}
use Rattle.task_machine.specs.Stored.{Store}
use Rattle.task_machine.proofs.Standings.{begun_is_front, outcome}
use Rattle.task_machine.proofs.ticks.advance.Goals as goal

pub take_ticks-effect-requires-clause-within : goal.take_ticks-effect-requires-clause-within
take_ticks-effect-requires-clause-within g c =
    subst (λ n. c.args.k ≤ max 1 n)
    (sym (begun_is_front c.args.codes.now c.args.frame.now c.requires.sound)) c.requires.within

pub returns : goal.returns
returns g c =
    let stored : Store = record {
      vars = c.env.inside.vars;
      cursors = c.env.inside.cursors;
      demands =
          c.env.inside.demands;
      values = c.env.inside.values;
    } in
    let done = outcome c.args.codes.now c.instrs-code.result.now c.args.frame.now c.take_ticks-effect.new.frame
    c.take_ticks-effect.new.vars
    c.take_ticks-effect.new.cursors c.take_ticks-effect.result c.args.k stored c.args.env.now c.env.view_is
    c.instrs-code.ensures.layout
    c.take_ticks-effect.ensures.program c.requires.sound c.requires.left c.take_ticks-effect.ensures.ticks in
    record {
      sound = done.sound;
      program = c.take_ticks-effect.ensures.program;
      ticks = done.is;
      demands = ap (λ e. e.demands) c.env.view_is;
      values = ap (λ e. e.values) c.env.view_is;
      ended = done.ended;
      counted = c.tick.ensures;
    }
