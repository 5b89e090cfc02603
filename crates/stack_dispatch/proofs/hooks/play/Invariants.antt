use Rattle.std.proofs.Common.{◌≡◌, drop}
use Rattle.tt_world.specs.Hooks.{vars_after, outs_of}
use Rattle.stack_dispatch.specs.Told.{Tells}
use Rattle.stack_dispatch.proofs.Telling.{SoFar}
use Rattle.stack_dispatch.proofs.hooks.play.Given as goal

-- what was played, and then what is left to play, is the whole body
abbrev pub invariant-loop-stmt : goal.invariant-loop-stmt
invariant-loop-stmt g l =
    record {
      vars : vars_after l.fn.env.vars l.body ≡ vars_after l.env.vars (drop l.stmt-index l.body);
      others : l.env ≡ record l.fn.env { vars = l.env.vars };
      told : SoFar (Tells g.R.Recorder) l.fn.log (outs_of l.at l.hook l.fn.env.vars l.body) l.log
          (outs_of l.at l.hook l.env.vars (drop l.stmt-index l.body));
    }
