use Rattle.std.proofs.Common.{◌≤◌, subst}
use Rattle.std.specs.Prelude.{All, IfSome}
use Rattle.run_stack.specs.Frames.{Frames, last}
use Rattle.run_stack.proofs.Lists.{last_highest}
use Rattle.run_stack.proofs.stack.RunStack.top.Goals as goal

pub returns-clause-highest : goal.returns-clause-highest
returns-clause-highest c =
    subst (λ (s : Frames). IfSome (last s.isrs) (λ top. All (λ f. f.level ≤ top.level) s.isrs)) c.self.view_is
    (last_highest c.self.inside.isrs.items c.self.invariant.by_level)
