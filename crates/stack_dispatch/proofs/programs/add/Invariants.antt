use Rattle.std.proofs.Common.{◌≡◌, ◌++◌, take}
use Rattle.std.specs.Prelude.{map}
use Rattle.stack_dispatch.proofs.programs.add.Given as goal

-- the codes of the definitions so far were appended
abbrev pub invariant-loop-def : goal.invariant-loop-def
invariant-loop-def g l = l.codes ≡ l.fn.codes ++ map g.D.Bodied.body_of (take l.def-index l.defs)
