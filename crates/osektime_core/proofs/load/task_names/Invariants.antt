use Rattle.std.proofs.Common.{◌≡◌, take}
use Rattle.tt_base.specs.declared.names.NameKind.TheVariants as Kind
use Rattle.tt_base.specs.Names.{names_of}
use Rattle.osektime_core.proofs.load.task_names.Given as goal

-- the names so far
abbrev pub invariant-loop-number : goal.invariant-loop-number
invariant-loop-number l = l.list.items ≡ take l.number (names_of Kind.Task l.names)
