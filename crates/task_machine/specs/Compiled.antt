-- What holds of the instructions of a compiled body.
use Rattle.std.specs.Prelude.{◌≡◌, List}
use Rattle.task_machine.specs.Layout.{AreInRange, body_code}
use Rattle.task_machine.specs.Reading.{body_in}
use Rattle.task_machine.specs.declared.instr.Instr.{Instr}

-- They are the code of the body that is read from them, and their numbers are in range.
pub record IsCompiled (instrs : List Instr) : Type 0 where
  pub layout : instrs ≡ body_code 0 (body_in instrs)
  pub range : AreInRange instrs
