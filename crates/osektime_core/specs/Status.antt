-- The exit status of a command.
use Rattle.std.specs.Prelude.{ℕ}
use Rattle.osektime_core.specs.declared.status.Status.{Status}
use Rattle.osektime_core.specs.declared.status.Status.TheVariants.{Done, Memory, Usage, ReadFault, WriteFault, TooLong, Form, Rule, CheckNo, Missed, Shut}

abbrev pub code_of : Status → ℕ
code_of Done = 0
code_of Memory = 1
code_of Usage = 2
code_of ReadFault = 3
code_of WriteFault = 4
code_of TooLong = 5
code_of (Form line kind) = 6
code_of (Rule number line) = 7
code_of (CheckNo mode entry) = 8
code_of (Missed task tick) = 9
code_of (Shut tick) = 10
