use Rattle.std.proofs.Common.{◌≡◌, ◌-◌, length}
use Rattle.std.specs.Prelude.{find}
use Rattle.std.specs.List.{range_with_len}
use Rattle.isr_window.specs.Numbers.{is_ready_in, first_ready_in}
use Rattle.isr_window.proofs.gates.first_ready.Given as goal

-- none of the sources before this one passes
abbrev pub invariant-loop-number : goal.invariant-loop-number
invariant-loop-number l =
    first_ready_in l.held l.enabled l.busy
    ≡ find (is_ready_in l.held l.enabled l.busy) (range_with_len l.number (length l.held - l.number))
