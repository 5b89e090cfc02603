use Rattle.std.proofs.Common.{◌≡◌, ◌-◌, length, get_or, []}
use Rattle.std.specs.Prelude.{find}
use Rattle.std.specs.List.{range_with_len}
use Rattle.isr_window.specs.Window.{is_next}
use Rattle.isr_window.specs.Numbers.{first_at}
use Rattle.isr_window.proofs.queues.Queues.first_at.Given as goal

-- none of the sources before this one passes
abbrev pub invariant-loop-number : goal.invariant-loop-number
invariant-loop-number l =
    first_at l.now l.self
    ≡ find (λ number. is_next l.now (get_or l.self number [])) (range_with_len l.number (length l.self - l.number))
