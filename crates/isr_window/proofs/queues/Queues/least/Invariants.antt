use Rattle.std.proofs.Common.{◌≡◌, drop}
use Rattle.isr_window.specs.Window.{lesser, least_next}
use Rattle.isr_window.proofs.queues.Queues.least.Given as goal

-- the least of those so far and of those that are left is the least of all
abbrev pub invariant-loop-number : goal.invariant-loop-number
invariant-loop-number l = lesser l.least (least_next (drop l.number l.self)) ≡ least_next l.self
