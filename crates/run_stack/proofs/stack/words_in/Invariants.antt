use Rattle.std.proofs.Common.{◌≡◌, ◌≤◌, ◌*◌, ◌-◌, ◌^◌, take}
use Rattle.run_stack.specs.Frames.{sum_of_words}
use Rattle.run_stack.proofs.stack.words_in.Given as goal

abbrev pub invariant-loop-frame : goal.invariant-loop-frame
invariant-loop-frame l =
    (l.words ≡ sum_of_words (take l.frame-index l.frames)) × (l.words ≤ l.frame-index * (2 ^ 32 - 1))
