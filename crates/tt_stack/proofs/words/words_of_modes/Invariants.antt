use Rattle.std.proofs.Common.{◌≡◌, map, take}
use Rattle.tt_stack.specs.Words.{mode_words}
use Rattle.tt_stack.proofs.words.words_of_modes.Given as goal

abbrev pub invariant-loop-mode : goal.invariant-loop-mode
invariant-loop-mode l = l.words ≡ map (mode_words l.config) (take l.mode-index l.mode-items)
