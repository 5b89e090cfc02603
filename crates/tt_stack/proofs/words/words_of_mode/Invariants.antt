use Rattle.std.proofs.Common.{◌≡◌, map, take}
use Rattle.tt_stack.specs.Words.{row_words}
use Rattle.tt_stack.proofs.words.words_of_mode.Given as goal

abbrev pub invariant-loop-row : goal.invariant-loop-row
invariant-loop-row l = l.words ≡ map (row_words l.config) (take l.row-index l.row-items)
