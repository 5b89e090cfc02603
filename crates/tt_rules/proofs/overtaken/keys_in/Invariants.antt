use Rattle.std.proofs.Common.{take}
use Rattle.tt_rules.specs.ActivationKeys.{HasKeys}
use Rattle.tt_rules.proofs.overtaken.keys_in.Given as goal

-- the keys of the entries so far
abbrev pub invariant-loop-at : goal.invariant-loop-at
invariant-loop-at l = HasKeys l.keys (take l.at-index l.entries)
