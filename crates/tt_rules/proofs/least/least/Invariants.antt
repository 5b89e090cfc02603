use Rattle.std.proofs.Common.{◌≡◌, drop}
use Rattle.tt_rules.specs.Lines.{least_of, lesser_of}
use Rattle.tt_rules.proofs.least.least.Given as goal

abbrev pub invariant-loop-line : goal.invariant-loop-line
invariant-loop-line l = lesser_of l.least (least_of (drop l.line-index l.lines)) ≡ least_of l.lines
