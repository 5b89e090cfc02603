use Rattle.std.proofs.Common.{◌≡◌, ◌+◌, drop}
use Rattle.tt_rules.specs.Table.{first_some}
use Rattle.tt_rules.proofs.broken.first_some.Given as goal

-- the rules that are left decide
abbrev pub invariant-loop-line : goal.invariant-loop-line
invariant-loop-line l = record {
  rest : first_some l.number (drop l.line-index l.lines) ≡ first_some l.fn.number l.lines;
  numbered : l.number ≡ l.fn.number + l.line-index;
}
