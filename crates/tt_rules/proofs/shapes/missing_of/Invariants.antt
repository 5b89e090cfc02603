use Rattle.std.proofs.Common.{◌≡◌, Bool, drop}
use Rattle.tt_rules.specs.Shapes.{Answers, filter_at}
use Rattle.tt_rules.proofs.shapes.missing_of.Given as goal

-- no part so far passes
abbrev pub invariant-loop-at : goal.invariant-loop-at
invariant-loop-at g l = (passes : g.row.T.Denot → Bool) → Answers g.F.Fn l.test passes
    → filter_at passes (drop l.at-index l.parts) ≡ filter_at passes l.parts
