use Rattle.std.proofs.Common.{◌≡◌, ℕ, Option, take}
use Rattle.tt_parts.specs.Located.{parts}
use Rattle.tt_rules.specs.Shapes.{Answers}
use Rattle.tt_config.specs.Lists.{by_number}
use Rattle.tt_config.proofs.lists.by_number.Given as goal

-- what the parts so far give each number
abbrev pub invariant-loop-at : goal.invariant-loop-at
invariant-loop-at g l =
    (place : g.row.T.Denot → Option (ℕ × g.row.U.Denot)) → Answers g.F.Fn l.place_of place
    → l.lists ≡ by_number l.count place (parts (take l.at-index l.located))
