use Rattle.std.proofs.Common.{◌≡◌, List, [], drop, Option, Some}
use Rattle.std.specs.List.{list_any}
use Rattle.std.specs.HashSet.{contains}
use Rattle.tt_rules.specs.Lines.{least_line, lesser_of}
use Rattle.tt_rules.specs.Shapes.{Answers, repeating, same_by, same_keys}
use Rattle.tt_rules.proofs.shapes.repeating.Given as goal

-- the set has the keys of the parts above
abbrev pub invariant-loop-at : goal.invariant-loop-at
invariant-loop-at g l =
    (key : g.row.T.Denot → Option g.row.K.Denot) → Answers g.F.Fn l.key_of key → (above : List g.row.T.Denot)
    × ((q : g.row.K.Denot) → contains g.K.PartialEq.eq l.seen q
    ≡ list_any (λ other. same_keys g.K.PartialEq.eq (key other) (Some q)) above)
    × (lesser_of l.least (least_line (repeating (same_by g.K.PartialEq.eq key) above (drop l.at-index l.parts)))
    ≡ least_line (repeating (same_by g.K.PartialEq.eq key) [] l.parts))
