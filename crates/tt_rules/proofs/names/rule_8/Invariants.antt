use Rattle.std.proofs.Common.{◌≡◌, drop}
use Rattle.std.specs.Prelude.{flat_map}
use Rattle.tt_rules.specs.Lines.{least_line, lesser_of}
use Rattle.tt_rules.specs.NameRules.{kinds, lines_8, lines_past}
use Rattle.tt_rules.proofs.names.rule_8.Given as goal

-- the kinds that are left decide
abbrev pub invariant-loop-kind : goal.invariant-loop-kind
invariant-loop-kind l =
    (l.kind-items ≡ kinds)
    × (lesser_of l.found (least_line (flat_map (lines_past l.declared) (drop l.kind-index l.kind-items)))
    ≡ least_line (lines_8 l.declared))
