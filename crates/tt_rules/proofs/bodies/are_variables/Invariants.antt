use Rattle.std.proofs.Common.{◌≡◌, drop}
use Rattle.std.specs.Prelude.{flat_map}
use Rattle.std.specs.List.{list_all}
use Rattle.tt_rules.specs.BodyRules.{is_declared, used_by_term}
use Rattle.tt_rules.proofs.bodies.are_variables.Given as goal

-- the names so far are variables
abbrev pub invariant-loop-term : goal.invariant-loop-term
invariant-loop-term l =
    list_all (is_declared l.names) (flat_map used_by_term (drop l.term-index l.terms))
    ≡ list_all (is_declared l.names) (flat_map used_by_term l.terms)
