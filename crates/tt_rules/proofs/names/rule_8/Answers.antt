use Rattle.std.proofs.Common.{rules, arith, refl, ap, sym, ◌∙◌}
use Rattle.std.specs.Prelude.{flat_map}
use Rattle.tt_base.specs.declared.names.NameKind.TheVariants as Kind
use Rattle.std.proofs.lemmas.Grind.{common_steps}
use Rattle.tt_rules.specs.Lines.{lesser_of}
use Rattle.tt_rules.specs.Shapes.{missing, filter_at}
use Rattle.tt_rules.specs.NameRules.{is_of_kind, kinds, lines_past}
use Rattle.tt_rules.proofs.LineLemmas.{least_line_append, flat-step}
use Rattle.tt_rules.proofs.names.rule_8.Goals as goal

pub loop-kind-init : goal.loop-kind-init
loop-kind-init c =
    let d = c.args.declared.now in
    let found = c.missing_of-found.ensures (is_of_kind Kind.Mode) (search rules) in (
      refl,
      rw (found, c.as_slice-names.ensures) (sym (least_line_append
          (missing d.first (filter_at (is_of_kind Kind.Mode) d.names)) (flat_map (lines_past d) kinds))),
    )

pub loop-kind-preserved : goal.loop-kind-preserved
loop-kind-preserved c = (
  refl,
  flat-step (lines_past c.args.declared.now) kinds c.loop-kind.kind-index _ c.loop-kind-test.true c.loop-kind.found
      c.lesser-found.result _
      (c.lesser-found.ensures ∙ ap (lesser_of c.loop-kind.found) c.past_most.ensures) c.loop-kind.invariant.1,
)

pub returns : goal.returns
returns c = grind (arith, common_steps, c.loop-kind.invariant.1)
