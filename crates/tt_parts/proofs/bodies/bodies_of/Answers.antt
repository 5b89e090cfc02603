use Rattle.std.proofs.Common.{[], ◌∷◌, ◌++◌, ap, sym, ◌∙◌}
use Rattle.std.proofs.lemmas.List.{append-nil, append_assoc}
use Rattle.tt_parts.proofs.bodies.bodies_of.Goals as goal

pub loop-row-init : goal.loop-row-init
loop-row-init c = ([], sym (append-nil c.args.rows.now), c.new-blocks.ensures, c.new-bodies.ensures)

pub loop-row-preserved : goal.loop-row-preserved
loop-row-preserved c = let before = c.loop-row.invariant in (
  c.in-Some.row.now ∷ before.0,
  before.1 ∙ ap (λ left. left ++ before.0) c.in-Some.ensures.cases.0 ∙ append_assoc _ _ before.0,
  rw before.2 at c.in_ok-put_numbered.ensures.blocks,
  rw (before.2, before.3) at c.in_ok-put_numbered.ensures.bodies,
)
