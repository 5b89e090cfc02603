use Rattle.std.proofs.Common.{ap, ◌∙◌}
use Rattle.tt_parts.specs.Bodies.{bodies_of}
use Rattle.tt_parts.specs.Located.{parts}
use Rattle.tt_parts.specs.Parts.{said_in}
use Rattle.tt_config.proofs.document.elaborate.Goals as goal

pub returns : goal.returns
returns c =
    let rows = c.args.rows.now in
    let names = c.in_ok-names.ensures ∙ ap parts c.as_slice.ensures ∙ (λ i. parts (c.requires.declared i).names) in
    let said = c.in_ok-said.ensures.said ∙ (λ i. said_in (names i) rows) in
    let demands = c.in_ok-said.ensures.demands ∙ (λ i. parts (said i).demands) in
    let bodies = c.in_ok-said.ensures.bodies ∙ (λ i. bodies_of (names i) rows) in
    λ i. record {
      declared = c.requires.declared i;
      names = names i;
      said = said i;
      demands = demands i;
      bodies = bodies i;
    }
