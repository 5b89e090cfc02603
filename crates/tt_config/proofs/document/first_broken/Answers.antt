use Rattle.std.proofs.Common.{refl, sym, Some, None, ◌∙◌}
use Rattle.tt_rules.specs.Document.{document_of}
use Rattle.tt_config.proofs.Asked.{first_by}
use Rattle.tt_config.proofs.document.first_broken.Goals as goal

pub returns-in-Some : goal.returns-in-Some
returns-in-Some c =
    let d = document_of c.args.rows.now in
    first_by d (Some c.in-Some.broken) _ _ (sym c.in-Some.is ∙ c.in_ok-broken.ensures d refl) refl refl

pub returns-in-Some-round_broken : goal.returns-in-Some-round_broken
returns-in-Some-round_broken c =
    let d = document_of c.args.rows.now in
    first_by d None (Some c.in-Some-round_broken.broken) _ (sym c.in_default.is ∙ c.in_ok-broken.ensures d refl)
    (c.in-Some-round_broken.ensures d (sym c.requires)) refl

pub returns : goal.returns
returns c =
    let d = document_of c.args.rows.now in
    first_by d None None _ (sym c.in_default.is ∙ c.in_ok-broken.ensures d refl)
    (c.in_default-round_broken.ensures d (sym c.requires)) (c.in_ok-broken-2.ensures d (sym c.requires))
