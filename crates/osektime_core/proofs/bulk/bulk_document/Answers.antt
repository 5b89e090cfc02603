use Rattle.std.proofs.Common.{ℕ, ◌≤◌, ◌^◌, List, length, refl, sym, ap, ◌∙◌, ◌+◌, ◌*◌, ◌%◌, ◌++◌, subst}
use Rattle.osektime_core.specs.BulkText.{first_rows}
use Rattle.osektime_core.proofs.BulkTexts.{bulk_is_short, bulk_joined}
use Rattle.osektime_core.proofs.bulk.bulk_document.Goals as goal

pub returns-clause-document : goal.returns-clause-document
returns-clause-document c =
    bulk_joined c.args.number _ _ _ _ _ _ _ _ _ refl refl refl
    (c.in_ok-put_first.ensures ∙ ap (λ t. t ++ first_rows (20 * (2 + c.args.number % 31))) c.new-text.ensures.items)
    c.in_ok-put_tasks.ensures c.in_ok-put_bytes.ensures
    c.in_ok-put_activations.ensures c.in_ok-put_bytes-2.ensures c.in_ok-put_arrivals.ensures

pub returns-clause-short : goal.returns-clause-short
returns-clause-short c =
    subst (λ (text : List ℕ). length text ≤ 2 ^ 20) (sym (returns-clause-document c)) (bulk_is_short c.args.number)
