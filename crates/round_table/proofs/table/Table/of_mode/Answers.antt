use Rattle.std.proofs.Common.{sym, ◌∙◌, subst, ap, ◌++◌, List, ℕ}
use Rattle.round_table.specs.CheckLists.{AreChecks, entries_in}
use Rattle.round_table.specs.TableRows.{TableRows}
use Rattle.round_table.proofs.Placing.{checks_are, copied, end_is, kept}
use Rattle.round_table.proofs.RowOrder.{activations_rise, enables_rise}
use Rattle.round_table.proofs.table.Table.of_mode.Goals as goal

pub invariant_of-checked : goal.invariant_of-checked
invariant_of-checked c = record {
  activations = activations_rise c.args.limit c.args.mode.now c.requires;
  enables = enables_rise c.args.limit c.args.mode.now c.requires;
  checks = subst (AreChecks c.args.mode.now) (sym c.as_slice-due.ensures.value) c.in_ok-checks.ensures.due;
}

pub invariant_of-result : goal.invariant_of-result
invariant_of-result c =
    let mode = c.args.mode.now in
    let table : TableRows = record { mode = mode; limit = c.args.limit } in
    let due = c.as_slice-due.result.now in
    let are = subst (AreChecks mode) (sym c.as_slice-due.ensures.value) c.in_ok-checks.ensures.due in
    kept (copied mode _ _ c.args.limit (c.in_ok-from_slice.ensures.items ∙ c.as_slice.ensures)
    (c.in_ok-from_slice-2.ensures.items ∙ c.as_slice-2.ensures))
    (record {
      rows = c.requires;
      points_are = c.in_ok-checks.ensures.points;
      checks_are =
          checks_are table c.requires due are _ _
          (c.in_ok-entries_then.ensures ∙ ap (λ (ends : List ℕ). entries_in due ++ ends) c.deref.ensures.value)
          c.in_ok-checks.ensures.ends;
      end_is = end_is table c.requires due are;
      expiry_are = c.in_ok-expiry.ensures c.args.limit c.requires;
    })
