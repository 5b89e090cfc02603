use Rattle.std.proofs.Common.{◌≡◌, ◌++◌, ap, ◌∙◌, arith, ℕ, List}
use Rattle.tt_world.specs.declared.config.Activation.{Activation}
use Rattle.tt_world.specs.Rows.{row_of}
use Rattle.round_table.specs.DueRows.{checks_of}
use Rattle.osektime_core.specs.TableText.{check_line}
use Rattle.osektime_core.proofs.TablePlaces.{text_more}
use Rattle.osektime_core.proofs.table.put_checks.Goals as goal

pub loop-place-preserved : goal.loop-place-preserved
loop-place-preserved c =
    let names = c.args.names.now in
    let table = c.args.table.now in
    let line = λ (entry : ℕ). check_line names c.args.point (row_of table.mode entry) in
    let put : c.put.new.text.items ≡ c.loop-place.text.items ++ line c.check_at.result =
    c.in_ok-put.ensures ∙ ap (λ (l : List ℕ). c.loop-place.text.items ++ l)
    (c.check_line.ensures ∙ ap (λ (row : Activation). check_line names c.args.point row)
    c.activation-row.ensures) in
    record {
      text = text_more line c.args.text.now.items _ _
          (checks_of table) c.args.from c.loop-place.place c.check_at.result c.loop-place.auto.place
          c.check_at.ensures.at c.loop-place.invariant.text put;
      within = omega arith;
    }
