use Rattle.std.proofs.Common.{◌≡◌, ◌++◌, ap, ◌∙◌, arith, ℕ, List}
use Rattle.tt_base.specs.declared.number.IsrNo.{IsrNo}
use Rattle.round_table.specs.DueRows.{enables_of}
use Rattle.osektime_core.specs.TableText.{enable_line}
use Rattle.osektime_core.proofs.TablePlaces.{text_more}
use Rattle.osektime_core.proofs.table.put_enables.Goals as goal

pub loop-place-preserved : goal.loop-place-preserved
loop-place-preserved c =
    let line = λ (isr : IsrNo). enable_line c.args.names.now c.args.offset isr in
    let put : c.put.new.text.items ≡ c.loop-place.text.items ++ line c.enable_at.result =
    c.in_ok-put.ensures ∙ ap (λ (l : List ℕ). c.loop-place.text.items ++ l) c.enable_line.ensures in
    record {
      text =
          text_more line c.args.text.now.items _ _
          (enables_of c.args.table.now) c.args.from c.loop-place.place c.enable_at.result c.loop-place.auto.place
          c.enable_at.ensures
          c.loop-place.invariant.text put;
      within = omega arith;
    }
