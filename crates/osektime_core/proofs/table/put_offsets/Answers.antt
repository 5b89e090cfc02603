use Rattle.std.proofs.Common.{arith}
use Rattle.osektime_core.specs.TableText.{lines_at}
use Rattle.osektime_core.proofs.TableTexts.{lines_on, next_within, texts_none}
use Rattle.osektime_core.proofs.table.put_offsets.Goals as goal

pub loop-next-init : goal.loop-next-init
loop-next-init c = record {
  text = texts_none (lines_at c.args.names.now c.args.table.now.mode) c.args.text.now.items;
  within = omega arith;
}

pub loop-next-preserved : goal.loop-next-preserved
loop-next-preserved c =
    let table = c.args.table.now in
    record {
      text =
          lines_on c.args.names.now table.mode table.limit c.in-Some.offset c.loop-next.next c.next_after-next.result
          c.args.text.now.items _ _ c.in-Some.is
          c.loop-next.invariant.within c.loop-next.invariant.text c.in_ok-put_offset.ensures
          c.next_after-next.ensures.ahead c.next_after-next.ensures.free;
      within = next_within table.limit c.in-Some.offset c.next_after-next.result c.next_after-next.ensures.ahead;
    }
