use Rattle.std.proofs.Common.{◌≡◌, length, arith}
use Rattle.osektime_core.proofs.CheckTexts.{entries_all, entries_more}
use Rattle.osektime_core.proofs.TableTexts.{texts_none}
use Rattle.osektime_core.proofs.check.put_mode.Goals as goal

pub loop-entry-init : goal.loop-entry-init
loop-entry-init c = texts_none _ c.args.text.now.items

pub loop-entry-preserved : goal.loop-entry-preserved
loop-entry-preserved c =
    entries_more c.args.config.now c.args.mode c.args.table.now c.loop-entry.entry c.args.text.now.items _ _
    c.requires.table c.loop-entry.invariant c.in_ok-put_activation.ensures

pub returns : goal.returns
returns c =
    let count : c.loop-entry.entry ≡ length c.args.table.now.mode.activations =
    omega (arith, c.entries-entry-end.ensures) in
    entries_all c.args.config.now c.args.mode c.args.table.now c.loop-entry.entry c.args.text.now.items _
    c.requires.table count c.loop-entry.invariant
