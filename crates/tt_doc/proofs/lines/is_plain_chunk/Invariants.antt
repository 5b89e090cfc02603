use Rattle.std.proofs.Common.{◌≡◌, take}
use Rattle.std.specs.List.{list_all}
use Rattle.tt_doc.specs.Lines.{is_plain_byte}
use Rattle.tt_doc.proofs.lines.is_plain_chunk.Given as goal

abbrev pub invariant-loop-b : goal.invariant-loop-b
invariant-loop-b l = l.is_plain ≡ list_all is_plain_byte (take l.b-index l.chunk)
