-- The kinds of faults.
use Rattle.tt_doc.specs.declared.lines.LineKind.{LineKind}
use Rattle.tt_doc.specs.declared.lines.LineKind.TheVariants as line_kind
use Rattle.tt_read.specs.declared.form.FormKind.{FormKind}
use Rattle.tt_read.specs.declared.form.FormKind.TheVariants as kind

-- a fault that a line has by itself is one of its form
abbrev pub kind_of : LineKind → FormKind
kind_of line_kind.Byte = kind.Byte
kind_of line_kind.Long = kind.Long
kind_of line_kind.Cut = kind.Cut
