-- Which rule rows break: the least that a line breaks, and the least of its lines.
use Rattle.std.specs.Prelude.{List, Option}
use Rattle.tt_rows.specs.declared.row.NumberedRow.{NumberedRow}
use Rattle.tt_rules.specs.declared.broken.Broken.{Broken}
use Rattle.tt_rules.specs.Document.{document_of}
use Rattle.tt_rules.specs.Table.{first_broken, the_rules}

-- the rule that rows break, if they break one
unfoldable pub broken_rule : List NumberedRow → Option Broken
broken_rule rows = first_broken 1 the_rules (document_of rows)
