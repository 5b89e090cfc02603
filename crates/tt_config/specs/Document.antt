-- What the rows of a document say, elaborated.
use Rattle.std.specs.Prelude.{List}
use Rattle.tt_rows.specs.declared.row.NumberedRow.{NumberedRow}
use Rattle.tt_parts.specs.Located.{parts}
use Rattle.tt_rules.specs.Document.{Document, document_of, names_of}
use Rattle.tt_config.specs.declared.document.Elaborated.{Elaborated}

abbrev pub elaborated : Document → Elaborated
elaborated d = record {
  declared = d.declared;
  names = names_of d;
  said = d.said;
  demands = parts d.said.demands;
  bodies = d.bodies;
}

abbrev pub elaborated_of : List NumberedRow → Elaborated
elaborated_of rows = elaborated (document_of rows)
