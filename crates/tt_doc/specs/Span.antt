-- A stretch of a document.
use Rattle.std.specs.Prelude.{ℕ, List, slice_range}
use Rattle.tt_doc.specs.declared.lines.Span.{Span}

-- its bytes
abbrev pub text_of : List ℕ → Span → List ℕ
text_of bytes span = slice_range bytes span.start span.end
