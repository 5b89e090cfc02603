-- A fact for one answer of a note.
use Rattle.std.specs.Prelude.{⊤}
use Rattle.trace_text.specs.declared.recorder.Noted.{Noted}
use Rattle.trace_text.specs.declared.recorder.Noted.TheVariants.{Kept, Failed}

abbrev pub OnKept : Noted → Type 0 → Type 0
OnKept Kept P = P
OnKept Failed P = ⊤

abbrev pub OnFailed : Noted → Type 0 → Type 0
OnFailed Kept P = ⊤
OnFailed Failed P = P
