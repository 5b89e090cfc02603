-- What the next line of a document says.
use Rattle.std.specs.Prelude.{◌≡◌, ℕ, List, ◌∷◌, Some}
use Rattle.tt_doc.specs.Lines.{Line as LineOfText, fault_of}
use Rattle.tt_doc.specs.declared.lines.LineKind.{LineKind}
use Rattle.tt_doc.specs.declared.lines.LineStep.{LineStep}
use Rattle.tt_doc.specs.declared.lines.LineStep.TheVariants.{End, Line, Fault}
use Rattle.tt_doc.specs.declared.lines.Span.{Span}

-- what holds of the line and of the place after it, where there is a good line
abbrev pub IfLine : LineStep → (Span → ℕ → Type 0) → Type 0
IfLine End P = Unit {0}
IfLine (Line span next) P = P span next
IfLine (Fault kind) P = Unit {0}

-- what holds of the kind of fault, where there is one
abbrev pub IfFault : LineStep → (LineKind → Type 0) → Type 0
IfFault End P = Unit {0}
IfFault (Line span next) P = Unit {0}
IfFault (Fault kind) P = P kind

-- the lines begin with one that has a fault of this kind
pub record BeginsWithFault (lines : List LineOfText) (kind : LineKind) : Type 0 where
  pub line : LineOfText
  pub rest : List LineOfText
  pub is : lines ≡ line ∷ rest
  pub fault : fault_of line ≡ Some kind
