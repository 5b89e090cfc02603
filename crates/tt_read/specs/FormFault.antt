-- A fact for the fault of a form.
use Rattle.std.specs.Prelude.{⊤}
use Rattle.tt_read.specs.declared.form.FormFault.{FormFault}
use Rattle.tt_read.specs.declared.form.FormFault.TheVariants.{Memory, Form}
use Rattle.tt_read.specs.Document.{Fault}

abbrev pub IfForm : FormFault → (Fault → Type 0) → Type 0
IfForm Memory P = ⊤
IfForm (Form line kind) P = P (record { line = line; kind = kind })
