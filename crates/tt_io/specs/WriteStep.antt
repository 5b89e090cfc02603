-- A fact for one answer of a write.
use Rattle.std.specs.Prelude.{ℕ, ⊤}
use Rattle.tt_io.specs.declared.traits.WriteStep.{WriteStep}
use Rattle.tt_io.specs.declared.traits.WriteStep.TheVariants.{Took, Failed}

abbrev pub IfTook : WriteStep → (ℕ → Type 0) → Type 0
IfTook (Took n) P = P n
IfTook Failed P = ⊤

abbrev pub OnRefused : WriteStep → Type 0 → Type 0
OnRefused (Took n) P = ⊤
OnRefused Failed P = P
