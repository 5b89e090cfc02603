-- A fact for one answer of a read.
use Rattle.std.specs.Prelude.{ℕ, ⊤}
use Rattle.tt_io.specs.declared.traits.ReadStep.{ReadStep}
use Rattle.tt_io.specs.declared.traits.ReadStep.TheVariants.{Got, End, Failed}

abbrev pub IfGot : ReadStep → (ℕ → Type 0) → Type 0
IfGot (Got n) P = P n
IfGot End P = ⊤
IfGot Failed P = ⊤

abbrev pub OnEnd : ReadStep → Type 0 → Type 0
OnEnd (Got n) P = ⊤
OnEnd End P = P
OnEnd Failed P = ⊤

abbrev pub OnFailed : ReadStep → Type 0 → Type 0
OnFailed (Got n) P = ⊤
OnFailed End P = ⊤
OnFailed Failed P = P
