-- A fact for one answer of filling a buffer.
use Rattle.std.specs.Prelude.{ℕ, ⊤}
use Rattle.tt_io.specs.declared.whole.Filled.{Filled}
use Rattle.tt_io.specs.declared.whole.Filled.TheVariants.{Whole, Ended, Broken}

abbrev pub OnWhole : Filled → Type 0 → Type 0
OnWhole Whole P = P
OnWhole (Ended n) P = ⊤
OnWhole Broken P = ⊤

abbrev pub IfEnded : Filled → (ℕ → Type 0) → Type 0
IfEnded Whole P = ⊤
IfEnded (Ended n) P = P n
IfEnded Broken P = ⊤

abbrev pub OnBroken : Filled → Type 0 → Type 0
OnBroken Whole P = ⊤
OnBroken (Ended n) P = ⊤
OnBroken Broken P = P
