-- What accepting rows answers.
use Rattle.std.specs.Prelude.{⊤}
use Rattle.tt_rules.specs.declared.broken.Broken.{Broken}
use Rattle.tt_config.specs.declared.acceptance.AcceptFault.{AcceptFault}
use Rattle.tt_config.specs.declared.acceptance.AcceptFault.TheVariants.{Memory, Rule}

-- a fact for the rule that a fault names
abbrev pub IfRule : AcceptFault → (Broken → Type 0) → Type 0
IfRule Memory P = ⊤
IfRule (Rule number line) P = P (record { number = number; line = line })
