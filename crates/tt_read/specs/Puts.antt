-- What putting a text does.
use Rattle.std.specs.Prelude.{ℕ, List, ◌++◌, Option, Result, MatchResult}
use Rattle.tt_io.specs.declared.whole.WriteFault.{WriteFault}
use Rattle.tt_io.specs.Known.{AppendsPart}
use Rattle.tt_io.specs.Passes.{Passes}

-- the text was put after what waited, or a proper prefix of both was appended
abbrev pub Puts : Result (Unit {0}) WriteFault → Option (List ℕ) → Option (List ℕ) → List ℕ → List ℕ → List ℕ → Type 0
Puts result before after waited waiting text =
    MatchResult result (λ _. Passes before after (waited ++ text) waiting)
    (λ _. AppendsPart before after (waited ++ text))
