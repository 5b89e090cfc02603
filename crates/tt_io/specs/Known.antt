-- What became of the bytes of a source or a sink, where they are known. Where they are not, each of these says nothing.
use Rattle.std.specs.Prelude.{◌≡◌, ℕ, ◌<◌, Option, Some, List, [], take, length, IfSome}
use Rattle.std.specs.Io.KnownBytes.{Appends, Consumes}

-- these were all the bytes left before, and none is left after
abbrev pub WasAll : Option (List ℕ) → Option (List ℕ) → List ℕ → Type 0
WasAll before after bytes = IfSome before (λ left. (left ≡ bytes) × (after ≡ Some []))

-- more than n bytes were left
abbrev pub HadMore : Option (List ℕ) → ℕ → Type 0
HadMore before n = IfSome before (λ left. n < length left)

-- the first n bytes were taken
abbrev pub TakesFirst : Option (List ℕ) → Option (List ℕ) → ℕ → Type 0
TakesFirst before after n = (bytes : List ℕ) × (length bytes ≡ n) × Consumes before after bytes

-- a proper prefix of the piece was appended
abbrev pub AppendsPart : Option (List ℕ) → Option (List ℕ) → List ℕ → Type 0
AppendsPart before after piece = (n : ℕ) × (n < length piece) × Appends before after (take n piece)
