-- What goes through a buffer to a sink.
use Rattle.std.specs.Prelude.{◌≡◌, ℕ, Option, List, ◌++◌}
use Rattle.std.specs.Io.KnownBytes.{Appends}

-- a prefix of these bytes was appended to the sink, where the bytes written are known; the others wait
pub record Passes (before after : Option (List ℕ)) (all waiting : List ℕ) : Type 0 where
  pub sent : List ℕ
  pub split : all ≡ sent ++ waiting
  pub appended : Appends before after sent
