-- What a source gave to a command that reads, and what the command answered: for every source, also for one that does
-- not say what it has left, as standard input.
use Rattle.std.specs.Prelude.{◌≡◌, ◌≤◌, ℕ, List, [], ◌∷◌, ◌++◌, ◌+◌, ◌^◌, Option, Some, None, length, map, nat_lt, if◌then◌else◌}
use Rattle.tt_io.specs.Gave.{GivesAll}
use Rattle.tt_io.specs.Known.{AppendsPart}
use Rattle.osektime_core.specs.declared.status.Status.{Status}
use Rattle.osektime_core.specs.Answer.{IsAnswered, answer_of}
use Rattle.osektime_core.specs.NoMiss.{IsSchedulable, NoneIsMissed}

-- where reading stops: at the first end, or before it, at one byte more than a document has
abbrev pub stop_after : List ℕ → List (Option ℕ)
stop_after bytes = if nat_lt (2 ^ 20) (length bytes) then [] else None ∷ []

-- these bytes were given, and no read came after the one that stopped; the status and the whole text are the answer to
-- them; and a deadline that their check excludes from being missed was not missed
pub record Heard (words : List (List ℕ)) (status : Status) (gave now : List (Option ℕ)) (before after : Option (List ℕ))
    : Type 0 where
  pub bytes : List ℕ
  pub few : length bytes ≤ 2 ^ 20 + 1
  pub given : now ≡ gave ++ (map Some bytes ++ stop_after bytes)
  pub answered : IsAnswered words (Some bytes) status before after
  pub no_miss : IsSchedulable bytes → NoneIsMissed status

-- these bytes were given to their end, and a proper prefix of the text of the answer to them was written
pub record HeardPart (words : List (List ℕ)) (gave now : List (Option ℕ)) (before after : Option (List ℕ))
    : Type 0 where
  pub bytes : List ℕ
  pub given : GivesAll gave now bytes
  pub part : AppendsPart before after (answer_of words bytes).text
