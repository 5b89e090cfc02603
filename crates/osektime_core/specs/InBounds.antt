-- Summaries whose depth and words are at most the bounds beside them.
use Rattle.std.specs.Prelude.{ℕ, ◌≤◌, ⊤, List, Option, Some}
use Rattle.std.specs.Io.KnownBytes.{Appends}
use Rattle.osektime_core.specs.LoadText.{Summary, load_text}
use Rattle.osektime_core.specs.declared.words.Command.{Command}
use Rattle.osektime_core.specs.declared.words.Command.TheVariants.{Bulk, Load}
use Rattle.osektime_core.specs.declared.status.Status.{Status}
use Rattle.osektime_core.specs.declared.status.Status.TheVariants.{Done, Missed, Shut}

-- a command that writes the summary of a run
abbrev pub IsLoading : Option Command → Type 0
IsLoading (Some Load) = ⊤
IsLoading (Some (Bulk number)) = ⊤
IsLoading command = ⊥

-- a fact for each status of a run that has ended
abbrev pub OnRun : Status → Type 0 → Type 0
OnRun Done P = P
OnRun (Missed task tick) P = P
OnRun (Shut tick) P = P
OnRun status P = ⊤

-- the depth and the words of a run are at most their bounds
pub record IsInBounds (summary : Summary) : Type 0 where
  pub depth : summary.deepest ≤ summary.depth_bound
  pub words : summary.words ≤ summary.words_bound

-- what was written is the lines of such a summary, with some names of tasks
pub record TellsInBounds (before after : Option (List ℕ)) : Type 0 where
  pub tasks : List (List ℕ)
  pub summary : Summary
  pub in_bounds : IsInBounds summary
  pub written : Appends before after (load_text tasks summary)
