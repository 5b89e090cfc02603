-- The answer to the bytes that a source gave.
use Rattle.std.proofs.Common.{◌≡◌, ℕ, ◌^◌, ◌≤◌, List, [], ◌∷◌, ◌++◌, Option, Some, None, false, nat_lt, cond, length, map, refl, ap, sym, ◌∙◌, arith}
use Rattle.std.proofs.lemmas.Bool.Decides.{nat_tests}
use Rattle.std.specs.Io.KnownBytes.{Appends}
use Rattle.tt_io.specs.Gave.{GivesAll}
use Rattle.tt_read.specs.Document.{document_of}
use Rattle.osektime_core.specs.declared.words.Command.{Command}
use Rattle.osektime_core.specs.declared.status.Status.{Status}
use Rattle.osektime_core.specs.Words.{command_of}
use Rattle.osektime_core.specs.Answer.{IsReading, document_answer}
use Rattle.osektime_core.specs.Heard.{Heard, stop_after}
use Rattle.osektime_core.specs.NoMiss.{IsSchedulable, NoneIsMissed}
use Rattle.osektime_core.proofs.Told.{told_answer}

-- few bytes are given to their end
few_end : (bytes : List ℕ) → length bytes ≤ 2 ^ 20 → stop_after bytes ≡ None ∷ []
few_end bytes fits =
    let short : nat_lt (2 ^ 20) (length bytes) ≡ false = grind (arith, nat_tests) in
    ap (λ b. cond b [] (None ∷ [])) short

module _ (words : List (List ℕ)) (command : Command) (gave now : List (Option ℕ)) (bytes : List ℕ)
    (is : command_of words ≡ Some command) (reads : IsReading (Some command)) where
  -- the answer to a document was given
  pub heard_whole : (status : Status) (before after : Option (List ℕ)) → length bytes ≤ 2 ^ 20 → GivesAll gave now bytes
      → (status ≡ (document_answer command (document_of bytes)).status)
      × Appends before after (document_answer command (document_of bytes)).text
      → (IsSchedulable bytes → NoneIsMissed status) → Heard words status gave now before after
  heard_whole status before after fits all answered no_miss = record {
    bytes = bytes;
    few = omega (arith, fits);
    given = all ∙ ap (λ l. gave ++ (map Some bytes ++ l)) (sym (few_end bytes fits));
    answered = told_answer (λ a. (status ≡ a.status) × Appends before after a.text) words command (Some bytes) (Some [])
        bytes is reads (refl, refl) fits answered;
    no_miss = no_miss;
  }
