-- The moves that a command counts are those of the run of its document.
use Rattle.std.proofs.Common.{◌≡◌, ℕ, ◌^◌, ◌≤◌, false, nat_lt, cond, List, [], ◌∷◌, ◌++◌, Option, Some, None, length, map, refl, ap, sym, ◌∙◌, subst, arith}
use Rattle.std.specs.Prelude.{IfSome}
use Rattle.std.proofs.lemmas.Bool.Decides.{nat_tests}
use Rattle.std.proofs.lemmas.List.{append_cancel_left}
use Rattle.tt_io.specs.Gave.{GivesAll, bytes_in}
use Rattle.tt_read.specs.Document.{document_of}
use Rattle.stack_dispatch.specs.Reports.{Benched}
use Rattle.osektime_core.specs.declared.words.Command.{Command}
use Rattle.osektime_core.specs.declared.words.Command.TheVariants.{Bulk}
use Rattle.osektime_core.specs.declared.status.Status.{Status}
use Rattle.osektime_core.specs.Answer.{document_for}
use Rattle.osektime_core.specs.InBounds.{OnRun}
use Rattle.osektime_core.specs.Moves.{CountsMoves, document_run, run_of, words_run}
use Rattle.osektime_core.specs.Words.{command_of}
use Rattle.osektime_core.specs.BulkText.{bulk_text}
use Rattle.osektime_core.proofs.Told.{any_bytes, bulk_bytes}

-- nothing was counted, and no run has ended
pub none_counted : (run : Option Benched) (status : Status) (before after : ℕ) → ((P : Type 0) → OnRun status P)
    → after ≡ before → CountsMoves run status before after
none_counted None status before after no_end same = same
none_counted (Some b) status before after no_end same = (omega (arith, same), no_end _)

-- nothing was counted for a document, whichever it is
pub none_for : (words : List (List ℕ)) (left : Option (List ℕ)) (status : Status) (before after : ℕ)
    → ((P : Type 0) → OnRun status P) → after ≡ before
    → IfSome (document_for words left) (λ bytes. CountsMoves (run_of words bytes) status before after)
none_for words left status before after no_end same =
    any_bytes (λ bytes. CountsMoves (run_of words bytes) status before after) (document_for words left)
    (λ bytes. none_counted (run_of words bytes) status before after no_end same)

-- what the words run of few bytes is what their command runs of the document
pub run_is : (words : List (List ℕ)) (command : Command) (bytes : List ℕ) → command_of words ≡ Some command
    → length bytes ≤ 2 ^ 20 → run_of words bytes ≡ document_run command (document_of bytes)
run_is words command bytes is fits =
    let short : nat_lt (2 ^ 20) (length bytes) ≡ false = grind (arith, nat_tests) in
    ap (λ c. words_run c bytes) is ∙ ap (λ b. cond b None (document_run command (document_of bytes))) short

-- the bytes in a history of these bytes and an end
bytes_of_all : (bytes : List ℕ) → bytes_in (map Some bytes ++ None ∷ []) ≡ bytes
bytes_of_all [] = refl
bytes_of_all (b ∷ bytes) = ap (λ l. b ∷ l) (bytes_of_all bytes)

-- what a source gave to its first end is one list of bytes
pub same_bytes : (before after : List (Option ℕ)) (a b : List ℕ) → GivesAll before after a → GivesAll before after b
    → a ≡ b
same_bytes before after a b first second =
    sym (bytes_of_all a) ∙ ap bytes_in (append_cancel_left before _ _ (sym first ∙ second)) ∙ bytes_of_all b

-- what was counted for the bytes that were taken was counted for those that the source gave
pub heard_counted : (words : List (List ℕ)) (command : Command) (gave now : List (Option ℕ)) (bytes given : List ℕ)
    (status : Status) (before after : ℕ) → command_of words ≡ Some command → length bytes ≤ 2 ^ 20
    → GivesAll gave now bytes → GivesAll gave now given
    → CountsMoves (document_run command (document_of bytes)) status before after
    → CountsMoves (run_of words given) status before after
heard_counted words command gave now bytes given status before after is fits taken all counted =
    subst (λ b. CountsMoves (run_of words b) status before after) (same_bytes gave now bytes given taken all)
    (subst (λ r. CountsMoves r status before after) (sym (run_is words command bytes is fits)) counted)

-- what was counted for the document of `bulk`
pub bulk_counted : (words : List (List ℕ)) (left : Option (List ℕ)) (number : ℕ) (bytes : List ℕ) (status : Status)
    (before after : ℕ) → command_of words ≡ Some (Bulk number) → bytes ≡ bulk_text number → length bytes ≤ 2 ^ 20
    → CountsMoves (document_run (Bulk number) (document_of bytes)) status before after
    → IfSome (document_for words left) (λ b. CountsMoves (run_of words b) status before after)
bulk_counted words left number bytes status before after is text fits counted =
    bulk_bytes (λ b. CountsMoves (run_of words b) status before after) words left number bytes is text
    (subst (λ r. CountsMoves r status before after) (sym (run_is words (Bulk number) bytes is fits)) counted)
