-- The answer to the bytes of the document of some words, where they are known.
use Rattle.std.proofs.Common.{◌≡◌, ◌≢◌, ℕ, ◌^◌, ◌≤◌, List, Option, Some, None, [], false, nat_lt, cond, length, refl, ap, sym, ◌∙◌, subst, arith}
use Rattle.std.specs.Prelude.{IfSome}
use Rattle.std.proofs.lemmas.Bool.Decides.{nat_tests}
use Rattle.tt_io.specs.Known.{WasAll}
use Rattle.tt_read.specs.Document.{document_of}
use Rattle.osektime_core.specs.declared.words.Command.{Command}
use Rattle.osektime_core.specs.declared.words.Command.TheVariants.{Trace, Show, Table, Check, Load, Bulk}
use Rattle.osektime_core.specs.declared.status.Status.TheVariants.{Done, Memory, Usage, ReadFault, WriteFault, TooLong, Form, Rule, CheckNo, Missed, Shut}
use Rattle.osektime_core.specs.declared.status.Status.{Status}
use Rattle.osektime_core.specs.NoMiss.{IsSchedulable, NoneIsMissed}
use Rattle.osektime_core.specs.Words.{command_of}
use Rattle.osektime_core.specs.BulkText.{bulk_text}
use Rattle.osektime_core.specs.Answer.{Answer, IsReading, OnAnswered, answer_of, bytes_answer, command_answer, document_answer, document_by, document_for, silent, words_answer}

-- ---- commands that read

-- a command that is not `bulk` reads
pub is_reading : (command : Command) → ((number : ℕ) → command ≢ Bulk number) → IsReading (Some command)
is_reading Trace other = tt
is_reading Show other = tt
is_reading Table other = tt
is_reading Check other = tt
is_reading Load other = tt
is_reading (Bulk number) other = absurd (other number refl)

-- it answers the bytes that it reads
reading_answer : (command : Command) (bytes : List ℕ) → IsReading (Some command)
    → command_answer command bytes ≡ bytes_answer command bytes
reading_answer Trace bytes reads = refl
reading_answer Show bytes reads = refl
reading_answer Table bytes reads = refl
reading_answer Check bytes reads = refl
reading_answer Load bytes reads = refl
reading_answer (Bulk number) bytes reads = absurd reads

-- they are those that the source has left
reading_document : (command : Command) (left : Option (List ℕ)) → IsReading (Some command)
    → document_by (Some command) left ≡ left
reading_document Trace left reads = refl
reading_document Show left reads = refl
reading_document Table left reads = refl
reading_document Check left reads = refl
reading_document Load left reads = refl
reading_document (Bulk number) left reads = absurd reads

-- ---- by the status

-- a fact of an answer that was given
pub on_answered : (status : Status) (P : Type 0) → (status ≢ Memory → status ≢ WriteFault → P) → OnAnswered status P
on_answered Done P fact = fact (λ is. cc is) (λ is. cc is)
on_answered Memory P fact = tt
on_answered Usage P fact = tt
on_answered ReadFault P fact = tt
on_answered WriteFault P fact = tt
on_answered TooLong P fact = tt
on_answered (Form line kind) P fact = fact (λ is. cc is) (λ is. cc is)
on_answered (Rule number line) P fact = fact (λ is. cc is) (λ is. cc is)
on_answered (CheckNo mode entry) P fact = fact (λ is. cc is) (λ is. cc is)
on_answered (Missed task tick) P fact = fact (λ is. cc is) (λ is. cc is)
on_answered (Shut tick) P fact = fact (λ is. cc is) (λ is. cc is)

-- nothing of what was taken is left
pub was_taken : (left after : Option (List ℕ)) (bytes : List ℕ) → WasAll left after bytes
    → IfSome left (λ all. after ≡ Some [])
was_taken None after bytes all = tt
was_taken (Some told) after bytes all = all.1

-- ---- the answer to few bytes

few_bytes : (command : Command) (bytes : List ℕ) → length bytes ≤ 2 ^ 20
    → bytes_answer command bytes ≡ document_answer command (document_of bytes)
few_bytes command bytes fits =
    let short : nat_lt (2 ^ 20) (length bytes) ≡ false = grind (arith, nat_tests) in
    ap (λ b. cond b (silent TooLong) (document_answer command (document_of bytes))) short

-- of a command that reads
pub answer_is : (words : List (List ℕ)) (command : Command) (bytes : List ℕ) → command_of words ≡ Some command
    → IsReading (Some command) → length bytes ≤ 2 ^ 20
    → answer_of words bytes ≡ document_answer command (document_of bytes)
answer_is words command bytes is reads fits =
    ap (λ c. words_answer c bytes) is ∙ reading_answer command bytes reads ∙ few_bytes command bytes fits

-- ---- facts of the bytes that are known

-- a fact of any bytes
pub any_bytes : (Q : List ℕ → Type 0) (document : Option (List ℕ)) → ((bytes : List ℕ) → Q bytes) → IfSome document Q
any_bytes Q None fact = tt
any_bytes Q (Some bytes) fact = fact bytes

-- a status that says of no deadline that it was missed
pub none_missed : (words : List (List ℕ)) (left : Option (List ℕ)) (status : Status) → NoneIsMissed status
    → IfSome (document_for words left) (λ bytes. IsSchedulable bytes → NoneIsMissed status)
none_missed words left status none =
    any_bytes (λ bytes. IsSchedulable bytes → NoneIsMissed status) (document_for words left) (λ bytes schedulable. none)

-- a fact of the bytes that a command has read
pub told_bytes : (Q : List ℕ → Type 0) (words : List (List ℕ)) (command : Command) (left after : Option (List ℕ))
    (bytes : List ℕ) → command_of words ≡ Some command → IsReading (Some command) → WasAll left after bytes → Q bytes
    → IfSome (document_for words left) Q
told_bytes Q words command left after bytes is reads all fact =
    let same : document_for words left ≡ left = ap (λ c. document_by c left) is ∙ reading_document command left reads in
    subst (λ (l : Option (List ℕ)). IfSome l Q) (sym same) (of_left Q left after bytes all fact)
  where
    of_left : (Q : List ℕ → Type 0) (left after : Option (List ℕ)) (bytes : List ℕ) → WasAll left after bytes → Q bytes
        → IfSome left Q
    of_left Q None after bytes all fact = tt
    of_left Q (Some told) after bytes all fact = subst Q (sym all.0) fact

-- a fact of the answer to them
pub told_answer : (P : Answer → Type 0) (words : List (List ℕ)) (command : Command) (left after : Option (List ℕ))
    (bytes : List ℕ) → command_of words ≡ Some command → IsReading (Some command) → WasAll left after bytes
    → length bytes ≤ 2 ^ 20 → P (document_answer command (document_of bytes))
    → IfSome (document_for words left) (λ b. P (answer_of words b))
told_answer P words command left after bytes is reads all fits fact =
    told_bytes (λ b. P (answer_of words b)) words command left after bytes is reads all
    (subst P (sym (answer_is words command bytes is reads fits)) fact)

-- ---- facts of the document of `bulk`

-- a fact of its bytes
pub bulk_bytes : (Q : List ℕ → Type 0) (words : List (List ℕ)) (left : Option (List ℕ)) (number : ℕ) (bytes : List ℕ)
    → command_of words ≡ Some (Bulk number) → bytes ≡ bulk_text number → Q bytes → IfSome (document_for words left) Q
bulk_bytes Q words left number bytes is text fact =
    subst (λ (c : Option Command). IfSome (document_by c left) Q) (sym is) (subst Q text fact)

-- a fact of the answer to it
pub bulk_answer : (P : Answer → Type 0) (words : List (List ℕ)) (left : Option (List ℕ)) (number : ℕ) (bytes : List ℕ)
    → command_of words ≡ Some (Bulk number) → bytes ≡ bulk_text number → length bytes ≤ 2 ^ 20
    → P (document_answer (Bulk number) (document_of bytes)) → IfSome (document_for words left) (λ b. P (answer_of words b))
bulk_answer P words left number bytes is text fits fact =
    let same : answer_of words bytes ≡ document_answer (Bulk number) (document_of bytes) =
    ap (λ c. words_answer c bytes) is ∙ ap (bytes_answer (Bulk number)) (sym text) ∙ few_bytes (Bulk number) bytes fits in
    bulk_bytes (λ b. P (answer_of words b)) words left number bytes is text (subst P (sym same) fact)
