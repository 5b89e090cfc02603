-- The words of a line that is not too long.
use Rattle.std.proofs.Common.{◌≡◌, ℕ, ◌≤◌, ◌+◌, List, length, None, arith}
use Rattle.std.specs.Prelude.{nat_le}
use Rattle.std.proofs.lemmas.Bool.{cond-true, le-leb}
use Rattle.std.proofs.lemmas.List.Edits.{length-between}
use Rattle.tt_doc.specs.declared.lines.Span.{Span}
use Rattle.tt_doc.specs.Span.{text_of}
use Rattle.tt_doc.specs.Words.{words_of, joined}
use Rattle.tt_doc.proofs.WordLaws.{length-joined-words_of}
use Rattle.tt_read.specs.Reading.{row_by_words, row_of}

-- the words of a line of at most 200 bytes are a row where they are one whatever the length of the line
pub row_of_line : (bytes : List ℕ) (span : Span) → span.end ≤ span.start + 200 → span.end ≤ length bytes
    → row_of (words_of (text_of bytes span)) ≡ row_by_words (words_of (text_of bytes span))
unfolding row_of
row_of_line bytes span short inside =
    let words = words_of (text_of bytes span) in
    cond-true (nat_le (length (joined words)) 200) (row_by_words words) None
    (le-leb (length (joined words)) 200
    (omega (arith, length-joined-words_of (text_of bytes span), length-between bytes span.start span.end inside)))
