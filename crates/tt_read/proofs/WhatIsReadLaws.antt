-- What reading a document gives, for all its lines at once.
use Rattle.std.proofs.Common.{◌≡◌, ◌↔◌, ℕ, zero, suc, ◌+◌, ◌<◌, ◌≤◌, Bool, true, false, not, cond, List, [], ◌∷◌, length, Option, Some, None, refl, sym, ap, ◌∙◌, subst, arith}
use Rattle.std.specs.Prelude.{nat_lt, slice_get, is_some, Contains}
use Rattle.std.specs.List.{list_all}
use Rattle.std.proofs.lemmas.Bool.{cond-false, false≢true, lt-ltb, ltb-true}
use Rattle.tt_doc.specs.declared.lines.LineKind.{LineKind}
use Rattle.tt_doc.specs.declared.lines.LineKind.TheVariants as line_kind
use Rattle.tt_doc.specs.Lines.{Line, lines_of, is_plain_byte}
use Rattle.tt_doc.specs.Words.{is_comment, words_of}
use Rattle.tt_rows.specs.declared.row.Row.{Row}
use Rattle.tt_rows.specs.declared.row.NumberedRow.{NumberedRow}
use Rattle.tt_read.specs.declared.form.FormKind.{FormKind}
use Rattle.tt_read.specs.declared.form.FormKind.TheVariants as kind
use Rattle.tt_read.specs.Document.{row_of_words, word_fault, fault_by, fault_of_line, Fault, fault_or, first_fault, row_then, rows_of, Rows, Faulty, document_by, document_of}
use Rattle.tt_read.specs.Reading.{row_of}
use Rattle.tt_read.specs.Spells.{Spells}
use Rattle.tt_read.specs.WhatIsRead.{number_of_kind, HasFault, IsGood, HasLeastFault, IsSpelledIn, AreReadAs, IsFirstFault}
use Rattle.tt_read.proofs.Found.{row_of-spells}
use Rattle.tt_read.proofs.Complete.{row_of-spelled}
use Rattle.tt_read.proofs.CanonicalLaws.{spelling_is_no_comment}
use Rattle.tt_read.proofs.ReadLaws.{row_of_words-spells, document_of-sound}

-- the faults of one line

-- what the tests of a line decide of its faults
record Decide (line : Line) (plain long ended : Bool) (words : Option FormKind) : Type 0 where
  by_bytes : (plain ≡ false) ↔ HasFault line kind.Byte
  by_len : (long ≡ true) ↔ HasFault line kind.Long
  by_end : (ended ≡ false) ↔ HasFault line kind.Cut
  by_words : (words ≡ Some kind.Row) ↔ HasFault line kind.Row
  only : (fault : FormKind) → words ≡ Some fault → fault ≡ kind.Row

abbrev line_fault : Bool → Bool → Bool → Option LineKind
line_fault plain long ended =
    cond (not plain) (Some line_kind.Byte) (cond long (Some line_kind.Long) (cond ended None (Some line_kind.Cut)))

abbrev fault_from : Option LineKind → Option FormKind → Option FormKind
fault_from (Some line_kind.Byte) words = Some kind.Byte
fault_from (Some line_kind.Long) words = Some kind.Long
fault_from (Some line_kind.Cut) words = Some kind.Cut
fault_from None words = words

-- no fault has a smaller number than n, where each one with a smaller number is ruled out by itself
none_before : (line : Line) (n : ℕ) → n ≤ 4 → (1 < n → HasFault line kind.Byte → ⊥)
    → (2 < n → HasFault line kind.Long → ⊥)
    → (3 < n → HasFault line kind.Cut → ⊥) → (other : FormKind) → number_of_kind other < n → HasFault line other → ⊥
none_before line n small no_byte no_long no_cut kind.Byte less has = no_byte less has
none_before line n small no_byte no_long no_cut kind.Long less has = no_long less has
none_before line n small no_byte no_long no_cut kind.Cut less has = no_cut less has
none_before line n small no_byte no_long no_cut kind.Row less has = absurd (omega arith)

-- the fault that the tests find is the least
least_found : {line : Line} (plain long ended : Bool) (words : Option FormKind) (fault : FormKind)
    → Decide line plain long ended words
    → fault_from (line_fault plain long ended) words ≡ Some fault → HasLeastFault line fault
least_found {line} false long ended words fault tests found =
    let one : kind.Byte ≡ fault = cc in
    subst (HasLeastFault line) one (record {
      has = tests.by_bytes.0 refl;
      least = none_before line 1 (omega arith) (λ less has. absurd (omega arith)) (λ less has. absurd (omega arith))
          (λ less has. absurd (omega arith));
    })
least_found {line} true true ended words fault tests found =
    let one : kind.Long ≡ fault = cc in
    subst (HasLeastFault line) one (record {
      has = tests.by_len.0 refl;
      least = none_before line 2 (omega arith) (λ less has. false≢true (sym (tests.by_bytes.1 has)))
          (λ less has. absurd (omega arith))
          (λ less has. absurd (omega arith));
    })
least_found {line} true false false words fault tests found =
    let one : kind.Cut ≡ fault = cc in
    subst (HasLeastFault line) one (record {
      has = tests.by_end.0 refl;
      least = none_before line 3 (omega arith) (λ less has. false≢true (sym (tests.by_bytes.1 has)))
          (λ less has. false≢true (tests.by_len.1 has))
          (λ less has. absurd (omega arith));
    })
least_found {line} true false true words fault tests found =
    let one = tests.only fault found in
    subst (HasLeastFault line) (sym one) (record {
      has = tests.by_words.0 (found ∙ ap Some one);
      least = none_before line 4 (omega arith) (λ less has. false≢true (sym (tests.by_bytes.1 has)))
          (λ less has. false≢true (tests.by_len.1 has))
          (λ less has. false≢true (sym (tests.by_end.1 has)));
    })

-- where the tests find no fault, the line has none
good_found : {line : Line} (plain long ended : Bool) (words : Option FormKind) → Decide line plain long ended words
    → fault_from (line_fault plain long ended) words ≡ None → IsGood line
good_found false long ended words tests found fault has = cc
good_found true true ended words tests found fault has = cc
good_found true false false words tests found fault has = cc
good_found true false true words tests found kind.Byte has = absurd (false≢true (sym (tests.by_bytes.1 has)))
good_found true false true words tests found kind.Long has = absurd (false≢true (tests.by_len.1 has))
good_found true false true words tests found kind.Cut has = absurd (false≢true (sym (tests.by_end.1 has)))
good_found true false true words tests found kind.Row has = let none = sym found ∙ tests.by_words.1 has in cc

abbrev word_fault_by : Bool → Option Row → Option FormKind
word_fault_by comment row = cond comment None (cond (is_some row) None (Some kind.Row))

-- words have a fault where they are no comment and spell no row
words_decide : (words : List (List ℕ)) (comment : Bool) (row : Option Row) → is_comment words ≡ comment
    → row_of words ≡ row
    → (word_fault_by comment row ≡ Some kind.Row) ↔ ((is_comment words ≡ false) × ((r : Row) → Spells words r → ⊥))
words_decide words true row is_comment_so is_row = (λ found. cc, λ has. absurd (false≢true (sym has.0 ∙ is_comment_so)))
words_decide words false None is_comment_so is_row =
    (λ found. (is_comment_so, λ r spells. let some = sym is_row ∙ row_of-spelled words r spells in cc), λ has. refl)
words_decide words false (Some found) is_comment_so is_row =
    (λ none. cc, λ has. absurd (has.1 found (row_of-spells words found is_row)))

only_row : (comment : Bool) (row : Option Row) (fault : FormKind) → word_fault_by comment row ≡ Some fault
    → fault ≡ kind.Row
only_row true row fault found = cc
only_row false None fault found = cc
only_row false (Some r) fault found = cc

decide : (line : Line) → Decide line (list_all is_plain_byte line.text) (nat_lt 200 (length line.text)) line.ended
    (word_fault (words_of line.text))
decide line =
    let words = words_of line.text in
    record {
      by_bytes = (λ e. e, λ e. e);
      by_len = (ltb-true 200 (length line.text), lt-ltb 200 (length line.text));
      by_end = (λ e. e, λ e. e);
      by_words = words_decide words (is_comment words) (row_of words) refl refl;
      only = only_row (is_comment words) (row_of words);
    }

fault_by-from : (o : Option LineKind) (words : List (List ℕ)) → fault_by o words ≡ fault_from o (word_fault words)
fault_by-from None words = refl
fault_by-from (Some line_kind.Byte) words = refl
fault_by-from (Some line_kind.Long) words = refl
fault_by-from (Some line_kind.Cut) words = refl

fault_of_line-least : (line : Line) (fault : FormKind) → fault_of_line line ≡ Some fault → HasLeastFault line fault
fault_of_line-least line fault found =
    least_found (list_all is_plain_byte line.text) (nat_lt 200 (length line.text)) line.ended
    (word_fault (words_of line.text)) fault (decide line)
    (sym (fault_by-from _ (words_of line.text)) ∙ found)

fault_of_line-none : (line : Line) → fault_of_line line ≡ None → IsGood line
fault_of_line-none line found =
    good_found (list_all is_plain_byte line.text) (nat_lt 200 (length line.text)) line.ended
    (word_fault (words_of line.text)) (decide line)
    (sym (fault_by-from _ (words_of line.text)) ∙ found)

-- the faults of all lines

all_good_then : (n : ℕ) (line : Line) (lines : List Line) (o : Option FormKind) (later : Option Fault)
    → fault_of_line line ≡ o
    → fault_or n o later ≡ None
    → (later ≡ None → (place : ℕ) (other : Line) → slice_get lines place ≡ Some other → IsGood other)
    → (place : ℕ) (other : Line) → slice_get (line ∷ lines) place ≡ Some other → IsGood other
all_good_then n line lines (Some fault) later is none rest place other there = cc
all_good_then n line lines None later is none rest zero other there =
    let one : line ≡ other = cc in subst IsGood one (fault_of_line-none line is)
all_good_then n line lines None later is none rest (suc place) other there = rest none place other there

-- where there is no first fault, no line has a fault
all_good : (n : ℕ) (lines : List Line) → first_fault n lines ≡ None → (place : ℕ) (line : Line)
    → slice_get lines place ≡ Some line → IsGood line
all_good n [] none place line there = cc
all_good n (first ∷ rest) none place line there =
    all_good_then n first rest (fault_of_line first) (first_fault (n + 1) rest) refl none
    (all_good (n + 1) rest) place line there

earlier_good : (line : Line) (lines : List Line) (last : ℕ) → IsGood line
    → ((earlier : ℕ) (other : Line) → earlier < last → slice_get lines earlier ≡ Some other → IsGood other)
    → (earlier : ℕ) (other : Line) → earlier < suc last → slice_get (line ∷ lines) earlier ≡ Some other → IsGood other
earlier_good line lines last good rest zero other below there = let one : line ≡ other = cc in subst IsGood one good
earlier_good line lines last good rest (suc earlier) other below there = rest earlier other (omega arith) there

first_fault_then : (n : ℕ) (line : Line) (lines : List Line) (o : Option FormKind) (later : Option Fault)
    (fault : Fault)
    → fault_of_line line ≡ o → fault_or n o later ≡ Some fault → (later ≡ Some fault → IsFirstFault (n + 1) lines fault)
    → IsFirstFault n (line ∷ lines) fault
first_fault_then n line lines (Some found) later fault is first rest =
    let here : Fault = record { line = n; kind = found } in
    let one : here ≡ fault = cc in
    subst (IsFirstFault n (line ∷ lines)) one (record {
      place = 0;
      line = line;
      numbered = omega arith;
      there = refl;
      least = fault_of_line-least line found is;
      before = λ earlier other below at. absurd (omega arith);
    })
first_fault_then n line lines None later fault is first rest =
    let found = rest first in
    record {
      place = suc found.place;
      line = found.line;
      numbered = omega (arith, found.numbered);
      there = found.there;
      least = found.least;
      before = earlier_good line lines found.place (fault_of_line-none line is) found.before;
    }

first_fault-is : (n : ℕ) (lines : List Line) (fault : Fault) → first_fault n lines ≡ Some fault
    → IsFirstFault n lines fault
first_fault-is n [] fault found = cc
first_fault-is n (first ∷ rest) fault found =
    first_fault_then n first rest (fault_of_line first) (first_fault (n + 1) rest) fault refl found
    (first_fault-is (n + 1) rest fault)

-- the rows of all lines

-- the words that spell a row are read as it
row_of_words-spelled : (words : List (List ℕ)) (row : Row) → Spells words row → row_of_words words ≡ Some row
row_of_words-spelled words row spells =
    cond-false (is_comment words) None (row_of words) (ap is_comment (sym spells.spelled) ∙ spelling_is_no_comment row)
    ∙ row_of-spelled words row spells

spelled_later : {n : ℕ} {line : Line} {lines : List Line} {row : NumberedRow} → IsSpelledIn (n + 1) lines row
    → IsSpelledIn n (line ∷ lines) row
spelled_later {n} {line} {lines} {row} later = record {
  place = suc later.place;
  line = later.line;
  numbered = omega (arith, later.numbered);
  there = later.there;
  spells = later.spells;
}

spelled_then : (n : ℕ) (line : Line) (lines : List Line) (o : Option Row) (rows : List NumberedRow) (row : NumberedRow)
    → row_of_words (words_of line.text) ≡ o → (Contains rows row → IsSpelledIn (n + 1) lines row)
    → Contains (row_then n o rows) row → IsSpelledIn n (line ∷ lines) row
spelled_then n line lines None rows row is later stands = spelled_later (later stands)
spelled_then n line lines (Some found) rows row is later (zero, below, same) =
    let spelled : IsSpelledIn n (line ∷ lines) (record { line = n; row = found }) = record {
      place = 0;
      line = line;
      numbered = omega arith;
      there = refl;
      spells = row_of_words-spells (words_of line.text) found is;
    } in
    subst (IsSpelledIn n (line ∷ lines)) same spelled
spelled_then n line lines (Some found) rows row is later (suc k, below, same) =
    spelled_later (later (k, omega arith, same))

-- each row that is read is spelled by its line
rows_of-spelled : (n : ℕ) (lines : List Line) (row : NumberedRow) → Contains (rows_of n lines) row
    → IsSpelledIn n lines row
rows_of-spelled n [] row (k, below, same) = absurd (omega arith)
rows_of-spelled n (line ∷ lines) row stands =
    spelled_then n line lines (row_of_words (words_of line.text)) (rows_of (n + 1) lines) row refl
    (rows_of-spelled (n + 1) lines row) stands

stands_later : (n : ℕ) (o : Option Row) (rows : List NumberedRow) (row : NumberedRow) → Contains rows row
    → Contains (row_then n o rows) row
stands_later n None rows row stands = stands
stands_later n (Some r) rows row (k, below, same) = (suc k, omega arith, same)

stands_first : (n : ℕ) (o : Option Row) (rows : List NumberedRow) (row : NumberedRow) → o ≡ Some row.row → row.line ≡ n
    → Contains (row_then n o rows) row
stands_first n o rows row is numbered =
    let here : NumberedRow = record { line = n; row = row.row } in
    let same : here ≡ row = ap (λ (k : ℕ). record { line = k; row = row.row }) (sym numbered) in
    subst (λ found. Contains (row_then n found rows) row) (sym is) (0, omega arith, same)

stands_then : (n : ℕ) (line : Line) (lines : List Line) (row : NumberedRow) (place : ℕ) (at : Line)
    → row.line ≡ n + place
    → slice_get (line ∷ lines) place ≡ Some at → Spells (words_of at.text) row.row
    → (IsSpelledIn (n + 1) lines row → Contains (rows_of (n + 1) lines) row) → Contains (rows_of n (line ∷ lines)) row
stands_then n line lines row zero at numbered there spells later =
    let one : at ≡ line = cc in
    let here : Spells (words_of line.text) row.row =
    subst (λ (found : Line). Spells (words_of found.text) row.row) one spells in
    stands_first n (row_of_words (words_of line.text)) (rows_of (n + 1) lines) row
    (row_of_words-spelled (words_of line.text) row.row here)
    (omega arith)
stands_then n line lines row (suc place) at numbered there spells later =
    stands_later n (row_of_words (words_of line.text)) (rows_of (n + 1) lines) row
    (later (record { place = place; line = at; numbered = omega arith; there = there; spells = spells }))

-- each row that a line spells is one of the rows
rows_of-all : (n : ℕ) (lines : List Line) (row : NumberedRow) → IsSpelledIn n lines row → Contains (rows_of n lines) row
rows_of-all n [] row spelled = let none = spelled.there in cc
rows_of-all n (line ∷ lines) row spelled =
    stands_then n line lines row spelled.place spelled.line spelled.numbered spelled.there spelled.spells
    (rows_of-all (n + 1) lines row)

rows_are_read : (o : Option Fault) (lines : List Line) (rows : List NumberedRow) → first_fault 1 lines ≡ o
    → document_by o (rows_of 1 lines) ≡ Rows rows → (o ≡ None) × (rows_of 1 lines ≡ rows)
rows_are_read None lines rows is read = (refl, cc)
rows_are_read (Some fault) lines rows is read = cc

fault_is_read : (o : Option Fault) (rows : List NumberedRow) (fault : Fault) → document_by o rows ≡ Faulty fault
    → o ≡ Some fault
fault_is_read None rows fault read = cc
fault_is_read (Some found) rows fault read = cc

-- where a document has rows, no line has a fault, and the rows are those that the lines spell
pub document_of-rows : (bytes : List ℕ) (rows : List NumberedRow) → document_of bytes ≡ Rows rows
    → AreReadAs (lines_of bytes) rows
document_of-rows bytes rows read =
    let lines = lines_of bytes in
    let parts = rows_are_read (first_fault 1 lines) lines rows refl read in
    record {
      good = all_good 1 lines parts.0;
      spelled = λ row. (
        λ stands. rows_of-spelled 1 lines row (subst (λ found. Contains found row) (sym parts.1) stands),
        λ spelled. subst (λ found. Contains found row) parts.1 (rows_of-all 1 lines row spelled),
      );
      in_order = (document_of-sound bytes rows read).ascending;
    }

-- where it has a fault, that is the first one, and the least of its line
pub document_of-fault : (bytes : List ℕ) (fault : Fault) → document_of bytes ≡ Faulty fault
    → IsFirstFault 1 (lines_of bytes) fault
document_of-fault bytes fault read =
    let lines = lines_of bytes in
    first_fault-is 1 lines fault (fault_is_read (first_fault 1 lines) (rows_of 1 lines) fault read)
