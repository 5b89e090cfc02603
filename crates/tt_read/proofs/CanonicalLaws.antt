-- The canonical text of rows, read again.
use Rattle.std.proofs.Common.{◌≡◌, ℕ, ◌+◌, ◌≤◌, ◌^◌, Bool, true, false, ◌&&◌, ◌||◌, ◌==◌, cond, List, [], ◌∷◌, ◌++◌, map, length, Some, None, refl, sym, ap, ◌∙◌, arith, inl, inr}
use Rattle.std.specs.Prelude.{nat_le, is_some}
use Rattle.std.specs.List.{list_all, flat_map}
use Rattle.std.specs.Fmt.{decimal, signed_decimal}
use Rattle.std.proofs.lemmas.Bool.{and_parts, and_from, or_cases, cond-false, ne_eqb, ltb-true, leb-true, le-leb, eqb-true}
use Rattle.std.proofs.lemmas.List.{append_assoc}
use Rattle.std.proofs.lemmas.List.Folds.{list_all-append}
use Rattle.task_lang.specs.declared.syntax.Op.{Op}
use Rattle.task_lang.specs.declared.syntax.Op.TheVariants.{Add}
use Rattle.tt_base.specs.Name.{is_letter, is_digit, is_name_byte, is_rest_of_name, is_name}
use Rattle.tt_doc.specs.Lines.{Line, lines_of, is_plain_byte}
use Rattle.tt_doc.specs.Words.{is_comment, words_of, has_no_space, is_word}
use Rattle.tt_doc.proofs.LineLaws.{lines_of-plain, fault_of-plain}
use Rattle.tt_doc.proofs.WordLaws.{words_of-joined, plain-joined}
use Rattle.tt_doc.proofs.NumberLaws.{decimal_is_plain, decimal_is_word, signed_decimal_is_plain, signed_decimal_is_word}
use Rattle.tt_rows.specs.declared.row.Term.{Term}
use Rattle.tt_rows.specs.declared.row.Term.TheVariants as term
use Rattle.tt_rows.specs.declared.row.Row.{Row}
use Rattle.tt_rows.specs.declared.row.Row.TheVariants as r
use Rattle.tt_rows.specs.declared.row.NumberedRow.{NumberedRow}
use Rattle.tt_rows.specs.Spelling.{Item, Key, Number, Named, Integer, Expression, items_of, op_word, term_word, words_of_item, spelling_of, line_of_row}
use Rattle.tt_rows.specs.Sound.{are_expressions, is_sound_term, is_sound_item, is_sound_row, AreSound}
use Rattle.tt_read.specs.declared.form.FormKind.TheVariants as kind
use Rattle.tt_read.specs.Reading.{row_of}
use Rattle.tt_read.specs.Document.{row_of_words, word_fault, fault_by, fault_of_line, fault_or, first_fault, row_then, rows_of, Rows, document_by, document_of, canonical_text, numbered_from}
use Rattle.tt_read.proofs.TermLaws.{fits_from_integer}
use Rattle.tt_read.proofs.Complete.{row_of-spelled}

-- a word of plain bytes
abbrev is_plain_word : List ℕ → Bool
is_plain_word word = is_word word && list_all is_plain_byte word

plain_word : (word : List ℕ) → is_word word ≡ true → list_all is_plain_byte word ≡ true → is_plain_word word ≡ true
plain_word word one plain = and_from (is_word word) (list_all is_plain_byte word) one plain

within : (low high c : ℕ) → (nat_le low c && nat_le c high) ≡ true → (low ≤ c) × (c ≤ high)
within low high c h = let parts = and_parts (nat_le low c) (nat_le c high) h in
    (leb-true low c parts.0, leb-true c high parts.1)

letter_range : (c : ℕ) → is_letter c ≡ true → (33 ≤ c) × (c ≤ 126)
letter_range c h =
    elim (or_cases (c == 95) ((nat_le 65 c && nat_le c 90) || (nat_le 97 c && nat_le c 122)) h) [
      | inl low ↦ (omega (arith, eqb-true c 95 low), omega (arith, eqb-true c 95 low))
      | inr either ↦ elim (or_cases (nat_le 65 c && nat_le c 90) (nat_le 97 c && nat_le c 122) either) [
        | inl upper ↦ let range = within 65 90 c upper in (omega (arith, range), omega (arith, range))
        | inr lower ↦ let range = within 97 122 c lower in (omega (arith, range), omega (arith, range))
      ]
    ]

name_byte_range : (c : ℕ) → is_name_byte c ≡ true → (33 ≤ c) × (c ≤ 126)
name_byte_range c h =
    elim (or_cases (is_letter c) (is_digit c) h) [
      | inl letter ↦ letter_range c letter
      | inr digit ↦ let range = within 48 57 c digit in (omega (arith, range), omega (arith, range))
    ]

plain_byte : (c : ℕ) → 33 ≤ c → c ≤ 126 → is_plain_byte c ≡ true
plain_byte c low high = and_from (nat_le 32 c) (nat_le c 126) (le-leb 32 c (omega arith)) (le-leb c 126 high)

no_space_in_front : (c : ℕ) (rest : List ℕ) → 33 ≤ c → has_no_space rest ≡ true → has_no_space (c ∷ rest) ≡ true
no_space_in_front c rest low clean = cond-false (c == 32) false (has_no_space rest) (ne_eqb c 32 (λ e. omega arith))
    ∙ clean

plain_name_bytes : (text : List ℕ) → list_all is_name_byte text ≡ true
    → (has_no_space text ≡ true) × (list_all is_plain_byte text ≡ true)
plain_name_bytes [] all = (refl, refl)
plain_name_bytes (c ∷ rest) all =
    let parts = and_parts (is_name_byte c) (list_all is_name_byte rest) all in
    let range = name_byte_range c parts.0 in
    let later = plain_name_bytes rest parts.1 in (
      no_space_in_front c rest range.0 later.0,
      and_from (is_plain_byte c) (list_all is_plain_byte rest) (plain_byte c range.0 range.1) later.1,
    )

name_is_plain_word : (text : List ℕ) → is_name text ≡ true → is_plain_word text ≡ true
name_is_plain_word [] named = named
name_is_plain_word (c ∷ rest) named =
    let parts = and_parts (is_letter c) (is_rest_of_name rest) named in
    let all = (and_parts (list_all is_name_byte rest) (nat_le (length rest) 15) parts.1).0 in
    let range = letter_range c parts.0 in
    let later = plain_name_bytes rest all in
    plain_word (c ∷ rest) (no_space_in_front c rest range.0 later.0)
    (and_from (is_plain_byte c) (list_all is_plain_byte rest) (plain_byte c range.0 range.1) later.1)

op_is_plain_word : (op : Op) → is_plain_word (op_word op) ≡ true
op_is_plain_word Add = refl
op_is_plain_word _ = refl

term_is_plain_word : (t : Term) → is_sound_term t ≡ true → is_plain_word (term_word t) ≡ true
term_is_plain_word (term.Int value) sound =
    plain_word (signed_decimal value) (signed_decimal_is_word value (fits_from_integer value sound))
    (signed_decimal_is_plain value (fits_from_integer value sound))
term_is_plain_word (term.Name name) sound = name_is_plain_word name sound
term_is_plain_word (term.Op op) sound = op_is_plain_word op

terms_are_plain_words : (terms : List Term) → list_all is_sound_term terms ≡ true
    → list_all is_plain_word (map term_word terms) ≡ true
terms_are_plain_words [] sound = refl
terms_are_plain_words (t ∷ terms) sound =
    let parts = and_parts (is_sound_term t) (list_all is_sound_term terms) sound in
    and_from (is_plain_word (term_word t)) (list_all is_plain_word (map term_word terms))
    (term_is_plain_word t parts.0) (terms_are_plain_words terms parts.1)

-- the words of the language are plain
abbrev is_plain_key : Item → Bool
is_plain_key (Key word) = is_plain_word word
is_plain_key _ = true

keys_are_plain : (row : Row) → list_all is_plain_key (items_of row) ≡ true
keys_are_plain r.Header = refl
keys_are_plain _ = refl

item_is_plain : (item : Item) → is_plain_key item ≡ true → is_sound_item item ≡ true
    → list_all is_plain_word (words_of_item item) ≡ true
item_is_plain (Key word) key sound = and_from (is_plain_word word) true key refl
item_is_plain (Number n) key sound =
    let small = ltb-true n (10 ^ 12) sound in
    and_from (is_plain_word (decimal n)) true
    (plain_word (decimal n) (decimal_is_word n small) (decimal_is_plain n small)) refl
item_is_plain (Named name) key sound = and_from (is_plain_word name) true (name_is_plain_word name sound) refl
item_is_plain (Integer value) key sound =
    and_from (is_plain_word (signed_decimal value)) true (term_is_plain_word (term.Int value) sound) refl
item_is_plain (Expression terms) key sound =
    terms_are_plain_words terms (and_parts (list_all is_sound_term terms) (are_expressions 1 terms) sound).0

items_are_plain : (items : List Item) → list_all is_plain_key items ≡ true → list_all is_sound_item items ≡ true
    → list_all is_plain_word (flat_map words_of_item items) ≡ true
items_are_plain [] keys sound = refl
items_are_plain (item ∷ items) keys sound =
    let key = and_parts (is_plain_key item) (list_all is_plain_key items) keys in
    let good = and_parts (is_sound_item item) (list_all is_sound_item items) sound in
    list_all-append is_plain_word (words_of_item item) (flat_map words_of_item items)
    ∙ and_from (list_all is_plain_word (words_of_item item)) (list_all is_plain_word (flat_map words_of_item items))
    (item_is_plain item key.0 good.0) (items_are_plain items key.1 good.1)

-- plain words are words, and plain
words_from_plain : (words : List (List ℕ)) → list_all is_plain_word words ≡ true
    → (list_all is_word words ≡ true) × (list_all (list_all is_plain_byte) words ≡ true)
words_from_plain [] all = (refl, refl)
words_from_plain (word ∷ words) all =
    let parts = and_parts (is_plain_word word) (list_all is_plain_word words) all in
    let both = and_parts (is_word word) (list_all is_plain_byte word) parts.0 in
    let later = words_from_plain words parts.1 in (
      and_from (is_word word) (list_all is_word words) both.0 later.0,
      and_from (list_all is_plain_byte word) (list_all (list_all is_plain_byte) words) both.1 later.1,
    )

-- a row is no comment
pub spelling_is_no_comment : (row : Row) → is_comment (spelling_of row) ≡ false
spelling_is_no_comment r.Header = refl
spelling_is_no_comment _ = refl

-- what is known of the line of a sound row
record GoodLine (row : Row) : Type 0 where
  plain : list_all is_plain_byte (line_of_row row) ≡ true
  good : fault_of_line (record { text = line_of_row row; ended = true }) ≡ None
  read : row_of_words (words_of (line_of_row row)) ≡ Some row

good_line : (row : Row) → is_sound_row row ≡ true → GoodLine row
good_line row sound =
    let parts = and_parts (list_all is_sound_item (items_of row)) (nat_le (length (line_of_row row)) 200) sound in
    let words = words_from_plain (spelling_of row) (items_are_plain (items_of row) (keys_are_plain row) parts.0) in
    let plain = plain-joined (spelling_of row) words.1 in
    let again = words_of-joined (spelling_of row) words.0 in
    let no_comment = spelling_is_no_comment row in
    let is_row = row_of-spelled (spelling_of row) row (record { spelled = refl; sound = sound }) in
    let read : row_of_words (spelling_of row) ≡ Some row =
    cond-false (is_comment (spelling_of row)) None (row_of (spelling_of row)) no_comment ∙ is_row in
    let fine : word_fault (spelling_of row) ≡ None =
    cond-false (is_comment (spelling_of row)) None
    (cond (is_some (row_of (spelling_of row))) None (Some kind.Row)) no_comment
    ∙ ap (λ o. cond (is_some o) None (Some kind.Row)) is_row in
    record {
      plain = plain;
      good = ap (λ o. fault_by o (words_of (line_of_row row)))
          (fault_of-plain (line_of_row row) plain (leb-true (length (line_of_row row)) 200 parts.1))
          ∙ ap word_fault again ∙ fine;
      read = ap row_of_words again ∙ read;
    }

abbrev all_sound : List NumberedRow → Bool
all_sound rows = list_all (λ (row : NumberedRow). is_sound_row row.row) rows

abbrev line_of : NumberedRow → Line
line_of row = record { text = line_of_row row.row; ended = true }

lines_of_text : (rows : List NumberedRow) → all_sound rows ≡ true → lines_of (canonical_text rows) ≡ map line_of rows
lines_of_text [] sound = refl
lines_of_text (row ∷ rows) sound =
    let parts = and_parts (is_sound_row row.row) (all_sound rows) sound in
    ap lines_of (append_assoc (line_of_row row.row) (10 ∷ []) (canonical_text rows))
    ∙ lines_of-plain (line_of_row row.row) (canonical_text rows) (good_line row.row parts.0).plain
    ∙ ap (λ lines. line_of row ∷ lines) (lines_of_text rows parts.1)

no_fault : (n : ℕ) (rows : List NumberedRow) → all_sound rows ≡ true → first_fault n (map line_of rows) ≡ None
no_fault n [] sound = refl
no_fault n (row ∷ rows) sound =
    let parts = and_parts (is_sound_row row.row) (all_sound rows) sound in
    ap (λ o. fault_or n o (first_fault (n + 1) (map line_of rows))) (good_line row.row parts.0).good
    ∙ no_fault (n + 1) rows parts.1

same_rows : (n : ℕ) (rows : List NumberedRow) → all_sound rows ≡ true
    → rows_of n (map line_of rows) ≡ numbered_from n rows
same_rows n [] sound = refl
same_rows n (row ∷ rows) sound =
    let parts = and_parts (is_sound_row row.row) (all_sound rows) sound in
    ap (λ o. row_then n o (rows_of (n + 1) (map line_of rows))) (good_line row.row parts.0).read
    ∙ ap (λ later. record { line = n; row = row.row } ∷ later) (same_rows (n + 1) rows parts.1)

-- the canonical text of sound rows is read as these rows, in lines 1, 2, 3 and so on
pub document_of-canonical_text : (rows : List NumberedRow) → AreSound rows
    → document_of (canonical_text rows) ≡ Rows (numbered_from 1 rows)
document_of-canonical_text rows sound =
    ap (λ lines. document_by (first_fault 1 lines) (rows_of 1 lines)) (lines_of_text rows sound.sound)
    ∙ ap (λ fault. document_by fault (rows_of 1 (map line_of rows))) (no_fault 1 rows sound.sound)
    ∙ ap Rows (same_rows 1 rows sound.sound)

canonical_text-numbered_from : (n : ℕ) (rows : List NumberedRow)
    → canonical_text (numbered_from n rows) ≡ canonical_text rows
canonical_text-numbered_from n [] = refl
canonical_text-numbered_from n (row ∷ rows) =
    ap (λ text. (line_of_row row.row ++ 10 ∷ []) ++ text) (canonical_text-numbered_from (n + 1) rows)

-- the rows of a shown text are shown as that text
pub canonical_text-again : (rows again : List NumberedRow) → AreSound rows
    → document_of (canonical_text rows) ≡ Rows again
    → canonical_text again ≡ canonical_text rows
canonical_text-again rows again sound is =
    let two : Rows (numbered_from 1 rows) ≡ Rows again = sym (document_of-canonical_text rows sound) ∙ is in
    let one : numbered_from 1 rows ≡ again = cc in
    ap canonical_text (sym one) ∙ canonical_text-numbered_from 1 rows
