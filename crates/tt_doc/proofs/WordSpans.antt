-- The words of a line that were found so far.
use Rattle.std.proofs.Common.{◌≡◌, ◌≢◌, ℕ, ◌+◌, ◌-◌, ◌*◌, ◌<◌, ◌≤◌, suc, Bool, true, false, ◌==◌, cond, List, [], ◌∷◌, ◌++◌, length, take, drop, get_or, map, refl, sym, ap, ◌∙◌, subst, arith, All, AllPairs}
use Rattle.std.specs.Prelude.{nat_lt, slice_range, filter}
use Rattle.std.proofs.Math.Seq.{take-add}
use Rattle.std.proofs.lemmas.Bool.{cond_both, cond-false, lt-ltb, ne_eqb, ltb-true}
use Rattle.std.proofs.lemmas.Bool.Decides.{nat_tests}
use Rattle.std.proofs.lemmas.List.{append_assoc, map-append, append-nil, drop-drop, drop_more, length_push}
use Rattle.std.proofs.lemmas.List.Edits.{between_none, between_more, length-between}
use Rattle.std.proofs.lemmas.List.Elements.{All-push}
use Rattle.std.proofs.lemmas.List.Quantifiers.{all_pairs_push}
use Rattle.tt_doc.specs.declared.lines.Span.{Span}
use Rattle.tt_doc.specs.Span.{text_of}
use Rattle.tt_doc.specs.Words.{pieces_of, words_of, is_some_text, has_no_space}
use Rattle.tt_doc.proofs.WordLaws.{pieces_of-piece, pieces_of-last, parts_of_no_space}

-- the words with one more, unless it has no bytes
abbrev pub with_word : List Span → ℕ → ℕ → List Span
with_word words start end = cond (nat_lt start end) (words ++ record { start = start; end = end } ∷ []) words

-- `words` are the words before `start`, where a word may begin, and no space is between `start` and `at`
pub record Passed (bytes : List ℕ) (span : Span) (words : List Span) (start at : ℕ) : Type 0 where
  pub read : map (text_of bytes) words ++ words_of (slice_range bytes start span.end) ≡ words_of (text_of bytes span)
  pub clean : has_no_space (slice_range bytes start at) ≡ true
  pub from : span.start ≤ start
  pub to : start ≤ at
  pub few : 2 * length words + span.start ≤ start
  pub within : All (λ word. (span.start ≤ word.start) × (word.end < start)) words
  pub some : All (λ word. word.start < word.end) words
  pub ascend : AllPairs (λ earlier later. earlier.end < later.start) words

no_space_push : (text : List ℕ) (b : ℕ) → has_no_space text ≡ true → b ≢ 32 → has_no_space (text ++ b ∷ []) ≡ true
no_space_push [] b clean other = cond-false (b == 32) false true (ne_eqb b 32 other)
no_space_push (first ∷ text) b clean other =
    let parts = parts_of_no_space (first == 32) (has_no_space text) clean in
    cond-false (first == 32) false (has_no_space (text ++ b ∷ [])) parts.0 ∙ no_space_push text b parts.1 other

-- a byte other than the space
pub passed_byte : {bytes : List ℕ} {span : Span} {words : List Span} {start at : ℕ} → Passed bytes span words start at
    → at < length bytes → get_or bytes at 0 ≢ 32 → Passed bytes span words start (at + 1)
passed_byte {bytes} {span} {words} {start} {at} passed inside other = record {
  read = passed.read;
  clean = ap has_no_space (between_more bytes start at 0 passed.to inside)
      ∙ no_space_push (slice_range bytes start at) (get_or bytes at 0) passed.clean other;
  from = passed.from;
  to = omega (arith, passed.to);
  few = passed.few;
  within = passed.within;
  some = passed.some;
  ascend = passed.ascend;
}

split_at : (xs : List ℕ) (a at e : ℕ) → a ≤ at → at < e → at < length xs
    → slice_range xs a e ≡ slice_range xs a at ++ get_or xs at 0 ∷ slice_range xs (at + 1) e
split_at xs a at e low high inside =
    let n = at - a in
    let m = e - (at + 1) in
    let parts : e - a ≡ n + suc m = omega arith in
    let place : a + n ≡ at = omega arith in
    ap (λ k. take k (drop a xs)) parts
    ∙ take-add n (suc m) (drop a xs)
    ∙ ap (λ back. take n (drop a xs) ++ take (suc m) back)
    (drop-drop n a xs ∙ ap (λ k. drop k xs) place ∙ drop_more xs at 0 inside)

is_some_text-length : (text : List ℕ) → is_some_text text ≡ nat_lt 0 (length text)
is_some_text-length [] = refl
is_some_text-length (b ∷ text) = sym (lt-ltb 0 (suc (length text)) (omega arith))

some_piece : (bytes : List ℕ) (start at : ℕ) → at ≤ length bytes
    → is_some_text (slice_range bytes start at) ≡ nat_lt start at
some_piece bytes start at inside =
    is_some_text-length (slice_range bytes start at)
    ∙ ap (nat_lt 0) (length-between bytes start at inside)
    ∙ grind (arith, nat_tests)

read_if : (f : Span → List ℕ) (words : List Span) (word : Span) (rest : List (List ℕ)) (t : Bool)
    → map f words ++ cond t (f word ∷ rest) rest ≡ map f (cond t (words ++ word ∷ []) words) ++ rest
read_if f words word rest true =
    sym (ap (λ texts. texts ++ rest) (map-append f words (word ∷ [])) ∙ append_assoc (map f words) (f word ∷ []) rest)
read_if f words word rest false = refl

-- the texts of the words with the piece from `start` to `at`, unless it is empty
read_piece : (bytes : List ℕ) (words : List Span) (start at : ℕ) (rest : List (List ℕ)) → at ≤ length bytes
    → map (text_of bytes) words ++ filter is_some_text (slice_range bytes start at ∷ rest)
    ≡ map (text_of bytes) (with_word words start at) ++ filter is_some_text rest
read_piece bytes words start at rest inside =
    let piece = slice_range bytes start at in
    let more = filter is_some_text rest in
    ap (λ t. map (text_of bytes) words ++ cond t (piece ∷ more) more) (some_piece bytes start at inside)
    ∙ read_if (text_of bytes) words (record { start = start; end = at }) more (nat_lt start at)

all_with_word : (P : Span → Type 0) (words : List Span) (start at : ℕ) → All P words
    → (start < at → P (record { start = start; end = at })) → All P (with_word words start at)
all_with_word P words start at all one =
    let word : Span = record { start = start; end = at } in
    cond_both (nat_lt start at) (words ++ word ∷ []) words (All P)
    (λ some. All-push P words word all (one (ltb-true start at some)))
    (λ none. all)

ascend_with_word : (words : List Span) (start at : ℕ) → AllPairs (λ earlier later. earlier.end < later.start) words
    → All (λ word. word.end < start) words
    → AllPairs (λ earlier later. earlier.end < later.start) (with_word words start at)
ascend_with_word words start at ascend before =
    let word : Span = record { start = start; end = at } in
    cond_both (nat_lt start at) (words ++ word ∷ []) words (AllPairs (λ earlier later. earlier.end < later.start))
    (λ some. all_pairs_push (λ earlier later. earlier.end < later.start) words word ascend before)
    (λ none. ascend)

few_with_word : (words : List Span) (low start at : ℕ) → 2 * length words + low ≤ start → start ≤ at
    → 2 * length (with_word words start at) + low ≤ at + 1
few_with_word words low start at few to =
    let word : Span = record { start = start; end = at } in
    cond_both (nat_lt start at) (words ++ word ∷ []) words (λ more. 2 * length more + low ≤ at + 1)
    (λ some. omega (arith, ltb-true start at some, length_push words word))
    (λ none. omega arith)

-- a space
pub passed_space : {bytes : List ℕ} {span : Span} {words : List Span} {start at : ℕ}
    → Passed bytes span words start at → at < span.end → span.end ≤ length bytes → get_or bytes at 0 ≡ 32
    → Passed bytes span (with_word words start at) (at + 1) (at + 1)
passed_space {bytes} {span} {words} {start} {at} passed before inside space =
    let piece = slice_range bytes start at in
    let rest = slice_range bytes (at + 1) span.end in
    let split = split_at bytes start at span.end passed.to before (omega arith) ∙ ap (λ b. piece ++ b ∷ rest) space in
    let read =
    sym (read_piece bytes words start at (pieces_of rest) (omega arith))
    ∙ ap (λ pieces. map (text_of bytes) words ++ filter is_some_text pieces)
    (sym (ap pieces_of split ∙ pieces_of-piece piece rest passed.clean))
    ∙ passed.read in
    record {
      read = read;
      clean = ap has_no_space (between_none bytes (at + 1));
      from = omega (arith, passed.from, passed.to);
      to = omega arith;
      few = few_with_word words span.start start at passed.few passed.to;
      within = all_with_word (λ word. (span.start ≤ word.start) × (word.end < at + 1)) words start at
          (λ k d below. let one = passed.within k d below in (one.0, omega (arith, one.1, passed.to)))
          (λ some. (passed.from, omega arith));
      some = all_with_word (λ word. word.start < word.end) words start at passed.some (λ some. some);
      ascend = ascend_with_word words start at passed.ascend (λ k d below. (passed.within k d below).1);
    }

-- the words when the line's end is reached
pub record AllPassed (bytes : List ℕ) (span : Span) (words : List Span) : Type 0 where
  pub read : map (text_of bytes) words ≡ words_of (text_of bytes span)
  pub within : All (λ word. (span.start ≤ word.start) × (word.end ≤ span.end)) words
  pub some : All (λ word. word.start < word.end) words
  pub ascend : AllPairs (λ earlier later. earlier.end < later.start) words

pub all_passed : {bytes : List ℕ} {span : Span} {words : List Span} {start : ℕ}
    → Passed bytes span words start span.end → span.end ≤ length bytes
    → AllPassed bytes span (with_word words start span.end)
all_passed {bytes} {span} {words} {start} passed inside =
    let piece = slice_range bytes start span.end in
    let read =
    sym (append-nil (map (text_of bytes) (with_word words start span.end)))
    ∙ sym (read_piece bytes words start span.end [] inside)
    ∙ ap (λ pieces. map (text_of bytes) words ++ filter is_some_text pieces) (sym (pieces_of-last piece passed.clean))
    ∙ passed.read in
    record {
      read = read;
      within = all_with_word (λ word. (span.start ≤ word.start) × (word.end ≤ span.end)) words start span.end
          (λ k d below. let one = passed.within k d below in (one.0, omega (arith, one.1, passed.to)))
          (λ some. (passed.from, omega arith));
      some = all_with_word (λ word. word.start < word.end) words start span.end passed.some (λ some. some);
      ascend = ascend_with_word words start span.end passed.ascend (λ k d below. (passed.within k d below).1);
    }

-- the same for equal words and an equal place
pub passed_same : {bytes : List ℕ} {span : Span} {words : List Span} {start at : ℕ} → Passed bytes span words start at
    → (now : List Span) (place : ℕ) → now ≡ words → place ≡ start → Passed bytes span now place at
passed_same {bytes} {span} {words} {start} {at} passed now place same_words same_start =
    let P : List Span → Type 0 = λ found. Passed bytes span found place at in
    subst P (sym same_words) (subst (λ from. Passed bytes span words from at) (sym same_start) passed)

-- what holds of the words after the last piece
pub passed_end : {bytes : List ℕ} {span : Span} {words : List Span} {start at : ℕ} → Passed bytes span words start at
    → at ≡ span.end → span.end ≤ length bytes
    → (now : List Span) → now ≡ with_word words start span.end → AllPassed bytes span now
passed_end {bytes} {span} {words} {start} {at} passed at_end inside now same =
    subst (AllPassed bytes span) (sym same) (all_passed (subst (Passed bytes span words start) at_end passed) inside)
