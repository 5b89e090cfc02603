-- Laws of words: the words of a text, and the words of joined words.
use Rattle.std.proofs.Common.{◌≡◌, ℕ, ◌<◌, ◌≤◌, suc, ◌+◌, ◌-◌, Bool, true, false, ◌&&◌, ◌==◌, cond, List, [], ◌∷◌, ◌++◌, length, refl, ap, ◌∙◌, arith}
use Rattle.std.specs.List.{list_all, sum_by, filter}
use Rattle.std.proofs.lemmas.Bool.{cond_both, cond-false, and_parts, and_from, false≢true}
use Rattle.std.proofs.lemmas.List.{length-append}
use Rattle.std.proofs.lemmas.List.Sums.{sum_by-cons}
use Rattle.std.proofs.lemmas.List.Folds.{list_all-append}
use Rattle.tt_doc.specs.Lines.{is_plain_byte}
use Rattle.tt_doc.specs.Words.{in_first, pieces_of, is_some_text, words_of, joined, has_no_space, is_word}

no_space-in_first : (b : ℕ) (pieces : List (List ℕ)) → (b == 32) ≡ false → list_all has_no_space pieces ≡ true
    → list_all has_no_space (in_first b pieces) ≡ true
no_space-in_first b [] other clean = ap (λ t. cond t false true && true) other
no_space-in_first b (piece ∷ pieces) other clean =
    ap (λ t. cond t false (has_no_space piece) && list_all has_no_space pieces) other ∙ clean

no_space-pieces_of : (text : List ℕ) → list_all has_no_space (pieces_of text) ≡ true
no_space-pieces_of [] = refl
no_space-pieces_of (b ∷ bytes) =
    cond_both (b == 32) ([] ∷ pieces_of bytes) (in_first b (pieces_of bytes))
    (λ pieces. list_all has_no_space pieces ≡ true)
    (λ e. no_space-pieces_of bytes)
    (λ other. no_space-in_first b (pieces_of bytes) other (no_space-pieces_of bytes))

words_from_pieces : (pieces : List (List ℕ)) → list_all has_no_space pieces ≡ true
    → list_all is_word (filter is_some_text pieces) ≡ true
words_from_pieces [] clean = refl
words_from_pieces ([] ∷ pieces) clean = words_from_pieces pieces clean
words_from_pieces ((b ∷ bytes) ∷ pieces) clean =
    let parts = and_parts (has_no_space (b ∷ bytes)) (list_all has_no_space pieces) clean in
    and_from (has_no_space (b ∷ bytes)) (list_all is_word (filter is_some_text pieces)) parts.0
    (words_from_pieces pieces parts.1)

-- each word of a text is some bytes, and none of them is a space
pub words_of_are_words : (text : List ℕ) → list_all is_word (words_of text) ≡ true
words_of_are_words text = words_from_pieces (pieces_of text) (no_space-pieces_of text)

-- bytes without a space begin with none, and have none after it
pub parts_of_no_space : (t rest : Bool) → cond t false rest ≡ true → (t ≡ false) × (rest ≡ true)
parts_of_no_space true rest clean = absurd (false≢true clean)
parts_of_no_space false rest clean = (refl, clean)

-- a piece that ends with the text
pub pieces_of-last : (piece : List ℕ) → has_no_space piece ≡ true → pieces_of piece ≡ piece ∷ []
pieces_of-last [] clean = refl
pieces_of-last (b ∷ bytes) clean =
    let parts = parts_of_no_space (b == 32) (has_no_space bytes) clean in
    cond-false (b == 32) ([] ∷ pieces_of bytes) (in_first b (pieces_of bytes)) parts.0
    ∙ ap (in_first b) (pieces_of-last bytes parts.1)

-- a piece that ends at a space
pub pieces_of-piece : (piece rest : List ℕ) → has_no_space piece ≡ true
    → pieces_of (piece ++ 32 ∷ rest) ≡ piece ∷ pieces_of rest
pieces_of-piece [] rest clean = refl
pieces_of-piece (b ∷ bytes) rest clean =
    let parts = parts_of_no_space (b == 32) (has_no_space bytes) clean in
    cond-false (b == 32) ([] ∷ pieces_of (bytes ++ 32 ∷ rest)) (in_first b (pieces_of (bytes ++ 32 ∷ rest))) parts.0
    ∙ ap (in_first b) (pieces_of-piece bytes rest parts.1)

-- words with one space between them are read as these words
pub words_of-joined : (words : List (List ℕ)) → list_all is_word words ≡ true → words_of (joined words) ≡ words
words_of-joined [] good = refl
words_of-joined ([] ∷ []) good = absurd (false≢true good)
words_of-joined ((b ∷ bytes) ∷ []) good =
    ap (filter is_some_text) (pieces_of-last (b ∷ bytes) (and_parts (has_no_space (b ∷ bytes)) true good).0)
words_of-joined ([] ∷ (next ∷ rest)) good = absurd (false≢true good)
words_of-joined ((b ∷ bytes) ∷ (next ∷ rest)) good =
    let parts = and_parts (has_no_space (b ∷ bytes)) (list_all is_word (next ∷ rest)) good in
    ap (filter is_some_text) (pieces_of-piece (b ∷ bytes) (joined (next ∷ rest)) parts.0)
    ∙ ap (λ words. (b ∷ bytes) ∷ words) (words_of-joined (next ∷ rest) parts.1)

-- joined words have the bytes of the words, and one space between each two of them
pub length-joined : (words : List (List ℕ)) → length (joined words) ≡ sum_by (length {A = ℕ}) words + (length words - 1)
length-joined [] = refl
length-joined (word ∷ []) = omega (arith, sum_by-cons (length {A = ℕ}) word [])
length-joined (word ∷ (next ∷ rest)) =
    omega (
      arith,
      length-append word (32 ∷ joined (next ∷ rest)),
      length-joined (next ∷ rest),
      sum_by-cons (length {A = ℕ}) word (next ∷ rest),
    )

-- plain words make a plain text
pub plain-joined : (words : List (List ℕ)) → list_all (list_all is_plain_byte) words ≡ true
    → list_all is_plain_byte (joined words) ≡ true
plain-joined [] plain = refl
plain-joined (word ∷ []) plain = (and_parts (list_all is_plain_byte word) true plain).0
plain-joined (word ∷ (next ∷ rest)) plain =
    let parts = and_parts (list_all is_plain_byte word) (list_all (list_all is_plain_byte) (next ∷ rest)) plain in
    list_all-append is_plain_byte word (32 ∷ joined (next ∷ rest))
    ∙ and_from (list_all is_plain_byte word) (list_all is_plain_byte (32 ∷ joined (next ∷ rest))) parts.0
    (plain-joined (next ∷ rest) parts.1)

plain-in_first : (b : ℕ) (pieces : List (List ℕ)) → is_plain_byte b ≡ true
    → list_all (list_all is_plain_byte) pieces ≡ true → list_all (list_all is_plain_byte) (in_first b pieces) ≡ true
plain-in_first b [] plain all = ap (λ t. (t && true) && true) plain
plain-in_first b (piece ∷ pieces) plain all =
    ap (λ t. (t && list_all is_plain_byte piece) && list_all (list_all is_plain_byte) pieces) plain ∙ all

plain-pieces_of : (text : List ℕ) → list_all is_plain_byte text ≡ true
    → list_all (list_all is_plain_byte) (pieces_of text) ≡ true
plain-pieces_of [] plain = refl
plain-pieces_of (b ∷ bytes) plain =
    let parts = and_parts (is_plain_byte b) (list_all is_plain_byte bytes) plain in
    cond_both (b == 32) ([] ∷ pieces_of bytes) (in_first b (pieces_of bytes))
    (λ pieces. list_all (list_all is_plain_byte) pieces ≡ true)
    (λ space. plain-pieces_of bytes parts.1)
    (λ other. plain-in_first b (pieces_of bytes) parts.0 (plain-pieces_of bytes parts.1))

plain-some : (pieces : List (List ℕ)) → list_all (list_all is_plain_byte) pieces ≡ true
    → list_all (list_all is_plain_byte) (filter is_some_text pieces) ≡ true
plain-some [] plain = refl
plain-some ([] ∷ pieces) plain = plain-some pieces plain
plain-some ((b ∷ bytes) ∷ pieces) plain =
    let parts = and_parts (list_all is_plain_byte (b ∷ bytes)) (list_all (list_all is_plain_byte) pieces) plain in
    and_from (list_all is_plain_byte (b ∷ bytes))
    (list_all (list_all is_plain_byte) (filter is_some_text pieces)) parts.0 (plain-some pieces parts.1)

-- the words of a plain text are plain
pub plain-words_of : (text : List ℕ) → list_all is_plain_byte text ≡ true
    → list_all (list_all is_plain_byte) (words_of text) ≡ true
plain-words_of text plain = plain-some (pieces_of text) (plain-pieces_of text plain)

-- the bytes of some texts, and one more for each text
abbrev room_of : List (List ℕ) → ℕ
room_of [] = 0
room_of (text ∷ texts) = suc (length text) + room_of texts

room-in_first : (b : ℕ) (pieces : List (List ℕ)) → 0 < room_of pieces → room_of (in_first b pieces) ≡ room_of pieces + 1
room-in_first b [] some = absurd (omega arith)
room-in_first b (piece ∷ pieces) some = omega arith

room-pieces_of : (text : List ℕ) → room_of (pieces_of text) ≡ length text + 1
room-pieces_of [] = refl
room-pieces_of (b ∷ bytes) =
    cond_both (b == 32) ([] ∷ pieces_of bytes) (in_first b (pieces_of bytes))
    (λ pieces. room_of pieces ≡ length (b ∷ bytes) + 1)
    (λ space. omega (arith, room-pieces_of bytes))
    (λ other. omega (
      arith,
      room-in_first b (pieces_of bytes) (omega (arith, room-pieces_of bytes)),
      room-pieces_of bytes,
    ))

room-some : (pieces : List (List ℕ)) → room_of (filter is_some_text pieces) ≤ room_of pieces
room-some [] = omega arith
room-some ([] ∷ pieces) = omega (arith, room-some pieces)
room-some ((b ∷ bytes) ∷ pieces) = omega (arith, room-some pieces)

room-joined : (words : List (List ℕ)) → length (joined words) ≡ room_of words - 1
room-joined [] = refl
room-joined (word ∷ []) = omega arith
room-joined (word ∷ (next ∷ rest)) =
    omega (arith, length-append word (32 ∷ joined (next ∷ rest)), room-joined (next ∷ rest))

-- the words of a text with one space between them are no longer than the text
pub length-joined-words_of : (text : List ℕ) → length (joined (words_of text)) ≤ length text
length-joined-words_of text =
    omega (arith, room-joined (words_of text), room-some (pieces_of text), room-pieces_of text)

pub ruleset word_laws = (
  words_of_are_words,
  words_of-joined,
  length-joined,
  plain-joined,
  plain-words_of,
  length-joined-words_of,
)
