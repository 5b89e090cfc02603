-- The words of a text, cut off from its front.
use Rattle.std.proofs.Common.{◌≡◌, ℕ, ◌+◌, ◌*◌, ◌≤◌, ◌<◌, suc, Bool, true, false, not, ◌==◌, cond, List, [], ◌∷◌, length, take, drop, refl, sym, ap, ◌∙◌, arith, inl, inr}
use Rattle.std.specs.Prelude.{filter, count_by}
use Rattle.std.specs.List.{list_all, prefix_len, sum_by}
use Rattle.std.proofs.lemmas.Bool.{cond_both, cond-false, cond-true, and_parts, false≢true, not-true, not-false, cases_Bool}
use Rattle.std.proofs.lemmas.List.Sums.{sum_by-cons, length-filter, count_by-le-length}
use Rattle.tt_doc.specs.Words.{in_first, pieces_of, words_of, is_some_text, has_no_space, is_word, begins_with_space}
use Rattle.tt_doc.proofs.WordLaws.{words_of_are_words, length-joined, length-joined-words_of}

-- how many spaces a text begins with
abbrev spaces_of : List ℕ → ℕ
spaces_of text = prefix_len (λ b. b == 32) text

-- how many bytes come before its first space
abbrev word_len_of : List ℕ → ℕ
word_len_of text = prefix_len (λ b. not (b == 32)) text

one_more : (n : ℕ) → 1 + n ≡ suc n
one_more n = omega arith

-- a leading space is no part of a word
words_of-space : (b : ℕ) (bytes : List ℕ) → (b == 32) ≡ true → words_of (b ∷ bytes) ≡ words_of bytes
words_of-space b bytes space =
    ap (filter is_some_text) (cond-true (b == 32) ([] ∷ pieces_of bytes) (in_first b (pieces_of bytes)) space)

pub words_of-spaces : (text : List ℕ) → words_of (drop (spaces_of text) text) ≡ words_of text
words_of-spaces [] = refl
words_of-spaces (b ∷ bytes) =
    cond_both (b == 32) (1 + spaces_of bytes) 0 (λ n. words_of (drop n (b ∷ bytes)) ≡ words_of (b ∷ bytes))
    (λ space. ap (λ n. words_of (drop n (b ∷ bytes))) (one_more (spaces_of bytes))
    ∙ words_of-spaces bytes ∙ sym (words_of-space b bytes space))
    (λ other. refl)

pub spaces-passed : (text : List ℕ) → begins_with_space (drop (spaces_of text) text) ≡ false
spaces-passed [] = refl
spaces-passed (b ∷ bytes) =
    cond_both (b == 32) (1 + spaces_of bytes) 0 (λ n. begins_with_space (drop n (b ∷ bytes)) ≡ false)
    (λ space. ap (λ n. begins_with_space (drop n (b ∷ bytes))) (one_more (spaces_of bytes)) ∙ spaces-passed bytes)
    (λ other. other)

-- the pieces after a first one
abbrev pieces_after : List ℕ → List (List ℕ)
pieces_after [] = []
pieces_after (space ∷ bytes) = pieces_of bytes

-- nothing, or a leading space
abbrev is_cut : List ℕ → Bool
is_cut [] = true
is_cut (b ∷ bytes) = b == 32

-- the first piece of a text ends at this length, with the text or at a space
record Cuts (text : List ℕ) (n : ℕ) : Type 0 where
  pieces : pieces_of text ≡ take n text ∷ pieces_after (drop n text)
  cut : is_cut (drop n text) ≡ true

cuts : (text : List ℕ) → Cuts text (word_len_of text)
cuts [] = record { pieces = refl; cut = refl }
cuts (b ∷ bytes) =
    cond_both (not (b == 32)) (1 + word_len_of bytes) 0 (Cuts (b ∷ bytes))
    (λ other. rw one_more (record {
      pieces = cond-false (b == 32) ([] ∷ pieces_of bytes) (in_first b (pieces_of bytes)) (not-true (b == 32) other)
          ∙ ap (in_first b) (cuts bytes).pieces;
      cut = (cuts bytes).cut;
    }))
    (λ space. record {
      pieces = cond-true (b == 32) ([] ∷ pieces_of bytes) (in_first b (pieces_of bytes)) (not-false (b == 32) space);
      cut = not-false (b == 32) space;
    })

words_after : (rest : List ℕ) → is_cut rest ≡ true → filter is_some_text (pieces_after rest) ≡ words_of rest
words_after [] cut = refl
words_after (b ∷ bytes) cut = sym (words_of-space b bytes cut)

-- where a text begins with a word, its words are that word and those of the rest
pub words_of-cut : (text : List ℕ) → (length text == 0) ≡ false → begins_with_space text ≡ false
    → words_of text ≡ take (word_len_of text) text ∷ words_of (drop (word_len_of text) text)
words_of-cut [] some next = absurd (false≢true (sym some))
words_of-cut (b ∷ bytes) some next =
    let text = b ∷ bytes in
    let n : word_len_of text ≡ suc (word_len_of bytes) =
    ap (λ t. cond (not t) (1 + word_len_of bytes) 0) next ∙ one_more (word_len_of bytes) in
    ap (filter is_some_text) (cuts text).pieces
    ∙ ap (λ k. filter is_some_text (take k text ∷ pieces_after (drop k text))) n
    ∙ ap (λ words. (b ∷ take (word_len_of bytes) bytes) ∷ words)
    (words_after (drop (word_len_of bytes) bytes) (cuts bytes).cut)
    ∙ sym (ap (λ k. take k text ∷ words_of (drop k text)) n)

-- each word has a byte
lengths_of_words : (words : List (List ℕ)) → list_all is_word words ≡ true
    → length words ≤ sum_by (length {A = ℕ}) words
lengths_of_words [] good = omega arith
lengths_of_words ([] ∷ words) good = absurd (false≢true good)
lengths_of_words ((b ∷ bytes) ∷ words) good =
    omega (
      arith,
      sum_by-cons (length {A = ℕ}) (b ∷ bytes) words,
      lengths_of_words words (and_parts (has_no_space (b ∷ bytes)) (list_all is_word words) good).1,
    )

-- a text has at most one word for two bytes
pub few_words : (text : List ℕ) → 2 * length (words_of text) ≤ length text + 1
few_words text =
    omega (
      arith,
      length-joined-words_of text,
      length-joined (words_of text),
      lengths_of_words (words_of text) (words_of_are_words text),
    )

length-in_first : (b : ℕ) (pieces : List (List ℕ)) → 0 < length pieces → length (in_first b pieces) ≡ length pieces
length-in_first b [] some = absurd (omega arith)
length-in_first b (piece ∷ pieces) some = refl

-- a text has one piece more than spaces
length-pieces_of : (text : List ℕ) → length (pieces_of text) ≡ count_by (λ b. b == 32) text + 1
length-pieces_of [] = refl
length-pieces_of (b ∷ bytes) =
    elim (cases_Bool (b == 32)) [
      | inl space ↦
          let one : ◌≡◌ {A = ℕ} (cond (b == 32) 1 0) 1 = cond-true (b == 32) 1 0 space in
          let cut = ap (length {A = List ℕ})
          (cond-true (b == 32) ([] ∷ pieces_of bytes) (in_first b (pieces_of bytes)) space) in
          omega (arith, one, cut, sum_by-cons (λ (x : ℕ). cond (x == 32) 1 0) b bytes, length-pieces_of bytes)
      | inr other ↦
          let none : ◌≡◌ {A = ℕ} (cond (b == 32) 1 0) 0 = cond-false (b == 32) 1 0 other in
          let same = ap (length {A = List ℕ})
          (cond-false (b == 32) ([] ∷ pieces_of bytes) (in_first b (pieces_of bytes)) other) in
          omega (
            arith,
            none,
            same,
            sum_by-cons (λ (x : ℕ). cond (x == 32) 1 0) b bytes,
            length-pieces_of bytes,
            length-in_first b (pieces_of bytes) (omega (arith, length-pieces_of bytes)),
          )
    ]

-- so it has at most that many words
pub words_by_spaces : (text : List ℕ) → length (words_of text) ≤ count_by (λ b. b == 32) text + 1
words_by_spaces text =
    omega (
      arith,
      length-filter is_some_text (pieces_of text),
      count_by-le-length is_some_text (pieces_of text),
      length-pieces_of text,
    )
