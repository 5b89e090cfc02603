-- The words of a line: the longest runs of bytes other than the space.
use Rattle.std.specs.Prelude.{ℕ, ◌==◌, ◌&&◌, Bool, true, false, List, [], ◌∷◌, ◌++◌, filter, if◌then◌else◌}

-- one more byte, at the front of the first piece
abbrev pub in_first : ℕ → List (List ℕ) → List (List ℕ)
in_first b [] = (b ∷ []) ∷ []
in_first b (piece ∷ pieces) = (b ∷ piece) ∷ pieces

-- the pieces between the spaces, some of which may be empty
abbrev pub pieces_of : List ℕ → List (List ℕ)
pieces_of [] = [] ∷ []
pieces_of (b ∷ bytes) = if b == 32 then [] ∷ pieces_of bytes else in_first b (pieces_of bytes)

-- some bytes
abbrev pub is_some_text : List ℕ → Bool
is_some_text [] = false
is_some_text (b ∷ bytes) = true

-- the words of a text, in order
abbrev pub words_of : List ℕ → List (List ℕ)
words_of text = filter is_some_text (pieces_of text)

-- words with one space between them
abbrev pub joined : List (List ℕ) → List ℕ
joined [] = []
joined (word ∷ []) = word
joined (word ∷ (next ∷ rest)) = word ++ 32 ∷ joined (next ∷ rest)

-- no byte is a space
abbrev pub has_no_space : List ℕ → Bool
has_no_space [] = true
has_no_space (b ∷ bytes) = if b == 32 then false else has_no_space bytes

-- bytes that can be a word: some, and none of them a space
abbrev pub is_word : List ℕ → Bool
is_word word = is_some_text word && has_no_space word

abbrev pub begins_with_space : List ℕ → Bool
begins_with_space [] = false
begins_with_space (b ∷ bytes) = b == 32

-- the words of a line that is no row: there are none, or the first begins with `#`
abbrev pub is_comment : List (List ℕ) → Bool
is_comment [] = true
is_comment ([] ∷ words) = false
is_comment ((first ∷ rest) ∷ words) = first == 35
