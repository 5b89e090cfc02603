-- A text that is put piece by piece.
use Rattle.std.proofs.Common.{◌≡◌, ℕ, ◌+◌, ◌<◌, List, [], ◌∷◌, ◌++◌, length, take, drop, get_or, Option, Result, Ok, Err, OnOk, OnErr, map, refl, sym, ap, ◌∙◌, append_assoc, append-nil, take-append-drop}
use Rattle.std.specs.Prelude.{IsErr}
use Rattle.std.specs.List.{flat_map}
use Rattle.std.proofs.lemmas.List.{take_more}
use Rattle.std.proofs.lemmas.Bool.{false≢true}
use Rattle.std.proofs.lemmas.List.Concat.{flat_map-append}
use Rattle.tt_io.specs.declared.whole.WriteFault.{WriteFault}
use Rattle.tt_io.specs.Known.{AppendsPart}
use Rattle.tt_io.specs.Passes.{Passes}
use Rattle.tt_io.proofs.Passing.{part_of_front, passes_more, passes_part, passes_end_part}
use Rattle.tt_rows.specs.declared.row.Term.{Term}
use Rattle.tt_rows.specs.declared.row.Row.{Row}
use Rattle.tt_rows.specs.Spelling.{Item, Key, Expression, items_of, term_word, words_of_item, line_of_row}
use Rattle.tt_doc.specs.Words.{joined}
use Rattle.tt_read.specs.declared.keyword.Keyword.{Keyword}
use Rattle.tt_read.specs.Keywords.{keyword_text}
use Rattle.tt_read.specs.Parts.{spaced, spaced_term, spaced_item}
use Rattle.tt_read.specs.Puts.{Puts}

-- one more piece was put
pub puts_then : {a b : Option (List ℕ)} {so_far mid : List ℕ} → Passes a b so_far mid
    → (r : Result (Unit {0}) WriteFault) (c : Option (List ℕ)) (old new piece text : List ℕ)
    → old ++ text ≡ so_far ++ piece → Puts r b c mid new piece → Puts r a c old new text
puts_then before (Ok u) c old new piece text split now = passes_more (old ++ text) piece split before now
puts_then before (Err e) c old new piece text split now = passes_part c (old ++ text) piece split before now

-- what a buffer's `put` says
pub puts_from : (r : Result (Unit {0}) WriteFault) (b c : Option (List ℕ)) (mid new piece : List ℕ)
    → OnOk r (Passes b c (mid ++ piece) new) → OnErr r (AppendsPart b c (mid ++ piece))
    → Puts r b c mid new piece
puts_from (Ok u) b c mid new piece ok part = ok
puts_from (Err e) b c mid new piece ok part = part

-- the first n of some things were put, each as its own text
pub record Put {X : Type 0} (text : X → List ℕ) (xs : List X) (i : ℕ) (a b : Option (List ℕ))
    (old now : List ℕ) : Type 0 where
  pub passes : Passes a b (old ++ flat_map text (take i xs)) now

text_more : {X : Type 0} (text : X → List ℕ) (xs : List X) (i : ℕ) (d : X) → i < length xs
    → flat_map text (take (i + 1) xs) ≡ flat_map text (take i xs) ++ text (get_or xs i d)
text_more text xs i d inside =
    ap (flat_map text) (take_more xs i d inside)
    ∙ flat_map-append text (take i xs) (get_or xs i d ∷ [])
    ∙ ap (λ piece. flat_map text (take i xs) ++ piece) (append-nil (text (get_or xs i d)))

-- one more thing
pub put_more : {X : Type 0} {text : X → List ℕ} {xs : List X} {i : ℕ} {a b : Option (List ℕ)} {old mid : List ℕ}
    → Put text xs i a b old mid → i < length xs
    → (c : Option (List ℕ)) (now : List ℕ) (x : X) → x ≡ get_or xs i x → Passes b c (mid ++ text x) now
    → Put text xs (i + 1) a c old now
put_more {X} {text} {xs} {i} {a} {b} {old} {mid} put inside c now x is passes = record {
  passes = passes_more (old ++ flat_map text (take (i + 1) xs)) (text x)
      (ap (λ all. old ++ all) (text_more text xs i x inside ∙ ap (λ y. flat_map text (take i xs) ++ text y) (sym is))
      ∙ sym (append_assoc old (flat_map text (take i xs)) (text x)))
      put.passes passes;
}

-- a part of one more thing
pub put_part : {X : Type 0} {text : X → List ℕ} {xs : List X} {i : ℕ} {a b : Option (List ℕ)} {old mid : List ℕ}
    → Put text xs i a b old mid → i < length xs
    → (c : Option (List ℕ)) (x : X) → x ≡ get_or xs i x → AppendsPart b c (mid ++ text x)
    → AppendsPart a c (old ++ flat_map text xs)
put_part {X} {text} {xs} {i} {a} {b} {old} {mid} put inside c x is part =
    let front = flat_map text (take i xs) in
    let rest = flat_map text (drop (i + 1) xs) in
    let split : flat_map text xs ≡ (front ++ text x) ++ rest =
    ap (flat_map text) (sym (take-append-drop (i + 1) xs)) ∙ flat_map-append text (take (i + 1) xs) (drop (i + 1) xs)
    ∙ ap (λ done. done ++ rest) (text_more text xs i x inside ∙ ap (λ y. front ++ text y) (sym is)) in
    part_of_front a c ((old ++ front) ++ text x) rest (old ++ flat_map text xs)
    (ap (λ all. old ++ all) split ∙ sym (append_assoc old (front ++ text x) rest)
    ∙ ap (λ l. l ++ rest) (sym (append_assoc old front (text x))))
    (passes_part c ((old ++ front) ++ text x) (text x) refl put.passes part)

-- a call that answers a fault
pub puts_err : (r : Result (Unit {0}) WriteFault) (a b : Option (List ℕ)) (old new text : List ℕ) → IsErr r
    → AppendsPart a b (old ++ text) → Puts r a b old new text
puts_err (Ok u) a b old new text is part = absurd (false≢true is)
puts_err (Err e) a b old new text is part = part

flat_map-map : {X : Type 0} (f : X → List ℕ) (g : List ℕ → List ℕ) (xs : List X)
    → flat_map (λ x. g (f x)) xs ≡ flat_map g (map f xs)
flat_map-map f g [] = refl
flat_map-map f g (x ∷ xs) = ap (λ rest. g (f x) ++ rest) (flat_map-map f g xs)

-- the terms of an expression are the words of its item
pub terms_are_item : (terms : List Term) → flat_map spaced_term terms ≡ spaced_item (Expression terms)
terms_are_item terms = flat_map-map term_word spaced terms

spaced-joined : (first : List ℕ) (words : List (List ℕ)) → joined (first ∷ words) ≡ first ++ flat_map spaced words
spaced-joined first [] = sym (append-nil first)
spaced-joined first (next ∷ rest) = ap (λ text. first ++ 32 ∷ text) (spaced-joined next rest)

spaced_items : (items : List Item) → flat_map spaced (flat_map words_of_item items) ≡ flat_map spaced_item items
spaced_items [] = refl
spaced_items (item ∷ items) =
    flat_map-append spaced (words_of_item item) (flat_map words_of_item items)
    ∙ ap (λ rest. spaced_item item ++ rest) (spaced_items items)

line_from_items : (first : List ℕ) (rest items : List Item) → items ≡ Key first ∷ rest
    → joined (flat_map words_of_item items) ≡ first ++ flat_map spaced_item rest
line_from_items first rest items is =
    ap (λ all. joined (flat_map words_of_item all)) is
    ∙ spaced-joined first (flat_map words_of_item rest)
    ∙ ap (λ text. first ++ text) (spaced_items rest)

-- what waited and then a row's line: the first word after what waited, the fields, and a LF
pub whole_line : (row : Row) (first : Keyword) (old : List ℕ)
    → items_of row ≡ Key (keyword_text first) ∷ drop 1 (items_of row)
    → old ++ (line_of_row row ++ 10 ∷ [])
    ≡ ((old ++ keyword_text first) ++ flat_map spaced_item (drop 1 (items_of row))) ++ 10 ∷ []
whole_line row first old is =
    let fields = flat_map spaced_item (drop 1 (items_of row)) in
    ap (λ line. old ++ (line ++ 10 ∷ []))
    (line_from_items (keyword_text first) (drop 1 (items_of row)) (items_of row) is)
    ∙ sym (append_assoc old (keyword_text first ++ fields) (10 ∷ []))
    ∙ ap (λ text. text ++ 10 ∷ []) (sym (append_assoc old (keyword_text first) fields))

-- a part of a row's first word was appended
pub part_of_first : (row : Row) (first : Keyword) (a b : Option (List ℕ)) (old word : List ℕ)
    → items_of row ≡ Key (keyword_text first) ∷ drop 1 (items_of row) → word ≡ keyword_text first
    → AppendsPart a b (old ++ word) → AppendsPart a b (old ++ (line_of_row row ++ 10 ∷ []))
part_of_first row first a b old word is same part =
    let fields = flat_map spaced_item (drop 1 (items_of row)) in
    part_of_front a b (old ++ word) (fields ++ 10 ∷ []) (old ++ (line_of_row row ++ 10 ∷ []))
    (whole_line row first old is ∙ append_assoc (old ++ keyword_text first) fields (10 ∷ [])
    ∙ ap (λ text. (old ++ text) ++ (fields ++ 10 ∷ [])) (sym same)) part

-- a part of a row's first word and fields was appended
pub part_of_fields : (row : Row) (first : Keyword) (a b c : Option (List ℕ)) (old mid word : List ℕ)
    → items_of row ≡ Key (keyword_text first) ∷ drop 1 (items_of row) → word ≡ keyword_text first
    → Passes a b (old ++ word) mid → AppendsPart b c (mid ++ flat_map spaced_item (drop 1 (items_of row)))
    → AppendsPart a c (old ++ (line_of_row row ++ 10 ∷ []))
part_of_fields row first a b c old mid word is same passes part =
    let fields = flat_map spaced_item (drop 1 (items_of row)) in
    part_of_front a c ((old ++ word) ++ fields) (10 ∷ []) (old ++ (line_of_row row ++ 10 ∷ []))
    (whole_line row first old is ∙ ap (λ text. ((old ++ text) ++ fields) ++ 10 ∷ []) (sym same))
    (passes_part c ((old ++ word) ++ fields) fields refl passes part)

-- the first word, the fields and the LF were put
pub puts_line : (row : Row) (first : Keyword) (a b c d : Option (List ℕ)) (old mid more new word : List ℕ)
    → items_of row ≡ Key (keyword_text first) ∷ drop 1 (items_of row) → word ≡ keyword_text first
    → Passes a b (old ++ word) mid → Passes b c (mid ++ flat_map spaced_item (drop 1 (items_of row))) more
    → (r : Result (Unit {0}) WriteFault) → Puts r c d more new (10 ∷ [])
    → Puts r a d old new (line_of_row row ++ 10 ∷ [])
puts_line row first a b c d old mid more new word is same passes fields_pass r last =
    let fields = flat_map spaced_item (drop 1 (items_of row)) in
    puts_then (passes_more ((old ++ word) ++ fields) fields refl passes fields_pass) r d old new (10 ∷ [])
    (line_of_row row ++ 10 ∷ [])
    (whole_line row first old is ∙ ap (λ text. ((old ++ text) ++ fields) ++ 10 ∷ []) (sym same)) last

-- where sending what waited fails, a part of all was sent
pub sent_part : {a b : Option (List ℕ)} {so_far waiting : List ℕ} → Passes a b so_far waiting
    → (r : Result (Unit {0}) WriteFault) (c : Option (List ℕ)) (all : List ℕ) → all ≡ so_far
    → OnErr r (AppendsPart b c waiting) → OnErr r (AppendsPart a c all)
sent_part passes (Ok u) c all same part = part
sent_part passes (Err e) c all same part = passes_end_part c all same passes part
