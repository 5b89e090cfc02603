-- A row's line as it is put, part by part.
use Rattle.std.specs.Prelude.{ℕ, List, ◌∷◌}
use Rattle.std.specs.List.{flat_map}
use Rattle.tt_rows.specs.declared.row.Term.{Term}
use Rattle.tt_rows.specs.Spelling.{Item, Key, Number, Named, Integer, Expression, term_word, words_of_item}
use Rattle.tt_read.specs.Keywords.{keyword_text}
use Rattle.tt_read.specs.declared.showing.Part.{Part}
use Rattle.tt_read.specs.declared.showing.Part.TheVariants as part

-- a part as an item
abbrev pub item_of : Part → Item
item_of (part.Key keyword) = Key (keyword_text keyword)
item_of (part.Number n) = Number n
item_of (part.Named name) = Named name
item_of (part.Integer value) = Integer value
item_of (part.Expression terms) = Expression terms.now

-- a word with a space in front
abbrev pub spaced : List ℕ → List ℕ
spaced word = 32 ∷ word

abbrev pub spaced_term : Term → List ℕ
spaced_term term = spaced (term_word term)

-- the words of an item with a space in front of each
abbrev pub spaced_item : Item → List ℕ
spaced_item item = flat_map spaced (words_of_item item)

abbrev pub spaced_part : Part → List ℕ
spaced_part part = spaced_item (item_of part)
