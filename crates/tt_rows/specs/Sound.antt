-- Which rows a document can have.
use Rattle.std.specs.Prelude.{◌≡◌, ℕ, zero, suc, ◌+◌, ◌^◌, ◌<◌, ◌≤◌, ◌&&◌, nat_lt, nat_le, Bool, true, false, ℤ, pos, negsuc, List, [], ◌∷◌, length, IsTrue}
use Rattle.std.specs.List.{list_all}
use Rattle.task_lang.specs.declared.syntax.Op.{Op}
use Rattle.tt_base.specs.Name.{is_name}
use Rattle.tt_rows.specs.declared.row.Term.{Term}
use Rattle.tt_rows.specs.declared.row.Term.TheVariants as term
use Rattle.tt_rows.specs.declared.row.Row.{Row}
use Rattle.tt_rows.specs.declared.row.NumberedRow.{NumberedRow}
use Rattle.tt_rows.specs.Spelling.{Item, Key, Number, Named, Integer, Expression, items_of, line_of_row}

-- n expressions in prefix form, one after another. An integer or a name is an expression; so is an operator with the
-- two expressions after it
abbrev pub are_expressions : ℕ → List Term → Bool
are_expressions zero [] = true
are_expressions zero (first ∷ rest) = false
are_expressions (suc n) [] = false
are_expressions (suc n) (term.Int value ∷ rest) = are_expressions n rest
are_expressions (suc n) (term.Name name ∷ rest) = are_expressions n rest
are_expressions (suc n) (term.Op op ∷ rest) = are_expressions (suc (suc n)) rest

-- an integer of 32 signed bits
abbrev pub is_integer : ℤ → Bool
is_integer (pos n) = nat_lt n (2 ^ 31)
is_integer (negsuc n) = nat_lt n (2 ^ 31)

abbrev pub is_sound_term : Term → Bool
is_sound_term (term.Int value) = is_integer value
is_sound_term (term.Name name) = is_name name
is_sound_term (term.Op op) = true

-- numbers are below 10^12, names are names, integers have 32 signed bits, and terms are exactly one expression
abbrev pub is_sound_item : Item → Bool
is_sound_item (Key word) = true
is_sound_item (Number n) = nat_lt n (10 ^ 12)
is_sound_item (Named name) = is_name name
is_sound_item (Integer value) = is_integer value
is_sound_item (Expression terms) = list_all is_sound_term terms && are_expressions 1 terms

-- a row that can be written in a line of at most 200 bytes
abbrev pub is_sound_row : Row → Bool
is_sound_row row = list_all is_sound_item (items_of row) && nat_le (length (line_of_row row)) 200

-- line numbers ascend strictly, from at least this one
abbrev pub ascend_from : ℕ → List NumberedRow → Bool
ascend_from least [] = true
ascend_from least (row ∷ rows) = nat_le least row.line && ascend_from (suc row.line) rows

-- rows that a document can have: each can be a line, and their line numbers ascend strictly, from at least 1
pub record AreSound (rows : List NumberedRow) : Type 0 where
  pub ascending : ascend_from 1 rows ≡ true
  pub sound : list_all (λ (row : NumberedRow). is_sound_row row.row) rows ≡ true
