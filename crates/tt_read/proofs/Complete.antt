-- Nothing of the grammar is refused: the words that spell a sound row are read as that row.
use Rattle.std.proofs.Common.{◌≡◌, ℕ, ◌^◌, true, ◌&&◌, List, [], ◌∷◌, ◌++◌, map, length, Option, Some, None, ℤ, refl, sym, ap, ◌∙◌}
use Rattle.std.specs.Prelude.{nat_le, nat_lt, option_map}
use Rattle.std.specs.List.{list_all, flat_map}
use Rattle.std.specs.Fmt.{decimal, signed_decimal}
use Rattle.std.proofs.lemmas.Bool.{cond-true, and_parts, ltb-true}
use Rattle.std.proofs.lemmas.List.{append-nil}
use Rattle.tt_base.specs.Name.{is_name}
use Rattle.tt_doc.specs.Numbers.{number_of, integer_of}
use Rattle.tt_doc.proofs.NumberLaws.{number_of-decimal, integer_of-signed_decimal}
use Rattle.tt_rows.specs.declared.row.Term.{Term}
use Rattle.tt_rows.specs.declared.row.Row.{Row}
use Rattle.tt_rows.specs.declared.row.Row.TheVariants as r
use Rattle.tt_rows.specs.Spelling.{Item, Key, Number, Named, Integer, Expression, items_of, words_of_item, term_word, spelling_of, line_of_row}
use Rattle.tt_rows.specs.Sound.{is_integer, is_sound_term, is_sound_item, are_expressions}
use Rattle.tt_read.specs.declared.keyword.Keyword.{Keyword}
use Rattle.tt_read.specs.declared.keyword.Keyword.TheVariants as k
use Rattle.tt_read.specs.Keywords.{keyword_text, keyword_of}
use Rattle.tt_read.specs.Reading.{Reader, terms_of, stop, stop_or, with_some, one, name_of, keyword, number, integer, name, expression_of, expression, after_first, row_by_words, row_of}
use Rattle.tt_read.specs.Spells.{Spells}
use Rattle.tt_read.proofs.TermLaws.{terms_of-words, fits_from_integer}

-- from sound items a reader gives this row
pub record Reads (reader : Reader) (items : List Item) (row : Row) : Type 0 where
  pub at : list_all is_sound_item items ≡ true → reader (flat_map words_of_item items) ≡ Some row

keyword_of-text : (key : Keyword) → keyword_of (keyword_text key) ≡ Some key
unfolding keyword_of
keyword_of-text k.Osektime = refl
keyword_of-text k.One = refl
keyword_of-text k.Round = refl
keyword_of-text k.Adjust = refl
keyword_of-text k.Mode = refl
keyword_of-text k.Var = refl
keyword_of-text k.Demand = refl
keyword_of-text k.Task = refl
keyword_of-text k.Isr = refl
keyword_of-text k.Osek = refl
keyword_of-text k.Auto = refl
keyword_of-text k.Oisr = refl
keyword_of-text k.Hook = refl
keyword_of-text k.Error = refl
keyword_of-text k.Shutdown = refl
keyword_of-text k.At = refl
keyword_of-text k.Activate = refl
keyword_of-text k.Stringent = refl
keyword_of-text k.Nonstringent = refl
keyword_of-text k.Enable = refl
keyword_of-text k.Start = refl
keyword_of-text k.Rounds = refl
keyword_of-text k.Value = refl
keyword_of-text k.Arrive = refl
keyword_of-text k.Time = refl
keyword_of-text k.Work = refl
keyword_of-text k.Take = refl
keyword_of-text k.Set = refl
keyword_of-text k.If = refl
keyword_of-text k.Else = refl
keyword_of-text k.Repeat = refl
keyword_of-text k.End = refl
keyword_of-text k.Out = refl
keyword_of-text k.Switch = refl
keyword_of-text k.Sync = refl
keyword_of-text k.Chain = refl
keyword_of-text k.Terminate = refl

reads_stop : (row : Row) → Reads (stop row) [] row
unfolding stop
reads_stop row = record { at = λ sound. refl }

reads_end : (row : Row) (next : Reader) → Reads (stop_or row next) [] row
unfolding stop_or
reads_end row next = record { at = λ sound. refl }

reads_one : {A : Type 0} (read : List ℕ → Option A) (next : A → Reader) (word : List ℕ) (a : A)
    (words : List (List ℕ)) (row : Row)
    → read word ≡ Some a → next a words ≡ Some row → one read next (word ∷ words) ≡ Some row
unfolding one
reads_one read next word a words row is later = ap (λ o. with_some next o words) is ∙ later

reads_keyword : (next : Keyword → Reader) (key : Keyword) (items : List Item) (row : Row) → Reads (next key) items row
    → Reads (keyword next) (Key (keyword_text key) ∷ items) row
reads_keyword next key items row later = record {
  at = λ sound. reads_one keyword_of next (keyword_text key) key (flat_map words_of_item items) row
      (keyword_of-text key) (later.at sound);
}

reads_number : (next : ℕ → Reader) (n : ℕ) (items : List Item) (row : Row) → Reads (next n) items row
    → Reads (number next) (Number n ∷ items) row
reads_number next n items row later = record {
  at = λ sound.
      let parts = and_parts (nat_lt n (10 ^ 12)) (list_all is_sound_item items) sound in
      reads_one number_of next (decimal n) n (flat_map words_of_item items) row
      (number_of-decimal n (ltb-true n (10 ^ 12) parts.0)) (later.at parts.1);
}

reads_integer : (next : ℤ → Reader) (value : ℤ) (items : List Item) (row : Row) → Reads (next value) items row
    → Reads (integer next) (Integer value ∷ items) row
reads_integer next value items row later = record {
  at = λ sound.
      let parts = and_parts (is_integer value) (list_all is_sound_item items) sound in
      reads_one integer_of next (signed_decimal value) value (flat_map words_of_item items) row
      (integer_of-signed_decimal value (fits_from_integer value parts.0)) (later.at parts.1);
}

reads_name : (next : List ℕ → Reader) (text : List ℕ) (items : List Item) (row : Row) → Reads (next text) items row
    → Reads (name next) (Named text ∷ items) row
reads_name next text items row later = record {
  at = λ sound.
      let parts = and_parts (is_name text) (list_all is_sound_item items) sound in
      reads_one name_of next text text (flat_map words_of_item items) row
      (cond-true (is_name text) (Some text) None parts.0) (later.at parts.1);
}

-- where something follows, the reader of what follows goes on
reads_on : (before : Row) (next : Reader) (item : Item) (word : List ℕ) (items : List Item) (row : Row)
    → words_of_item item ≡ word ∷ []
    → Reads next (item ∷ items) row → Reads (stop_or before next) (item ∷ items) row
unfolding stop_or
reads_on before next item word items row is later = record {
  at = λ sound.
      ap (λ ws. stop_or before next (ws ++ flat_map words_of_item items)) is
      ∙ ap (λ ws. next (ws ++ flat_map words_of_item items)) (sym is) ∙ later.at sound;
}

reads_expression : (build : List Term → Row) (terms : List Term)
    → Reads (expression build) (Expression terms ∷ []) (build terms)
unfolding expression
reads_expression build terms = record {
  at = λ sound.
      let parts = and_parts (list_all is_sound_term terms && are_expressions 1 terms) true sound in
      let two = and_parts (list_all is_sound_term terms) (are_expressions 1 terms) parts.0 in
      ap (λ ws. option_map build (expression_of (terms_of ws))) (append-nil (map term_word terms))
      ∙ ap (λ o. option_map build (expression_of o)) (terms_of-words terms two.0)
      ∙ ap (option_map build) (cond-true (are_expressions 1 terms) (Some terms) None two.1);
}

reads_row : (row : Row) → Reads row_by_words (items_of row) row
reads_row r.Header = reads_keyword after_first k.Osektime _ _ (reads_keyword _ k.One _ _ (reads_stop _))
reads_row (r.Round ticks) = reads_keyword after_first k.Round _ _ (reads_number _ _ _ _ (reads_stop _))
reads_row (r.Adjust most) = reads_keyword after_first k.Adjust _ _ (reads_number _ _ _ _ (reads_stop _))
reads_row (r.Mode mode) = reads_keyword after_first k.Mode _ _ (reads_name _ _ _ _ (reads_stop _))
reads_row (r.Var var value) =
    reads_keyword after_first k.Var _ _ (reads_name _ _ _ _ (reads_integer _ _ _ _ (reads_stop _)))
reads_row (r.Demand demand most usual) =
    reads_keyword after_first k.Demand _ _
    (reads_name _ _ _ _ (reads_number _ _ _ _ (reads_number _ _ _ _ (reads_stop _))))
reads_row (r.Task task stack) =
    reads_keyword after_first k.Task _ _ (reads_name _ _ _ _ (reads_number _ _ _ _ (reads_stop _)))
reads_row (r.Isr isr level stack) =
    reads_keyword after_first k.Isr _ _
    (reads_name _ _ _ _ (reads_number _ _ _ _ (reads_number _ _ _ _ (reads_end _ _))))
reads_row (r.IsrFar isr level stack distance) =
    reads_keyword after_first k.Isr _ _
    (reads_name _ _ _ _ (reads_number _ _ _ _
    (reads_number _ _ _ _ (reads_on _ _ _ _ _ _ refl (reads_number _ _ _ _ (reads_stop _))))))
reads_row (r.Osek task priority) =
    reads_keyword after_first k.Osek _ _ (reads_name _ _ _ _ (reads_number _ _ _ _ (reads_end _ _)))
reads_row (r.OsekAuto task priority) =
    reads_keyword after_first k.Osek _ _
    (reads_name _ _ _ _ (reads_number _ _ _ _
    (reads_on _ _ _ _ _ _ refl (reads_keyword _ k.Auto _ _ (reads_stop _)))))
reads_row (r.Oisr oisr priority) =
    reads_keyword after_first k.Oisr _ _ (reads_name _ _ _ _ (reads_number _ _ _ _ (reads_stop _)))
reads_row r.HookError = reads_keyword after_first k.Hook _ _ (reads_keyword _ k.Error _ _ (reads_stop _))
reads_row r.HookShutdown = reads_keyword after_first k.Hook _ _ (reads_keyword _ k.Shutdown _ _ (reads_stop _))
reads_row (r.AtStringent offset mode task deadline) =
    reads_keyword after_first k.At _ _ (reads_number _ _ _ _ (reads_name _ _ _ _ (reads_keyword _ k.Activate _ _
    (reads_name _ _ _ _ (reads_number _ _ _ _ (reads_keyword _ k.Stringent _ _ (reads_stop _)))))))
reads_row (r.AtNonstringent offset mode task deadline) =
    reads_keyword after_first k.At _ _ (reads_number _ _ _ _ (reads_name _ _ _ _ (reads_keyword _ k.Activate _ _
    (reads_name _ _ _ _ (reads_number _ _ _ _ (reads_keyword _ k.Nonstringent _ _ (reads_stop _)))))))
reads_row (r.AtEnable offset mode isr) =
    reads_keyword after_first k.At _ _
    (reads_number _ _ _ _ (reads_name _ _ _ _ (reads_keyword _ k.Enable _ _ (reads_name _ _ _ _ (reads_stop _)))))
reads_row (r.Start mode) = reads_keyword after_first k.Start _ _ (reads_name _ _ _ _ (reads_stop _))
reads_row (r.Rounds count) = reads_keyword after_first k.Rounds _ _ (reads_number _ _ _ _ (reads_stop _))
reads_row (r.Value demand value) =
    reads_keyword after_first k.Value _ _ (reads_name _ _ _ _ (reads_number _ _ _ _ (reads_stop _)))
reads_row (r.Arrive source tick) =
    reads_keyword after_first k.Arrive _ _ (reads_name _ _ _ _ (reads_number _ _ _ _ (reads_stop _)))
reads_row (r.Time global) = reads_keyword after_first k.Time _ _ (reads_number _ _ _ _ (reads_stop _))
reads_row (r.Work ticks) = reads_keyword after_first k.Work _ _ (reads_number _ _ _ _ (reads_stop _))
reads_row (r.Take demand) = reads_keyword after_first k.Take _ _ (reads_name _ _ _ _ (reads_stop _))
reads_row (r.Set var terms) =
    reads_keyword after_first k.Set _ _ (reads_name _ _ _ _ (reads_expression (λ terms. r.Set var terms) terms))
reads_row (r.If terms) = reads_keyword after_first k.If _ _ (reads_expression (λ terms. r.If terms) terms)
reads_row r.Else = reads_keyword after_first k.Else _ _ (reads_stop _)
reads_row (r.Repeat turns) = reads_keyword after_first k.Repeat _ _ (reads_number _ _ _ _ (reads_stop _))
reads_row r.End = reads_keyword after_first k.End _ _ (reads_stop _)
reads_row (r.Out terms) = reads_keyword after_first k.Out _ _ (reads_expression (λ terms. r.Out terms) terms)
reads_row (r.Switch mode) = reads_keyword after_first k.Switch _ _ (reads_name _ _ _ _ (reads_stop _))
reads_row r.Sync = reads_keyword after_first k.Sync _ _ (reads_stop _)
reads_row r.Shutdown = reads_keyword after_first k.Shutdown _ _ (reads_stop _)
reads_row (r.Activate task) = reads_keyword after_first k.Activate _ _ (reads_name _ _ _ _ (reads_stop _))
reads_row (r.Chain task) = reads_keyword after_first k.Chain _ _ (reads_name _ _ _ _ (reads_stop _))
reads_row r.Terminate = reads_keyword after_first k.Terminate _ _ (reads_stop _)

-- the words that spell a sound row are read as that row
pub row_of-spelled : (words : List (List ℕ)) (row : Row) → Spells words row → row_of words ≡ Some row
unfolding row_of
row_of-spelled words row spells =
    let parts = and_parts (list_all is_sound_item (items_of row))
    (nat_le (length (line_of_row row)) 200) spells.sound in
    ap row_of (sym spells.spelled)
    ∙ cond-true (nat_le (length (line_of_row row)) 200) (row_by_words (spelling_of row)) None parts.1
    ∙ (reads_row row).at parts.0
