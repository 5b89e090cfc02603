-- What is read is in the grammar: a row that a reader gives is spelled by the words that it was given.
use Rattle.std.proofs.Common.{◌≡◌, ℕ, ◌^◌, true, List, [], ◌∷◌, ◌++◌, map, length, Option, Some, None, ℤ, refl, sym, ap, ◌∙◌, subst, inl, inr}
use Rattle.std.specs.Prelude.{nat_le, option_map}
use Rattle.std.specs.List.{list_all, flat_map}
use Rattle.std.proofs.lemmas.Bool.{cond-true, cond-false, and_from, cases_Bool, lt-ltb}
use Rattle.std.proofs.lemmas.List.{append-nil}
use Rattle.tt_base.specs.Name.{is_name}
use Rattle.tt_doc.specs.Numbers.{number_of, integer_of}
use Rattle.tt_doc.specs.Words.{joined}
use Rattle.tt_doc.proofs.NumberLaws.{number_of-spelled, integer_of-spelled}
use Rattle.tt_rows.specs.declared.row.Term.{Term}
use Rattle.tt_rows.specs.declared.row.Row.{Row}
use Rattle.tt_rows.specs.Spelling.{Item, Key, Number, Named, Integer, Expression, items_of, words_of_item, spelling_of, line_of_row}
use Rattle.tt_rows.specs.Sound.{is_sound_term, is_sound_item, are_expressions}
use Rattle.tt_read.specs.declared.keyword.Keyword.{Keyword}
use Rattle.tt_read.specs.declared.keyword.Keyword.TheVariants as k
use Rattle.tt_read.specs.Keywords.{keyword_text, keyword_of}
use Rattle.tt_read.specs.Reading.{Reader, terms_of, stop, stop_or, with_some, one, name_of, keyword, number, integer, name, expression_of, expression, fail, after_hook, after_deadline, after_mode, after_one, after_priority, after_first, row_by_words, row_of}
use Rattle.tt_read.specs.Spells.{Spells}
use Rattle.tt_read.proofs.TermLaws.{keyword_of-spelled, terms_of-spelled, integer_from_fits}

-- a row has these items after its first ones, and these words spell them
pub record Found (front : List Item → List Item) (words : List (List ℕ)) (row : Row) : Type 0 where
  pub items : List Item
  pub whole : items_of row ≡ front items
  pub spelled : flat_map words_of_item items ≡ words
  pub sound : list_all is_sound_item items ≡ true

-- what a reader gives begins with these items, and the words that it was given spell the others
pub record Finds (front : List Item → List Item) (reader : Reader) : Type 0 where
  pub at : (words : List (List ℕ)) (row : Row) → reader words ≡ Some row → Found front words row

found_in_front : (front : List Item → List Item) (item : Item) (word : List ℕ) (words : List (List ℕ)) (row : Row)
    → words_of_item item ≡ word ∷ [] → is_sound_item item ≡ true → Found (λ items. front (item ∷ items)) words row
    → Found front (word ∷ words) row
found_in_front front item word words row one good found = record {
  items = item ∷ found.items;
  whole = found.whole;
  spelled = ap (λ ws. ws ++ flat_map words_of_item found.items) one ∙ ap (λ ws. word ∷ ws) found.spelled;
  sound = and_from (is_sound_item item) (list_all is_sound_item found.items) good found.sound;
}

stop_at : (front : List Item → List Item) (row : Row) → items_of row ≡ front []
    → (words : List (List ℕ)) (found : Row) → stop row words ≡ Some found
    → Found front words found
unfolding stop
stop_at front row whole [] found h =
    let one : row ≡ found = cc in
    subst (Found front []) one (record { items = []; whole = whole; spelled = refl; sound = refl })
stop_at front row whole (word ∷ words) found h = cc

pub finds_stop : (front : List Item → List Item) (row : Row) → items_of row ≡ front [] → Finds front (stop row)
finds_stop front row whole = record { at = stop_at front row whole }

pub finds_fail : (front : List Item → List Item) → Finds front fail
unfolding fail
finds_fail front = record { at = λ words row h. cc }

stop_or_at : (front : List Item → List Item) (row : Row) (next : Reader) → items_of row ≡ front [] → Finds front next
    → (words : List (List ℕ)) (found : Row) → stop_or row next words ≡ Some found → Found front words found
unfolding stop_or
stop_or_at front row next whole finds [] found h =
    let one : row ≡ found = cc in
    subst (Found front []) one (record { items = []; whole = whole; spelled = refl; sound = refl })
stop_or_at front row next whole finds (word ∷ words) found h = finds.at (word ∷ words) found h

pub finds_stop_or : (front : List Item → List Item) (row : Row) (next : Reader) → items_of row ≡ front []
    → Finds front next → Finds front (stop_or row next)
finds_stop_or front row next whole finds = record { at = stop_or_at front row next whole finds }

-- a word is read as a value, and the value's item is spelled by that word
record Holds {A : Type 0} (read : List ℕ → Option A) (item : A → Item) : Type 0 where
  at : (word : List ℕ) (a : A) → read word ≡ Some a
      → (words_of_item (item a) ≡ word ∷ []) × (is_sound_item (item a) ≡ true)

with_some_at : {A : Type 0} (front : List Item → List Item) (read : List ℕ → Option A) (item : A → Item)
    (next : A → Reader) (o : Option A) (word : List ℕ)
    → Holds read item → read word ≡ o → ((a : A) → Finds (λ items. front (item a ∷ items)) (next a))
    → (words : List (List ℕ)) (found : Row) → with_some next o words ≡ Some found → Found front (word ∷ words) found
with_some_at front read item next None word holds is finds words found h = cc
with_some_at front read item next (Some a) word holds is finds words found h =
    let parts = holds.at word a is in
    found_in_front front (item a) word words found parts.0 parts.1 ((finds a).at words found h)

one_at : {A : Type 0} (front : List Item → List Item) (read : List ℕ → Option A) (item : A → Item) (next : A → Reader)
    → Holds read item → ((a : A) → Finds (λ items. front (item a ∷ items)) (next a))
    → (words : List (List ℕ)) (found : Row) → one read next words ≡ Some found → Found front words found
unfolding one
one_at front read item next holds finds [] found h = cc
one_at front read item next holds finds (word ∷ words) found h =
    with_some_at front read item next (read word) word holds refl finds words found h

pub finds_keyword : (front : List Item → List Item) (next : Keyword → Reader)
    → ((key : Keyword) → Finds (λ items. front (Key (keyword_text key) ∷ items)) (next key))
    → Finds front (keyword next)
finds_keyword front next finds = record {
  at = one_at front keyword_of (λ key. Key (keyword_text key)) next
      (record { at = λ word key is. (ap (λ w. w ∷ []) (sym (keyword_of-spelled word key is)), refl) }) finds;
}

pub finds_number : (front : List Item → List Item) (next : ℕ → Reader)
    → ((n : ℕ) → Finds (λ items. front (Number n ∷ items)) (next n)) → Finds front (number next)
finds_number front next finds = record {
  at = one_at front number_of Number next
      (record {
        at = λ word n is. let parts = number_of-spelled word n is in
            (ap (λ w. w ∷ []) (sym parts.0), lt-ltb n (10 ^ 12) parts.1);
      }) finds;
}

pub finds_integer : (front : List Item → List Item) (next : ℤ → Reader)
    → ((value : ℤ) → Finds (λ items. front (Integer value ∷ items)) (next value))
    → Finds front (integer next)
finds_integer front next finds = record {
  at = one_at front integer_of Integer next
      (record {
        at = λ word value is. let parts = integer_of-spelled word value is in
            (ap (λ w. w ∷ []) (sym parts.0), integer_from_fits value parts.1);
      }) finds;
}

name_of-named : (word text : List ℕ) → name_of word ≡ Some text → (word ≡ text) × (is_name text ≡ true)
name_of-named word text is =
    elim (cases_Bool (is_name word)) [
      | inl e ↦
          let same : Some word ≡ Some text = sym (cond-true (is_name word) (Some word) None e) ∙ is in
          let one : word ≡ text = cc in
          (one, ap is_name (sym one) ∙ e)
      | inr e ↦ let none : None ≡ Some text = sym (cond-false (is_name word) (Some word) None e) ∙ is in cc
    ]

pub finds_name : (front : List Item → List Item) (next : List ℕ → Reader)
    → ((text : List ℕ) → Finds (λ items. front (Named text ∷ items)) (next text))
    → Finds front (name next)
finds_name front next finds = record {
  at = one_at front name_of Named next
      (record {
        at = λ word text is. let parts = name_of-named word text is in
            (ap (λ w. w ∷ []) (sym parts.0), parts.1);
      }) finds;
}

expression_at : (front : List Item → List Item) (build : List Term → Row)
    → ((terms : List Term) → items_of (build terms) ≡ front (Expression terms ∷ []))
    → (words : List (List ℕ)) (o : Option (List Term)) (found : Row) → terms_of words ≡ o
    → option_map build (expression_of o) ≡ Some found → Found front words found
expression_at front build whole words None found is h = cc
expression_at front build whole words (Some terms) found is h =
    elim (cases_Bool (are_expressions 1 terms)) [
      | inl e ↦
          let same : Some (build terms) ≡ Some found =
          sym (ap (option_map build) (cond-true (are_expressions 1 terms) (Some terms) None e)) ∙ h in
          let one : build terms ≡ found = cc in
          let spells = terms_of-spelled words terms is in
          subst (Found front words) one (record {
            items = Expression terms ∷ [];
            whole = whole terms;
            spelled = append-nil (map _ terms) ∙ spells.spelled;
            sound = and_from (is_sound_item (Expression terms)) true
                (and_from (list_all is_sound_term terms) (are_expressions 1 terms) spells.sound e) refl;
          })
      | inr e ↦ let none : None ≡ Some found =
          sym (ap (option_map build) (cond-false (are_expressions 1 terms) (Some terms) None e)) ∙ h in cc
    ]

pub finds_expression : (front : List Item → List Item) (build : List Term → Row)
    → ((terms : List Term) → items_of (build terms) ≡ front (Expression terms ∷ []))
    → Finds front (expression build)
unfolding expression
finds_expression front build whole =
    record { at = λ words found h. expression_at front build whole words (terms_of words) found refl h }

abbrev after_front : (List Item → List Item) → Keyword → List Item → List Item
after_front front key items = front (Key (keyword_text key) ∷ items)

finds_after_one : (key : Keyword)
    → Finds (after_front (λ items. Key (keyword_text k.Osektime) ∷ items) key) (after_one key)
finds_after_one k.One = finds_stop _ _ refl
finds_after_one _ = finds_fail _

finds_after_hook : (key : Keyword)
    → Finds (after_front (λ items. Key (keyword_text k.Hook) ∷ items) key) (after_hook key)
finds_after_hook k.Error = finds_stop _ _ refl
finds_after_hook k.Shutdown = finds_stop _ _ refl
finds_after_hook _ = finds_fail _

finds_after_priority : (task : List ℕ) (priority : ℕ) (key : Keyword)
    → Finds (after_front (λ items. Key (keyword_text k.Osek) ∷ Named task ∷ Number priority ∷ items) key)
    (after_priority task priority key)
finds_after_priority task priority k.Auto = finds_stop _ _ refl
finds_after_priority task priority _ = finds_fail _

finds_after_deadline : (offset : ℕ) (mode task : List ℕ) (deadline : ℕ) (key : Keyword)
    → Finds (after_front (λ items. Key (keyword_text k.At) ∷ Number offset ∷ Named mode ∷ Key (keyword_text k.Activate)
    ∷ Named task ∷ Number deadline ∷ items) key) (after_deadline offset mode task deadline key)
finds_after_deadline offset mode task deadline k.Stringent = finds_stop _ _ refl
finds_after_deadline offset mode task deadline k.Nonstringent = finds_stop _ _ refl
finds_after_deadline offset mode task deadline _ = finds_fail _

finds_after_mode : (offset : ℕ) (mode : List ℕ) (key : Keyword)
    → Finds (after_front (λ items. Key (keyword_text k.At) ∷ Number offset ∷ Named mode ∷ items) key)
    (after_mode offset mode key)
finds_after_mode offset mode k.Activate =
    finds_name _ _ (λ task. finds_number _ _
    (λ deadline. finds_keyword _ _ (finds_after_deadline offset mode task deadline)))
finds_after_mode offset mode k.Enable = finds_name _ _ (λ isr. finds_stop _ _ refl)
finds_after_mode offset mode _ = finds_fail _

finds_after_first : (key : Keyword) → Finds (λ items. Key (keyword_text key) ∷ items) (after_first key)
finds_after_first k.Osektime = finds_keyword _ _ finds_after_one
finds_after_first k.Round = finds_number _ _ (λ length. finds_stop _ _ refl)
finds_after_first k.Adjust = finds_number _ _ (λ most. finds_stop _ _ refl)
finds_after_first k.Mode = finds_name _ _ (λ mode. finds_stop _ _ refl)
finds_after_first k.Var = finds_name _ _ (λ var. finds_integer _ _ (λ value. finds_stop _ _ refl))
finds_after_first k.Demand =
    finds_name _ _ (λ demand. finds_number _ _ (λ most. finds_number _ _ (λ usual. finds_stop _ _ refl)))
finds_after_first k.Task = finds_name _ _ (λ task. finds_number _ _ (λ stack. finds_stop _ _ refl))
finds_after_first k.Isr =
    finds_name _ _ (λ isr. finds_number _ _ (λ level. finds_number _ _ (λ stack.
    finds_stop_or _ _ _ refl (finds_number _ _ (λ distance. finds_stop _ _ refl)))))
finds_after_first k.Osek =
    finds_name _ _ (λ task. finds_number _ _
    (λ priority. finds_stop_or _ _ _ refl (finds_keyword _ _ (finds_after_priority task priority))))
finds_after_first k.Oisr = finds_name _ _ (λ oisr. finds_number _ _ (λ priority. finds_stop _ _ refl))
finds_after_first k.Hook = finds_keyword _ _ finds_after_hook
finds_after_first k.At = finds_number _ _
    (λ offset. finds_name _ _ (λ mode. finds_keyword _ _ (finds_after_mode offset mode)))
finds_after_first k.Start = finds_name _ _ (λ mode. finds_stop _ _ refl)
finds_after_first k.Rounds = finds_number _ _ (λ count. finds_stop _ _ refl)
finds_after_first k.Value = finds_name _ _ (λ demand. finds_number _ _ (λ value. finds_stop _ _ refl))
finds_after_first k.Arrive = finds_name _ _ (λ source. finds_number _ _ (λ tick. finds_stop _ _ refl))
finds_after_first k.Time = finds_number _ _ (λ global. finds_stop _ _ refl)
finds_after_first k.Work = finds_number _ _ (λ ticks. finds_stop _ _ refl)
finds_after_first k.Take = finds_name _ _ (λ demand. finds_stop _ _ refl)
finds_after_first k.Set = finds_name _ _ (λ var. finds_expression _ _ (λ terms. refl))
finds_after_first k.If = finds_expression _ _ (λ terms. refl)
finds_after_first k.Else = finds_stop _ _ refl
finds_after_first k.Repeat = finds_number _ _ (λ turns. finds_stop _ _ refl)
finds_after_first k.End = finds_stop _ _ refl
finds_after_first k.Out = finds_expression _ _ (λ terms. refl)
finds_after_first k.Switch = finds_name _ _ (λ mode. finds_stop _ _ refl)
finds_after_first k.Sync = finds_stop _ _ refl
finds_after_first k.Shutdown = finds_stop _ _ refl
finds_after_first k.Activate = finds_name _ _ (λ task. finds_stop _ _ refl)
finds_after_first k.Chain = finds_name _ _ (λ task. finds_stop _ _ refl)
finds_after_first k.Terminate = finds_stop _ _ refl
finds_after_first _ = finds_fail _

finds_row : Finds (λ items. items) row_by_words
finds_row = finds_keyword (λ items. items) after_first finds_after_first

-- a row that is read is spelled by the words
pub row_of-spells : (words : List (List ℕ)) (row : Row) → row_of words ≡ Some row → Spells words row
unfolding row_of
row_of-spells words row h =
    elim (cases_Bool (nat_le (length (joined words)) 200)) [
      | inl e ↦
          let found = finds_row.at words row
          (sym (cond-true (nat_le (length (joined words)) 200) (row_by_words words) None e) ∙ h) in
          let spelled : spelling_of row ≡ words = ap (flat_map words_of_item) found.whole ∙ found.spelled in
          record {
            spelled = spelled;
            sound = and_from (list_all is_sound_item (items_of row)) (nat_le (length (line_of_row row)) 200)
                (ap (list_all is_sound_item) found.whole ∙ found.sound)
                (ap (λ ws. nat_le (length (joined ws)) 200) spelled ∙ e);
          }
      | inr e ↦ let none : None ≡ Some row =
          sym (cond-false (nat_le (length (joined words)) 200) (row_by_words words) None e) ∙ h in cc
    ]
