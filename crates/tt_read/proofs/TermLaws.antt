-- Keywords, operators, terms and expressions: each is spelled in one way.
use Rattle.std.proofs.Common.{◌≡◌, ℕ, ◌==◌, length, ◌^◌, Bool, true, false, cond, ◌&&◌, ◌||◌, List, [], ◌∷◌, map, Option, Some, None, ℤ, pos, negsuc, refl, sym, ap, ◌∙◌, subst, arith, w32, inl, inr, ◌≤◌}
use Rattle.std.specs.Prelude.{find, FitsSigned, nat_le}
use Rattle.std.specs.List.{list_all}
use Rattle.std.specs.Str.{bytes_eq}
use Rattle.std.specs.Fmt.{signed_decimal}
use Rattle.std.specs.Char.{is_ascii_digit}
use Rattle.std.proofs.lemmas.Bool.{cond-true, cond-false, and_parts, and_from, cases_Bool, false≢true, lt-ltb, ltb-true, or_cases, and_right, lt-leb, leb-true, eqb-true, ne_eqb}
use Rattle.std.proofs.lemmas.Slice.Eq.{bytes_eq-Decides}
use Rattle.task_lang.specs.declared.syntax.Op.{Op}
use Rattle.task_lang.specs.declared.syntax.Op.TheVariants.{Add, Sub, Mul, Less, AtMost, Same, Differ}
use Rattle.tt_base.specs.Name.{is_name, is_letter, is_rest_of_name}
use Rattle.tt_doc.specs.Numbers.{has_no_leading_zero, value_of, number_of, positive_of, negative_of, integer_of}
use Rattle.tt_doc.proofs.NumberLaws.{integer_of-spelled, integer_of-signed_decimal}
use Rattle.tt_rows.specs.declared.row.Term.{Term}
use Rattle.tt_rows.specs.declared.row.Term.TheVariants as term
use Rattle.tt_rows.specs.Spelling.{op_word, term_word}
use Rattle.tt_rows.specs.Sound.{is_integer, is_sound_term}
use Rattle.tt_read.specs.declared.keyword.Keyword.{Keyword}
use Rattle.tt_read.specs.Keywords.{keyword_text, keywords, keyword_of}
use Rattle.tt_read.specs.Reading.{ops, op_of, op_or_operand, term_of, term_in_front, terms_of}

passes_from : {X : Type 0} (test : X → Bool) (x : X) (rest : Option X) (found : X)
    → (rest ≡ Some found → test found ≡ true) → cond (test x) (Some x) rest ≡ Some found → test found ≡ true
passes_from test x rest found later h =
    elim (cases_Bool (test x)) [
      | inl e ↦ let same : Some x ≡ Some found = sym (cond-true (test x) (Some x) rest e) ∙ h in let one : x ≡ found =
          cc in subst (λ y. test y ≡ true) one e
      | inr e ↦ later (sym (cond-false (test x) (Some x) rest e) ∙ h)
    ]

-- what was found passes the test
pub find-passes : {X : Type 0} (test : X → Bool) (xs : List X) (found : X) → find test xs ≡ Some found
    → test found ≡ true
find-passes test [] found h = cc
find-passes test (x ∷ xs) found h = passes_from test x (find test xs) found (find-passes test xs found) h

pub keyword_of-spelled : (text : List ℕ) (keyword : Keyword) → keyword_of text ≡ Some keyword
    → text ≡ keyword_text keyword
unfolding keyword_of
keyword_of-spelled text keyword h =
    (bytes_eq-Decides text (keyword_text keyword)).0
    (find-passes (λ keyword. bytes_eq text (keyword_text keyword)) keywords keyword h)

pub op_of-spelled : (text : List ℕ) (op : Op) → op_of text ≡ Some op → text ≡ op_word op
unfolding op_of
op_of-spelled text op h = (bytes_eq-Decides text (op_word op)).0
    (find-passes (λ op. bytes_eq text (op_word op)) ops op h)

pub op_of-op_word : (op : Op) → op_of (op_word op) ≡ Some op
unfolding op_of
op_of-op_word Add = refl
op_of-op_word Sub = refl
op_of-op_word Mul = refl
op_of-op_word Less = refl
op_of-op_word AtMost = refl
op_of-op_word Same = refl
op_of-op_word Differ = refl

-- no operator is an integer or a name
op_is_no_integer : (op : Op) → integer_of (op_word op) ≡ None
op_is_no_integer Add = refl
op_is_no_integer Sub = refl
op_is_no_integer Mul = refl
op_is_no_integer Less = refl
op_is_no_integer AtMost = refl
op_is_no_integer Same = refl
op_is_no_integer Differ = refl

op_is_no_name : (op : Op) → is_name (op_word op) ≡ false
op_is_no_name Add = refl
op_is_no_name Sub = refl
op_is_no_name Mul = refl
op_is_no_name Less = refl
op_is_no_name AtMost = refl
op_is_no_name Same = refl
op_is_no_name Differ = refl

-- `is_integer` is the range of 32 signed bits
pub fits_from_integer : (value : ℤ) → is_integer value ≡ true → FitsSigned w32 value
fits_from_integer (pos n) h = record { sfits = ltb-true n (2 ^ 31) h }
fits_from_integer (negsuc n) h = record { sfits = ltb-true n (2 ^ 31) h }

pub integer_from_fits : (value : ℤ) → FitsSigned w32 value → is_integer value ≡ true
integer_from_fits (pos n) fits = lt-ltb n (2 ^ 31) fits.sfits
integer_from_fits (negsuc n) fits = lt-ltb n (2 ^ 31) fits.sfits

letter_is_high : (c : ℕ) → is_letter c ≡ true → 65 ≤ c
letter_is_high c h =
    elim (or_cases (c == 95) ((nat_le 65 c && nat_le c 90) || (nat_le 97 c && nat_le c 122)) h) [
      | inl low ↦ omega (arith, eqb-true c 95 low)
      | inr either ↦ elim (or_cases (nat_le 65 c && nat_le c 90) (nat_le 97 c && nat_le c 122) either) [
        | inl upper ↦ leb-true 65 c (and_parts (nat_le 65 c) (nat_le c 90) upper).0
        | inr lower ↦ let low : 97 ≤ c = leb-true 97 c (and_parts (nat_le 97 c) (nat_le c 122) lower).0 in omega arith
      ]
    ]

-- no name is an integer
name_is_no_integer : (text : List ℕ) → is_name text ≡ true → integer_of text ≡ None
name_is_no_integer [] named = refl
name_is_no_integer (first ∷ rest) named =
    let high = letter_is_high first (and_parts (is_letter first) (is_rest_of_name rest) named).0 in
    let no_digit = and_right (nat_le 48 first) (nat_le first 57) (lt-leb first 57 (omega (arith, high))) in
    cond-false (first == 45) (negative_of (number_of rest)) (positive_of (number_of (first ∷ rest)))
    (ne_eqb first 45 (λ e. omega (arith, high)))
    ∙ ap (λ t. positive_of (cond
    (((t && list_all is_ascii_digit rest) && nat_le (length (first ∷ rest)) 12)
    && has_no_leading_zero (first ∷ rest)) (Some (value_of (first ∷ rest))) None)) no_digit

no_op_of_integer : (o : Option Op) (value : ℤ) → op_of (signed_decimal value) ≡ o → is_integer value ≡ true → o ≡ None
no_op_of_integer None value h small = refl
no_op_of_integer (Some op) value h small =
    let read = integer_of-signed_decimal value (fits_from_integer value small) in
    let none = ap integer_of (op_of-spelled (signed_decimal value) op h) ∙ op_is_no_integer op in
    cc

no_op_of_name : (o : Option Op) (name : List ℕ) → op_of name ≡ o → is_name name ≡ true → o ≡ None
no_op_of_name None name h named = refl
no_op_of_name (Some op) name h named =
    absurd (false≢true (sym (op_is_no_name op) ∙ sym (ap is_name (op_of-spelled name op h)) ∙ named))

-- a sound term is read from its word
pub term_of-term_word : (t : Term) → is_sound_term t ≡ true → term_of (term_word t) ≡ Some t
unfolding term_of
term_of-term_word (term.Int value) sound =
    ap (λ o. op_or_operand o (integer_of (signed_decimal value)) (signed_decimal value))
    (no_op_of_integer (op_of (signed_decimal value)) value refl sound)
    ∙ ap (λ o. op_or_operand None o (signed_decimal value))
    (integer_of-signed_decimal value (fits_from_integer value sound))
term_of-term_word (term.Name name) sound =
    ap (λ o. op_or_operand o (integer_of name) name) (no_op_of_name (op_of name) name refl sound)
    ∙ ap (λ o. op_or_operand None o name) (name_is_no_integer name sound)
    ∙ cond-true (is_name name) (Some (term.Name name)) None sound
term_of-term_word (term.Op op) sound =
    ap (λ o. op_or_operand o (integer_of (op_word op)) (op_word op)) (op_of-op_word op)

pub record SpellsTerm (text : List ℕ) (t : Term) : Type 0 where
  pub spelled : term_word t ≡ text
  pub sound : is_sound_term t ≡ true

named_term : (text : List ℕ) (t : Term) → cond (is_name text) (Some (term.Name text)) None ≡ Some t → SpellsTerm text t
named_term text t h =
    elim (cases_Bool (is_name text)) [
      | inl e ↦
          let same : Some (term.Name text) ≡ Some t = sym (cond-true (is_name text) (Some (term.Name text)) None e)
          ∙ h in
          let one : term.Name text ≡ t = cc in
          subst (SpellsTerm text) one (record { spelled = refl; sound = e })
      | inr e ↦ let none : None ≡ Some t = sym (cond-false (is_name text) (Some (term.Name text)) None e) ∙ h in cc
    ]

operand_spelled : (o : Option Op) (i : Option ℤ) (text : List ℕ) (t : Term) → op_of text ≡ o → integer_of text ≡ i
    → op_or_operand o i text ≡ Some t
    → SpellsTerm text t
operand_spelled (Some op) i text t is_op is_int h =
    let one : term.Op op ≡ t = cc in
    subst (SpellsTerm text) one (record { spelled = sym (op_of-spelled text op is_op); sound = refl })
operand_spelled None (Some value) text t is_op is_int h =
    let one : term.Int value ≡ t = cc in
    let parts = integer_of-spelled text value is_int in
    subst (SpellsTerm text) one (record { spelled = sym parts.0; sound = integer_from_fits value parts.1 })
operand_spelled None None text t is_op is_int h = named_term text t h

-- a word that is read as a term is the term's word
pub term_of-spelled : (text : List ℕ) (t : Term) → term_of text ≡ Some t → SpellsTerm text t
unfolding term_of
term_of-spelled text t h = operand_spelled (op_of text) (integer_of text) text t refl refl h

-- sound terms are read from their words
pub terms_of-words : (terms : List Term) → list_all is_sound_term terms ≡ true
    → terms_of (map term_word terms) ≡ Some terms
terms_of-words [] sound = refl
terms_of-words (t ∷ terms) sound =
    let parts = and_parts (is_sound_term t) (list_all is_sound_term terms) sound in
    ap (λ o. term_in_front o (terms_of (map term_word terms))) (term_of-term_word t parts.0)
    ∙ ap (term_in_front (Some t)) (terms_of-words terms parts.1)

pub record SpellsTerms (words : List (List ℕ)) (terms : List Term) : Type 0 where
  pub spelled : map term_word terms ≡ words
  pub sound : list_all is_sound_term terms ≡ true

in_front_spelled : (o : Option Term) (later : Option (List Term)) (word : List ℕ) (words : List (List ℕ))
    (terms : List Term)
    → ((t : Term) → o ≡ Some t → SpellsTerm word t) → ((rest : List Term) → later ≡ Some rest → SpellsTerms words rest)
    → term_in_front o later ≡ Some terms → SpellsTerms (word ∷ words) terms
in_front_spelled None later word words terms first others h = cc
in_front_spelled (Some t) None word words terms first others h = cc
in_front_spelled (Some t) (Some rest) word words terms first others h =
    let one : t ∷ rest ≡ terms = cc in
    let front = first t refl in
    let later = others rest refl in
    subst (SpellsTerms (word ∷ words)) one (record {
      spelled = ap (λ w. w ∷ map term_word rest) front.spelled ∙ ap (λ ws. word ∷ ws) later.spelled;
      sound = and_from (is_sound_term t) (list_all is_sound_term rest) front.sound later.sound;
    })

-- words that are read as terms are the words of the terms
pub terms_of-spelled : (words : List (List ℕ)) (terms : List Term) → terms_of words ≡ Some terms
    → SpellsTerms words terms
terms_of-spelled [] terms h =
    let one : [] ≡ terms = cc in
    subst (SpellsTerms []) one (record { spelled = refl; sound = refl })
terms_of-spelled (word ∷ words) terms h =
    in_front_spelled (term_of word) (terms_of words) word words terms (term_of-spelled word) (terms_of-spelled words) h
