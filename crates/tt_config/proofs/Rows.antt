-- What the rules on single rows say of the heads, the expressions and the parts that rows give.
use Rattle.std.proofs.Common.{◌≡◌, true, List, [], ◌∷◌, Option, refl, arith, ℕ, ◌+◌, ◌≤◌, Bool, pos, negsuc, ◌++◌, map, length, sym, ◌∙◌}
use Rattle.std.specs.Prelude.{codes, IfSome, nat_le, flat_map}
use Rattle.std.specs.List.{AllByRecursion as Each, list_all, sum_by}
use Rattle.std.proofs.lemmas.Bool.{and_parts}
use Rattle.std.proofs.lemmas.List.Elements.{All-from_recursion, recursion_from_All}
use Rattle.task_lang.specs.Limits.{is_expression_short, has_variables, has_demand, has_callee, terms_of, terms_step, reads_only, reads_step}
use Rattle.tt_base.specs.declared.names.NameKind.TheVariants as Kind
use Rattle.tt_base.specs.declared.names.NameEntry.{NameEntry}
use Rattle.tt_base.specs.Names.{count_of}
use Rattle.tt_rows.specs.declared.row.Row.{Row}
use Rattle.tt_rows.specs.declared.row.Row.TheVariants as r
use Rattle.tt_rows.specs.declared.row.NumberedRow.{NumberedRow}
use Rattle.tt_rows.specs.Sound.{AreSound, is_sound_row, is_sound_term}
use Rattle.tt_parts.specs.declared.located.At.{At}
use Rattle.tt_parts.specs.declared.bodies.BodyPart.{BodyPart}
use Rattle.tt_parts.specs.Located.{each_at, parts}
use Rattle.tt_parts.specs.Bodies.{Branches, owner_in, body_of, bodies_of, branches_from, head_of, term_then, expressions_of, first_or_zero, expression_of}
use Rattle.tt_parts.specs.Names.{names_in, number_named}
use Rattle.tt_parts.proofs.EachAt.{each_then}
use Rattle.tt_rules.specs.BodyRules.{are_names_declared, is_declared, lines_14, used_by_term}
use Rattle.tt_rules.specs.DeclarationRules.{has_numbers_in_range, lines_9}
use Rattle.tt_rules.proofs.Each.{each_from_all, each_map}
use Rattle.tt_rules.proofs.Kept.{EachRow, each_row}
use Rattle.tt_rules.proofs.SoundBodies.{Passes}
use Rattle.tt_config.proofs.Known.{number_below}
use Rattle.std.proofs.lemmas.Bool.Decides.{nat_tests}
use Rattle.std.proofs.lemmas.Grind.{common_steps}
use Rattle.std.proofs.lemmas.List.Folds.{list_all-append}
use Rattle.std.proofs.lemmas.Fmt.{decimal_nonempty}
use Rattle.task_lang.specs.declared.syntax.Expr.{Expr}
use Rattle.task_lang.specs.Opening.{fold-Const, fold-Var, fold-Bin}
use Rattle.tt_doc.specs.Words.{joined}
use Rattle.tt_doc.proofs.WordLaws.{length-joined}
use Rattle.tt_rows.specs.declared.row.Term.{Term}
use Rattle.tt_rows.specs.declared.row.Term.TheVariants as term
use Rattle.tt_rows.specs.Spelling.{term_word}

-- a row that a document can have, whose numbers are in range and whose names are declared
pub record IsRowFit (names : List NameEntry) (row : Row) : Type 0 where
  pub numbers : has_numbers_in_range row ≡ true
  pub known : are_names_declared names row ≡ true
  pub sound : is_sound_row row ≡ true

-- 9, 14. Rows that break neither rule.
pub rows_fit : (rows : List NumberedRow) → AreSound rows → lines_9 rows ≡ [] → lines_14 (names_in rows) rows ≡ []
    → EachRow (IsRowFit (names_in rows)) rows
rows_fit rows sound is_9 is_14 =
    let names = names_in rows in
    recursion_from_All (λ (row : NumberedRow). IsRowFit names row.row) rows (λ k d lt. record {
      numbers = All-from_recursion _ rows (each_row has_numbers_in_range rows is_9) k d lt;
      known = All-from_recursion _ rows (each_row (are_names_declared names) rows is_14) k d lt;
      sound = All-from_recursion _ rows
          (each_from_all (λ (row : NumberedRow). is_sound_row row.row) rows sound.sound) k d lt;
    })

-- ---- parts

module _ {A : Type 0} (P : A → Type 0) (Q : Row → Type 0) (part_of : Row → Option A)
    (gives : (row : Row) → Q row → IfSome (part_of row) P) where
  each_located : (rows : List NumberedRow) → EachRow Q rows → Each (λ (x : At A). P x.part) (each_at part_of rows)
  each_located [] h = tt
  each_located (row ∷ rows) h = each_then P row.line (part_of row.row) (each_at part_of rows) (gives row.row h.0)
      (each_located rows h.1)

  -- what holds of each part, where each row gives it
  pub each_part : (rows : List NumberedRow) → EachRow Q rows → Each P (parts (each_at part_of rows))
  each_part rows h = each_map P (λ (x : At A). x.part) (each_at part_of rows) (each_located rows h)

-- what holds of each body, where each row that opens one gives it
pub each_body : (P : BodyPart → Type 0) (Q : Row → Type 0)
    → ((row : Row) (rest : List Branches) → Q row → IfSome (body_of (owner_in row) rest) P) → (names : List NameEntry)
    (rows : List NumberedRow) → EachRow Q rows → Each (λ (x : At BodyPart). P x.part) (bodies_of names rows)
each_body P Q gives names [] h = tt
each_body P Q gives names (row ∷ rows) h =
    let rest = branches_from names rows in
    each_then P row.line (body_of (owner_in row.row) rest) (bodies_of names rows) (gives row.row rest h.0)
    (each_body P Q gives names rows h.1)

-- ---- an expression has no more terms than there are words

-- how many terms the expressions have in all
abbrev terms_all : List Expr → ℕ
terms_all [] = 0
terms_all (expr ∷ rest) = terms_of expr + terms_all rest

terms-term_then : (names : List NameEntry) (t : Term) (rest : List Expr)
    → terms_all (term_then names t rest) ≤ 1 + terms_all rest
terms-term_then names (term.Int value) rest = omega (arith, fold-Const ℕ terms_step value)
terms-term_then names (term.Name name) rest =
    omega (arith, fold-Var ℕ terms_step (record { 0 = number_named names name }))
terms-term_then names (term.Op op) [] = omega arith
terms-term_then names (term.Op op) (left ∷ []) = omega arith
terms-term_then names (term.Op op) (left ∷ (right ∷ rest)) = omega (arith, fold-Bin ℕ terms_step op left right)

terms-expressions_of : (names : List NameEntry) (terms : List Term)
    → terms_all (expressions_of names terms) ≤ length terms
terms-expressions_of names [] = omega arith
terms-expressions_of names (t ∷ terms) =
    omega (arith, terms-term_then names t (expressions_of names terms), terms-expressions_of names terms)

short-first : (exprs : List Expr) (n : ℕ) → terms_all exprs ≤ n → n ≤ 100
    → nat_le (terms_of (first_or_zero exprs)) 100 ≡ true
short-first [] n few most = grind (arith, nat_tests, fold-Const ℕ terms_step (pos 0))
short-first (expr ∷ rest) n few most = grind (arith, nat_tests)

-- ---- a word of an expression has a byte

some_word : (t : Term) → is_sound_term t ≡ true → 1 ≤ length (term_word t)
some_word (term.Int (pos n)) sound = grind (arith, nat_tests, decimal_nonempty)
some_word (term.Int (negsuc n)) sound = omega arith
some_word (term.Name []) sound = cc
some_word (term.Name (first ∷ rest)) sound = omega arith
some_word (term.Op op) sound = grind arith

some_words : (terms : List Term) → list_all is_sound_term terms ≡ true
    → length terms ≤ sum_by (length {A = ℕ}) (map term_word terms)
some_words [] sound = omega arith
some_words (t ∷ terms) sound =
    let both = and_parts (is_sound_term t) _ sound in
    grind (arith, common_steps, some_word t both.0, some_words terms both.1)

-- an expression at the end of a line of at most 200 bytes has at most 100 terms
pub short-last : (names : List NameEntry) (before : List (List ℕ)) (terms : List Term)
    → list_all is_sound_term terms ≡ true → nat_le (length (joined (before ++ (map term_word terms ++ [])))) 200 ≡ true
    → nat_le (terms_of (expression_of names terms)) 100 ≡ true
short-last names before terms sound short =
    short-first (expressions_of names terms) (length terms) (terms-expressions_of names terms)
    (grind (arith, common_steps, nat_tests, length-joined (before ++ (map term_word terms ++ [])), some_words terms sound))

-- ---- the variables

module _ (names : List NameEntry) where
  abbrev reads : Expr → Bool
  reads = reads_only (count_of Kind.Var names)

  reads-term_then : (t : Term) (rest : List Expr) → list_all (is_declared names) (used_by_term t) ≡ true
      → list_all reads rest ≡ true → list_all reads (term_then names t rest) ≡ true
  reads-term_then (term.Int value) rest known each =
      grind (arith, each, fold-Const Bool (reads_step (count_of Kind.Var names)) value)
  reads-term_then (term.Name name) rest known each =
      let below = number_below names Kind.Var name (and_parts _ _ known).0 in
      grind (arith, each, below, fold-Var Bool (reads_step (count_of Kind.Var names)) (record { 0 = number_named names name }))
  reads-term_then (term.Op op) [] known each = refl
  reads-term_then (term.Op op) (left ∷ []) known each = refl
  reads-term_then (term.Op op) (left ∷ (right ∷ rest)) known each =
      grind (arith, each, fold-Bin Bool (reads_step (count_of Kind.Var names)) op left right)

  reads-expressions_of : (terms : List Term) → list_all (is_declared names) (flat_map used_by_term terms) ≡ true
      → list_all reads (expressions_of names terms) ≡ true
  reads-expressions_of [] known = refl
  reads-expressions_of (t ∷ terms) known =
      let both = and_parts (list_all (is_declared names) (used_by_term t)) _
      (sym (list_all-append (is_declared names) (used_by_term t) (flat_map used_by_term terms)) ∙ known) in
      reads-term_then t (expressions_of names terms) both.0 (reads-expressions_of terms both.1)

  reads-first_or_zero : (exprs : List Expr) → list_all reads exprs ≡ true → reads (first_or_zero exprs) ≡ true
  reads-first_or_zero [] each = fold-Const Bool (reads_step (count_of Kind.Var names)) (pos 0)
  reads-first_or_zero (expr ∷ rest) each = (and_parts (reads expr) _ each).0

  -- the variables of an expression are declared, where the names of its terms are
  pub reads-expression_of : (terms : List Term) → list_all (is_declared names) (flat_map used_by_term terms) ≡ true
      → reads_only (count_of Kind.Var names) (expression_of names terms) ≡ true
  reads-expression_of terms known = reads-first_or_zero (expressions_of names terms) (reads-expressions_of terms known)

-- ---- heads

module _ (names : List NameEntry) where
  pub row_short : (row : Row) → IsRowFit names row → Passes is_expression_short (head_of names row)
  row_short (r.Set var terms) fit one two =
      short-last names (codes "set" ∷ var ∷ []) terms (grind (arith, fit.sound)) (and_parts _ _ fit.sound).1
  row_short (r.If terms) fit one two =
      short-last names (codes "if" ∷ []) terms (grind (arith, fit.sound)) (and_parts _ _ fit.sound).1
  row_short (r.Out terms) fit one two =
      short-last names (codes "out" ∷ []) terms (grind (arith, fit.sound)) (and_parts _ _ fit.sound).1
  row_short row fit one two = refl

  pub row_variables : (row : Row) → IsRowFit names row
      → Passes (has_variables (count_of Kind.Var names)) (head_of names row)
  row_variables (r.Set var terms) fit one two =
      grind (arith, fit.known, number_below names Kind.Var var, reads-expression_of names terms)
  row_variables (r.If terms) fit one two = reads-expression_of names terms fit.known
  row_variables (r.Out terms) fit one two = reads-expression_of names terms fit.known
  row_variables row fit one two = refl

  pub row_demand : (row : Row) → IsRowFit names row
      → Passes (has_demand (count_of Kind.Demand names)) (head_of names row)
  row_demand (r.Take demand) fit one two = number_below names Kind.Demand demand (and_parts _ _ fit.known).0
  row_demand row fit one two = refl

  pub row_callee : (row : Row) → IsRowFit names row
      → Passes (has_callee (count_of Kind.Mode names) (count_of Kind.Osek names)) (head_of names row)
  row_callee (r.Switch mode) fit one two = number_below names Kind.Mode mode (and_parts _ _ fit.known).0
  row_callee (r.Activate task) fit one two = number_below names Kind.Osek task (and_parts _ _ fit.known).0
  row_callee (r.Chain task) fit one two = number_below names Kind.Osek task (and_parts _ _ fit.known).0
  row_callee row fit one two = refl
