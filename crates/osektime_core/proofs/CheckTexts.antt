-- The text of the schedule check, line by line.
use Rattle.std.proofs.Common.{◌≡◌, ℕ, ◌+◌, List, [], ◌∷◌, ◌++◌, Bool, true, false, length, refl, sym, ap, ◌∙◌, append_assoc, append-nil}
use Rattle.std.specs.Prelude.{codes, decimal, IsTrue, ◌↔◌}
use Rattle.std.proofs.lemmas.Grind.{flat_map-append}
use Rattle.tt_base.specs.declared.names.Declared.TheVariants as Which
use Rattle.tt_base.specs.declared.names.NameEntry.{NameEntry}
use Rattle.tt_base.specs.declared.number.ModeNo.{ModeNo}
use Rattle.tt_base.specs.Names.{name_of}
use Rattle.tt_doc.specs.Words.{joined}
use Rattle.trace_text.specs.Lines.{line, spaced}
use Rattle.tt_world.specs.declared.config.Activation.{Activation}
use Rattle.tt_world.specs.declared.config.ConfigParts.{ConfigParts}
use Rattle.tt_world.specs.declared.config.ModeDef.{ModeDef}
use Rattle.tt_world.specs.declared.script.ScriptParts.{ScriptParts}
use Rattle.tt_world.specs.Rows.{mode_at, row_of}
use Rattle.round_table.specs.TableRows.{TableRows, table_of}
use Rattle.schedule_check.specs.KeepsBounds.{keeps_bounds}
use Rattle.schedule_check.specs.Responses.{answer_of}
use Rattle.schedule_check.specs.declared.answers.CheckAnswer.{CheckAnswer}
use Rattle.osektime_core.specs.CheckText.{answer_line, bounds_line, check_text, entries_below, response_line, response_words, responses_below, responses_text}
use Rattle.osektime_core.specs.TableText.{texts_below}
use Rattle.osektime_core.proofs.TableTexts.{texts_more}

-- ---- a line

-- a first word, and then each with a space in front of it
joined-spaced : (word : List ℕ) (words : List (List ℕ)) → joined (word ∷ words) ≡ word ++ spaced words
joined-spaced word [] = sym (append-nil word)
joined-spaced word (next ∷ rest) = ap (λ x. word ++ 32 ∷ x) (joined-spaced next rest)

-- the line of an activation, piece by piece
line_put : (before mode offset task deadline : List ℕ) (words : List (List ℕ)) (a b d e f g h i j : List ℕ)
    → a ≡ before ++ mode → b ≡ a ++ 32 ∷ [] → d ≡ b ++ offset → e ≡ d ++ 32 ∷ [] → f ≡ e ++ task
    → g ≡ f ++ spaced words → h ≡ g ++ codes " deadline " → i ≡ h ++ deadline → j ≡ i ++ 10 ∷ []
    → j ≡ before ++ line (mode ∷ offset ∷ task ∷ (words ++ codes "deadline" ∷ deadline ∷ []))
line_put before mode offset task deadline words a b d e f g h i j p q r s t u v w x =
    let last = codes "deadline" ∷ deadline ∷ [] in
    let rest : joined (task ∷ (words ++ last)) ≡ task ++ (spaced words ++ spaced last) =
    joined-spaced task (words ++ last)
    ∙ ap (λ y. task ++ y) (flat_map-append (λ (word : List ℕ). 32 ∷ word) words last) in
    let all : j ≡ ((((((((before ++ mode) ++ 32 ∷ []) ++ offset) ++ 32 ∷ []) ++ task) ++ spaced words)
    ++ codes " deadline ") ++ deadline) ++ 10 ∷ [] = cc in
    let flat : ((((((((before ++ mode) ++ 32 ∷ []) ++ offset) ++ 32 ∷ []) ++ task) ++ spaced words)
    ++ codes " deadline ") ++ deadline) ++ 10 ∷ []
    ≡ before ++ ((mode ++ 32 ∷ (offset ++ 32 ∷ (task ++ (spaced words ++ spaced last)))) ++ 10 ∷ []) =
    simp append_assoc in
    all ∙ flat ∙ ap (λ y. before ++ ((mode ++ 32 ∷ (offset ++ 32 ∷ y)) ++ 10 ∷ [])) (sym rest)

-- the line of an activation of a table
pub activation_put : (c : ConfigParts) (number : ModeNo) (table : TableRows) (names : List NameEntry) (row : Activation)
    (entry : ℕ) (before a b d e f g h i j : List ℕ) → names ≡ c.names → table ≡ table_of c (mode_at c number.0)
    → row ≡ row_of table.mode entry → a ≡ before ++ name_of names (Which.Mode number) → b ≡ a ++ 32 ∷ []
    → d ≡ b ++ decimal row.offset → e ≡ d ++ 32 ∷ [] → f ≡ e ++ name_of names (Which.Task row.task)
    → g ≡ f ++ spaced (response_words c table.mode (row_of table.mode entry)) → h ≡ g ++ codes " deadline "
    → i ≡ h ++ decimal row.deadline → j ≡ i ++ 10 ∷ []
    → j ≡ before ++ response_line c number (row_of table.mode entry)
unfolding response_line
activation_put c number table names row entry before a b d e f g h i j named is same p q r s t u v w x =
    let there = row_of table.mode entry in
    let text : List NameEntry → Activation → ModeDef → List ℕ = λ ns one mode.
    line (name_of ns (Which.Mode number) ∷ decimal one.offset ∷ name_of ns (Which.Task one.task)
    ∷ (response_words c mode there ++ codes "deadline" ∷ decimal one.deadline ∷ [])) in
    line_put before (name_of names (Which.Mode number)) (decimal row.offset) (name_of names (Which.Task row.task))
    (decimal row.deadline) (response_words c table.mode there) a b d e f g h i j p q r s t u v w x
    ∙ ap (λ (ns : List NameEntry). before ++ text ns row table.mode) named
    ∙ ap (λ (one : Activation). before ++ text c.names one table.mode) same
    ∙ ap (λ (t : TableRows). before ++ text c.names there t.mode) is

-- ---- the lines of a mode

-- one activation more
pub entries_more : (c : ConfigParts) (number : ModeNo) (table : TableRows) (entry : ℕ) (before now after : List ℕ)
    → table ≡ table_of c (mode_at c number.0) → now ≡ before ++ entries_below c number entry
    → after ≡ now ++ response_line c number (row_of table.mode entry)
    → after ≡ before ++ entries_below c number (entry + 1)
entries_more c number table entry before now after is so_far put =
    let text : ℕ → List ℕ = λ n. response_line c number (row_of (mode_at c number.0) n) in
    put ∙ ap (λ (t : TableRows). now ++ response_line c number (row_of t.mode entry)) is
    ∙ ap (λ x. x ++ text entry) so_far ∙ append_assoc before (texts_below text entry) (text entry)
    ∙ ap (λ x. before ++ x) (sym (texts_more text entry))

-- all activations
pub entries_all : (c : ConfigParts) (number : ModeNo) (table : TableRows) (count : ℕ) (before now : List ℕ)
    → table ≡ table_of c (mode_at c number.0) → count ≡ length table.mode.activations
    → now ≡ before ++ entries_below c number count → now ≡ before ++ responses_text c number
unfolding responses_text
entries_all c number table count before now is all so_far =
    so_far ∙ ap (λ n. before ++ entries_below c number n)
    (all ∙ ap (λ (t : TableRows). length t.mode.activations) is)

-- ---- the whole

-- one mode more
pub responses_more : (c : ConfigParts) (number : ℕ) (now after : List ℕ) → now ≡ responses_below c number
    → after ≡ now ++ responses_text c (record { 0 = number }) → after ≡ responses_below c (number + 1)
responses_more c number now after so_far put =
    put ∙ ap (λ t. t ++ responses_text c (record { 0 = number })) so_far
    ∙ sym (texts_more (λ n. responses_text c (record { 0 = n })) number)

-- two tests of one fact are the same
pub same_test : (P : Type 0) (a b : Bool) → (IsTrue a ↔ P) → (IsTrue b ↔ P) → a ≡ b
same_test P true b e f = sym (f.1 (e.0 refl))
same_test P false true e f = e.1 (f.0 refl)
same_test P false false e f = refl

-- the lines of all modes, that of the bounds and that of the answer
pub check_joined : (c : ConfigParts) (s : ScriptParts) (count : ℕ) (kept : Bool) (answer : CheckAnswer)
    (now one two bounds last : List ℕ) → count ≡ length c.modes → kept ≡ keeps_bounds c s → answer ≡ answer_of c
    → now ≡ responses_below c count → bounds ≡ bounds_line kept → last ≡ answer_line answer
    → one ≡ now ++ bounds → two ≡ one ++ last → two ≡ check_text c s
unfolding check_text
check_joined c s count kept answer now one two bounds last all is said so_far p q r t =
    t ∙ ap (λ x. x ++ last) r ∙ append_assoc now bounds last
    ∙ ap (λ x. x ++ (bounds ++ last)) (so_far ∙ ap (responses_below c) all)
    ∙ ap (λ x. responses_below c (length c.modes) ++ (x ++ last)) (p ∙ ap bounds_line is)
    ∙ ap (λ x. responses_below c (length c.modes) ++ (bounds_line (keeps_bounds c s) ++ x)) (q ∙ ap answer_line said)
