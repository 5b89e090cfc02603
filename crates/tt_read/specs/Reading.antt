-- The words of a line as a row, read from left to right.
use Rattle.std.specs.Prelude.{ℕ, ◌+◌, ◌-◌, ℤ, nat_le, Bool, true, false, List, [], ◌∷◌, length, Option, Some, None, option_map, if◌then◌else◌, find}
use Rattle.std.specs.Str.{bytes_eq}
use Rattle.task_lang.specs.declared.syntax.Op.{Op}
use Rattle.task_lang.specs.declared.syntax.Op.TheVariants.{Add, Sub, Mul, Less, AtMost, Same, Differ}
use Rattle.tt_base.specs.Name.{is_name}
use Rattle.tt_doc.specs.Numbers.{number_of, integer_of}
use Rattle.tt_doc.specs.Words.{joined}
use Rattle.tt_rows.specs.declared.row.Term.{Term}
use Rattle.tt_rows.specs.declared.row.Term.TheVariants as term
use Rattle.tt_rows.specs.declared.row.Row.{Row}
use Rattle.tt_rows.specs.declared.row.Row.TheVariants as r
use Rattle.tt_rows.specs.Spelling.{op_word}
use Rattle.tt_rows.specs.Sound.{are_expressions}
use Rattle.tt_read.specs.declared.keyword.Keyword.{Keyword}
use Rattle.tt_read.specs.declared.keyword.Keyword.TheVariants as k
use Rattle.tt_read.specs.Keywords.{keyword_of}

abbrev pub ops : List Op
ops = Add ∷ Sub ∷ Mul ∷ Less ∷ AtMost ∷ Same ∷ Differ ∷ []

-- a word as an operator
unfoldable pub op_of : List ℕ → Option Op
op_of text = find (λ op. bytes_eq text (op_word op)) ops

abbrev pub op_or_operand : Option Op → Option ℤ → List ℕ → Option Term
op_or_operand (Some op) integer text = Some (term.Op op)
op_or_operand None (Some value) text = Some (term.Int value)
op_or_operand None None text = if is_name text then Some (term.Name text) else None

-- a word as a term: an operator, an integer or a name
unfoldable pub term_of : List ℕ → Option Term
term_of text = op_or_operand (op_of text) (integer_of text) text

abbrev pub term_in_front : Option Term → Option (List Term) → Option (List Term)
term_in_front (Some term) (Some terms) = Some (term ∷ terms)
term_in_front (Some term) None = None
term_in_front None terms = None

-- words as terms
abbrev pub terms_of : List (List ℕ) → Option (List Term)
terms_of [] = Some []
terms_of (word ∷ words) = term_in_front (term_of word) (terms_of words)

-- gives words as a row, if they are one
abbrev pub Reader : Type 0
Reader = List (List ℕ) → Option Row

-- no row
unfoldable pub fail : List (List ℕ) → Option Row
fail words = None

-- this row, where nothing more follows
unfoldable pub stop : Row → List (List ℕ) → Option Row
stop row [] = Some row
stop row (word ∷ words) = None

-- this row where nothing more follows, otherwise what the next reader gives
unfoldable pub stop_or : Row → Reader → List (List ℕ) → Option Row
stop_or row next [] = Some row
stop_or row next (word ∷ words) = next (word ∷ words)

-- the row, if there is one, where nothing more follows
abbrev pub finish : Option Row → List (List ℕ) → Option Row
finish None words = None
finish (Some row) words = stop row words

-- what the first word is read as
abbrev pub first_by : {A : Type 0} → (List ℕ → Option A) → List (List ℕ) → Option A
first_by read [] = None
first_by read (word ∷ words) = read word

-- the words after the first
abbrev pub rest_of : List (List ℕ) → List (List ℕ)
rest_of [] = []
rest_of (word ∷ words) = words

abbrev pub with_some : {A : Type 0} → (A → Reader) → Option A → Reader
with_some next None words = None
with_some next (Some value) words = next value words

-- one word, and what may follow it
unfoldable pub one : {A : Type 0} → (List ℕ → Option A) → (A → Reader) → List (List ℕ) → Option Row
one read next words = with_some next (first_by read words) (rest_of words)

-- a word as a name
abbrev pub name_of : List ℕ → Option (List ℕ)
name_of word = if is_name word then Some word else None

abbrev pub keyword : (Keyword → Reader) → Reader
keyword next = one keyword_of next

abbrev pub number : (ℕ → Reader) → Reader
number next = one number_of next

abbrev pub integer : (ℤ → Reader) → Reader
integer next = one integer_of next

abbrev pub name : (List ℕ → Reader) → Reader
name next = one name_of next

-- how many expressions are still expected after a term, where n were before it
abbrev pub expected_after : Term → ℕ → ℕ
expected_after (term.Int value) expected = expected - 1
expected_after (term.Name name) expected = expected - 1
expected_after (term.Op op) expected = expected + 1

-- terms that are one expression
abbrev pub expression_of : Option (List Term) → Option (List Term)
expression_of None = None
expression_of (Some terms) = if are_expressions 1 terms then Some terms else None

-- all words are one expression
unfoldable pub expression : (List Term → Row) → List (List ℕ) → Option Row
expression build words = option_map build (expression_of (terms_of words))

abbrev pub after_hook : Keyword → Reader
after_hook k.Error = stop r.HookError
after_hook k.Shutdown = stop r.HookShutdown
after_hook _ = fail

abbrev pub after_deadline : ℕ → List ℕ → List ℕ → ℕ → Keyword → Reader
after_deadline offset mode task deadline k.Stringent = stop (r.AtStringent offset mode task deadline)
after_deadline offset mode task deadline k.Nonstringent = stop (r.AtNonstringent offset mode task deadline)
after_deadline offset mode task deadline _ = fail

abbrev pub after_mode : ℕ → List ℕ → Keyword → Reader
after_mode offset mode k.Activate =
    name (λ task. number (λ deadline. keyword (after_deadline offset mode task deadline)))
after_mode offset mode k.Enable = name (λ isr. stop (r.AtEnable offset mode isr))
after_mode offset mode _ = fail

abbrev pub after_one : Keyword → Reader
after_one k.One = stop r.Header
after_one _ = fail

abbrev pub after_priority : List ℕ → ℕ → Keyword → Reader
after_priority task priority k.Auto = stop (r.OsekAuto task priority)
after_priority task priority _ = fail

-- a row has no field after this first word, or a number alone
abbrev pub begins_short_row : Keyword → Bool
begins_short_row k.Round = true
begins_short_row k.Adjust = true
begins_short_row k.Rounds = true
begins_short_row k.Time = true
begins_short_row k.Work = true
begins_short_row k.Else = true
begins_short_row k.Repeat = true
begins_short_row k.End = true
begins_short_row k.Sync = true
begins_short_row k.Shutdown = true
begins_short_row k.Terminate = true
begins_short_row _ = false

-- the row of a first word and a number
abbrev pub row_of_number : Keyword → ℕ → Option Row
row_of_number k.Round length = Some (r.Round length)
row_of_number k.Adjust most = Some (r.Adjust most)
row_of_number k.Rounds count = Some (r.Rounds count)
row_of_number k.Time global = Some (r.Time global)
row_of_number k.Work ticks = Some (r.Work ticks)
row_of_number k.Repeat turns = Some (r.Repeat turns)
row_of_number _ number = None

-- the row of a first word and a name
abbrev pub row_of_name : Keyword → List ℕ → Option Row
row_of_name k.Mode mode = Some (r.Mode mode)
row_of_name k.Start mode = Some (r.Start mode)
row_of_name k.Take demand = Some (r.Take demand)
row_of_name k.Switch mode = Some (r.Switch mode)
row_of_name k.Activate task = Some (r.Activate task)
row_of_name k.Chain task = Some (r.Chain task)
row_of_name _ name = None

-- the row of a first word, a name and a number
abbrev pub row_of_name_and_number : Keyword → List ℕ → ℕ → Option Row
row_of_name_and_number k.Task task stack = Some (r.Task task stack)
row_of_name_and_number k.Oisr oisr priority = Some (r.Oisr oisr priority)
row_of_name_and_number k.Value demand value = Some (r.Value demand value)
row_of_name_and_number k.Arrive source tick = Some (r.Arrive source tick)
row_of_name_and_number _ name number = None

-- what may follow the first word of a row without an expression
abbrev pub plain_after : Keyword → Reader
plain_after k.Osektime = keyword after_one
plain_after k.Round = number (λ length. stop (r.Round length))
plain_after k.Adjust = number (λ most. stop (r.Adjust most))
plain_after k.Mode = name (λ mode. stop (r.Mode mode))
plain_after k.Var = name (λ var. integer (λ value. stop (r.Var var value)))
plain_after k.Demand = name (λ demand. number (λ most. number (λ usual. stop (r.Demand demand most usual))))
plain_after k.Task = name (λ task. number (λ stack. stop (r.Task task stack)))
plain_after k.Isr =
    name (λ isr. number (λ level. number
    (λ stack. stop_or (r.Isr isr level stack) (number (λ distance. stop (r.IsrFar isr level stack distance))))))
plain_after k.Osek = name (λ task. number
    (λ priority. stop_or (r.Osek task priority) (keyword (after_priority task priority))))
plain_after k.Oisr = name (λ oisr. number (λ priority. stop (r.Oisr oisr priority)))
plain_after k.Hook = keyword after_hook
plain_after k.At = number (λ offset. name (λ mode. keyword (after_mode offset mode)))
plain_after k.Start = name (λ mode. stop (r.Start mode))
plain_after k.Rounds = number (λ count. stop (r.Rounds count))
plain_after k.Value = name (λ demand. number (λ value. stop (r.Value demand value)))
plain_after k.Arrive = name (λ source. number (λ tick. stop (r.Arrive source tick)))
plain_after k.Time = number (λ global. stop (r.Time global))
plain_after k.Work = number (λ ticks. stop (r.Work ticks))
plain_after k.Take = name (λ demand. stop (r.Take demand))
plain_after k.Else = stop r.Else
plain_after k.Repeat = number (λ turns. stop (r.Repeat turns))
plain_after k.End = stop r.End
plain_after k.Switch = name (λ mode. stop (r.Switch mode))
plain_after k.Sync = stop r.Sync
plain_after k.Shutdown = stop r.Shutdown
plain_after k.Activate = name (λ task. stop (r.Activate task))
plain_after k.Chain = name (λ task. stop (r.Chain task))
plain_after k.Terminate = stop r.Terminate
plain_after _ = fail

-- what may follow the first word of a row
abbrev pub after_first : Keyword → Reader
after_first k.Set = name (λ var. expression (λ terms. r.Set var terms))
after_first k.If = expression (λ terms. r.If terms)
after_first k.Out = expression (λ terms. r.Out terms)
after_first key = plain_after key

-- words as a row, whatever the length of its line
abbrev pub row_by_words : List (List ℕ) → Option Row
row_by_words words = keyword after_first words

-- words as a row, where a line of at most 200 bytes can have them
unfoldable pub row_of : List (List ℕ) → Option Row
row_of words = if nat_le (length (joined words)) 200 then row_by_words words else None
