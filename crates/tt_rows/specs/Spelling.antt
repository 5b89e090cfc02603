-- How each row is spelled: one table, for both reading and showing.
use Rattle.std.specs.Prelude.{ℕ, ℤ, List, [], ◌∷◌, ◌++◌, map, flat_map, codes, decimal}
use Rattle.std.specs.Fmt.{signed_decimal}
use Rattle.task_lang.specs.declared.syntax.Op.{Op}
use Rattle.task_lang.specs.declared.syntax.Op.TheVariants.{Add, Sub, Mul, Less, AtMost, Same, Differ}
use Rattle.tt_rows.specs.declared.row.Term.{Term}
use Rattle.tt_rows.specs.declared.row.Term.TheVariants as term
use Rattle.tt_rows.specs.declared.row.Row.{Row}
use Rattle.tt_rows.specs.declared.row.Row.TheVariants as r
use Rattle.tt_doc.specs.Words.{joined}

-- a part of a row's line: a word of the language, a number, a name, an integer, or an expression by its terms
pub data Item : Type 0 where
  Key : List ℕ → Item
  Number : ℕ → Item
  Named : List ℕ → Item
  Integer : ℤ → Item
  Expression : List Term → Item

-- the parts of each row's line, in order
abbrev pub items_of : Row → List Item
items_of r.Header = Key (codes "osektime") ∷ Key (codes "1") ∷ []
items_of (r.Round length) = Key (codes "round") ∷ Number length ∷ []
items_of (r.Adjust most) = Key (codes "adjust") ∷ Number most ∷ []
items_of (r.Mode name) = Key (codes "mode") ∷ Named name ∷ []
items_of (r.Var name value) = Key (codes "var") ∷ Named name ∷ Integer value ∷ []
items_of (r.Demand name most usual) = Key (codes "demand") ∷ Named name ∷ Number most ∷ Number usual ∷ []
items_of (r.Task name stack) = Key (codes "task") ∷ Named name ∷ Number stack ∷ []
items_of (r.Isr name level stack) = Key (codes "isr") ∷ Named name ∷ Number level ∷ Number stack ∷ []
items_of (r.IsrFar name level stack distance) =
    Key (codes "isr") ∷ Named name ∷ Number level ∷ Number stack ∷ Number distance ∷ []
items_of (r.Osek name priority) = Key (codes "osek") ∷ Named name ∷ Number priority ∷ []
items_of (r.OsekAuto name priority) = Key (codes "osek") ∷ Named name ∷ Number priority ∷ Key (codes "auto") ∷ []
items_of (r.Oisr name priority) = Key (codes "oisr") ∷ Named name ∷ Number priority ∷ []
items_of r.HookError = Key (codes "hook") ∷ Key (codes "error") ∷ []
items_of r.HookShutdown = Key (codes "hook") ∷ Key (codes "shutdown") ∷ []
items_of (r.AtStringent offset mode task deadline) =
    Key (codes "at") ∷ Number offset ∷ Named mode ∷ Key (codes "activate") ∷ Named task ∷ Number deadline ∷ Key
    (codes "stringent") ∷ []
items_of (r.AtNonstringent offset mode task deadline) =
    Key (codes "at") ∷ Number offset ∷ Named mode ∷ Key (codes "activate") ∷ Named task ∷ Number deadline ∷ Key
    (codes "nonstringent") ∷ []
items_of (r.AtEnable offset mode isr) =
    Key (codes "at") ∷ Number offset ∷ Named mode ∷ Key (codes "enable") ∷ Named isr ∷ []
items_of (r.Start mode) = Key (codes "start") ∷ Named mode ∷ []
items_of (r.Rounds count) = Key (codes "rounds") ∷ Number count ∷ []
items_of (r.Value demand value) = Key (codes "value") ∷ Named demand ∷ Number value ∷ []
items_of (r.Arrive source tick) = Key (codes "arrive") ∷ Named source ∷ Number tick ∷ []
items_of (r.Time global) = Key (codes "time") ∷ Number global ∷ []
items_of (r.Work ticks) = Key (codes "work") ∷ Number ticks ∷ []
items_of (r.Take demand) = Key (codes "take") ∷ Named demand ∷ []
items_of (r.Set var terms) = Key (codes "set") ∷ Named var ∷ Expression terms ∷ []
items_of (r.If terms) = Key (codes "if") ∷ Expression terms ∷ []
items_of r.Else = Key (codes "else") ∷ []
items_of (r.Repeat turns) = Key (codes "repeat") ∷ Number turns ∷ []
items_of r.End = Key (codes "end") ∷ []
items_of (r.Out terms) = Key (codes "out") ∷ Expression terms ∷ []
items_of (r.Switch mode) = Key (codes "switch") ∷ Named mode ∷ []
items_of r.Sync = Key (codes "sync") ∷ []
items_of r.Shutdown = Key (codes "shutdown") ∷ []
items_of (r.Activate task) = Key (codes "activate") ∷ Named task ∷ []
items_of (r.Chain task) = Key (codes "chain") ∷ Named task ∷ []
items_of r.Terminate = Key (codes "terminate") ∷ []

abbrev pub op_word : Op → List ℕ
op_word Add = codes "+"
op_word Sub = codes "-"
op_word Mul = codes "*"
op_word Less = codes "<"
op_word AtMost = codes "<="
op_word Same = codes "=="
op_word Differ = codes "!="

abbrev pub term_word : Term → List ℕ
term_word (term.Int value) = signed_decimal value
term_word (term.Name name) = name
term_word (term.Op op) = op_word op

-- the words of a part
abbrev pub words_of_item : Item → List (List ℕ)
words_of_item (Key word) = word ∷ []
words_of_item (Number n) = decimal n ∷ []
words_of_item (Named name) = name ∷ []
words_of_item (Integer value) = signed_decimal value ∷ []
words_of_item (Expression terms) = map term_word terms

-- the words of a row's line
abbrev pub spelling_of : Row → List (List ℕ)
spelling_of row = flat_map words_of_item (items_of row)

-- the canonical line of a row, without its LF: its words with one space between them
abbrev pub line_of_row : Row → List ℕ
line_of_row row = joined (spelling_of row)
