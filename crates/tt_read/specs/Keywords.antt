-- The words of the language, and how each is spelled.
use Rattle.std.specs.Prelude.{ℕ, ◌==◌, Bool, false, List, [], ◌∷◌, Option, codes, filter, find}
use Rattle.std.specs.Str.{bytes_eq}
use Rattle.tt_read.specs.declared.keyword.Keyword.{Keyword}
use Rattle.tt_read.specs.declared.keyword.Keyword.TheVariants as k

abbrev pub keyword_text : Keyword → List ℕ
keyword_text k.Osektime = codes "osektime"
keyword_text k.One = codes "1"
keyword_text k.Round = codes "round"
keyword_text k.Adjust = codes "adjust"
keyword_text k.Mode = codes "mode"
keyword_text k.Var = codes "var"
keyword_text k.Demand = codes "demand"
keyword_text k.Task = codes "task"
keyword_text k.Isr = codes "isr"
keyword_text k.Osek = codes "osek"
keyword_text k.Auto = codes "auto"
keyword_text k.Oisr = codes "oisr"
keyword_text k.Hook = codes "hook"
keyword_text k.Error = codes "error"
keyword_text k.Shutdown = codes "shutdown"
keyword_text k.At = codes "at"
keyword_text k.Activate = codes "activate"
keyword_text k.Stringent = codes "stringent"
keyword_text k.Nonstringent = codes "nonstringent"
keyword_text k.Enable = codes "enable"
keyword_text k.Start = codes "start"
keyword_text k.Rounds = codes "rounds"
keyword_text k.Value = codes "value"
keyword_text k.Arrive = codes "arrive"
keyword_text k.Time = codes "time"
keyword_text k.Work = codes "work"
keyword_text k.Take = codes "take"
keyword_text k.Set = codes "set"
keyword_text k.If = codes "if"
keyword_text k.Else = codes "else"
keyword_text k.Repeat = codes "repeat"
keyword_text k.End = codes "end"
keyword_text k.Out = codes "out"
keyword_text k.Switch = codes "switch"
keyword_text k.Sync = codes "sync"
keyword_text k.Chain = codes "chain"
keyword_text k.Terminate = codes "terminate"

-- all of them, those that a document can have most often first
abbrev pub keywords : List Keyword
keywords =
    k.Terminate ∷ k.Chain ∷ k.Sync ∷ k.Switch ∷ k.Out ∷ k.End ∷ k.Repeat ∷ k.Else ∷ k.If ∷ k.Set ∷ k.Take ∷ k.Work
    ∷ k.Time ∷ k.Arrive ∷ k.Value ∷ k.Rounds ∷ k.Start ∷ k.Enable ∷ k.Nonstringent ∷ k.Stringent ∷ k.Activate ∷ k.At
    ∷ k.Shutdown ∷ k.Error ∷ k.Hook ∷ k.Oisr ∷ k.Auto ∷ k.Osek ∷ k.Isr ∷ k.Task ∷ k.Demand ∷ k.Var ∷ k.Mode
    ∷ k.Adjust ∷ k.Round ∷ k.One ∷ k.Osektime ∷ []

-- a text as one of these words
unfoldable pub keyword_among : List Keyword → List ℕ → Option Keyword
keyword_among words text = find (λ keyword. bytes_eq text (keyword_text keyword)) words

-- a text as a word of the language
unfoldable pub keyword_of : List ℕ → Option Keyword
keyword_of text = find (λ keyword. bytes_eq text (keyword_text keyword)) keywords

-- a text begins with this byte
abbrev pub begins_with : ℕ → List ℕ → Bool
begins_with first [] = false
begins_with first (byte ∷ bytes) = first == byte

-- the words of the language with a first byte
unfoldable pub keywords_with : ℕ → List Keyword
keywords_with first = filter (λ keyword. begins_with first (keyword_text keyword)) keywords
