-- The bulk document: n tasks, of which each preempts the one before it, and a routine that an arrival in each of 10,000
-- rounds begins.
use Rattle.std.specs.Prelude.{ℕ, ◌+◌, ◌*◌, ◌%◌, List, [], ◌∷◌, ◌++◌, codes, decimal}
use Rattle.trace_text.specs.Lines.{line}
use Rattle.osektime_core.specs.TableText.{texts_below}

-- how many tasks the document of a number has
abbrev pub bulk_tasks : ℕ → ℕ
bulk_tasks number = 2 + number % 31

-- how many ticks a round of n tasks has
abbrev pub bulk_round : ℕ → ℕ
bulk_round n = 20 * n

-- the name of task i
abbrev pub bulk_name : ℕ → List ℕ
bulk_name i = codes "T" ++ decimal i

-- the version, the round and the mode
abbrev pub first_rows : (round : ℕ) → List ℕ
first_rows round =
    line (codes "osektime" ∷ codes "1" ∷ [])
    ++ (line (codes "round" ∷ decimal round ∷ [])
    ++ line (codes "mode" ∷ codes "m" ∷ []))

-- task i and its body
abbrev pub task_rows : ℕ → List ℕ
task_rows i =
    line (codes "task" ∷ bulk_name i ∷ codes "16" ∷ [])
    ++ (line (codes "work" ∷ codes "15" ∷ [])
    ++ line (codes "end" ∷ []))

-- the routine and its body
abbrev pub isr_rows : List ℕ
isr_rows =
    line (codes "isr" ∷ codes "K" ∷ codes "1" ∷ codes "32" ∷ [])
    ++ (line (codes "work" ∷ codes "2" ∷ [])
    ++ line (codes "end" ∷ []))

-- the activation of task i
abbrev pub activation_row : (round i : ℕ) → List ℕ
activation_row round i =
    line (codes "at" ∷ decimal (10 * i) ∷ codes "m" ∷ codes "activate" ∷ bulk_name i ∷ decimal round
    ∷ codes "stringent" ∷ [])

-- the enable of the routine, the first mode and the number of rounds
abbrev pub start_rows : List ℕ
start_rows =
    line (codes "at" ∷ codes "5" ∷ codes "m" ∷ codes "enable" ∷ codes "K" ∷ [])
    ++ (line (codes "start" ∷ codes "m" ∷ [])
    ++ line (codes "rounds" ∷ codes "10000" ∷ []))

-- the arrival in round r, of which the first has the number 0
abbrev pub arrival_row : (round r : ℕ) → List ℕ
arrival_row round r = line (codes "arrive" ∷ codes "K" ∷ decimal (r * round + 5) ∷ [])

-- the document of n tasks, with this many arrivals
unfoldable pub bulk_rows : (n arrivals : ℕ) → List ℕ
bulk_rows n arrivals =
    first_rows (bulk_round n)
    ++ (texts_below task_rows n
    ++ (isr_rows
    ++ (texts_below (activation_row (bulk_round n)) n
    ++ (start_rows
    ++ texts_below (arrival_row (bulk_round n)) arrivals))))

-- the document of a number
unfoldable pub bulk_text : ℕ → List ℕ
bulk_text number = bulk_rows (bulk_tasks number) 10000
