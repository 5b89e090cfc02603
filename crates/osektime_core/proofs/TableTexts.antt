-- The texts of the offsets of a dispatcher table, one after another.
use Rattle.std.proofs.Common.{◌≡◌, ℕ, zero, suc, ◌≤◌, ◌<◌, ◌+◌, ◌-◌, List, [], ◌++◌, Option, None, Some, length, refl, sym, ap, ◌∙◌, subst, append_assoc, append-nil, add-one, arith}
use Rattle.std.specs.Prelude.{unwrap_or, IfSome}
use Rattle.tt_base.specs.declared.names.NameEntry.{NameEntry}
use Rattle.tt_base.specs.declared.number.IsrNo.{IsrNo}
use Rattle.tt_base.specs.declared.number.ModeNo.{ModeNo}
use Rattle.tt_world.specs.declared.config.ModeDef.{ModeDef}
use Rattle.tt_world.specs.declared.config.ConfigParts.{ConfigParts}
use Rattle.tt_world.specs.declared.world.Point.TheVariants as point
use Rattle.tt_world.specs.Monitoring.{is_at}
use Rattle.tt_world.specs.Rows.{mode_at, entry_at, enables_at}
use Rattle.round_table.specs.DueRows.{isrs_of, entries_due, is_round_end}
use Rattle.round_table.specs.ExpiryPoints.{IsFree}
use Rattle.round_table.specs.TableRows.{TableRows, table_of}
use Rattle.osektime_core.specs.TableText.{activation_lines, check_lines, enable_lines, lines_at, mode_line, mode_text, modes_below, table_text, texts_below}

-- ---- texts one after another

-- no text
pub texts_none : (text : ℕ → List ℕ) (before : List ℕ) → before ≡ before ++ texts_below text 0
unfolding texts_below
texts_none text before = sym (append-nil before)

-- one text more
pub texts_more : (text : ℕ → List ℕ) (n : ℕ) → texts_below text (n + 1) ≡ texts_below text n ++ text n
unfolding texts_below
texts_more text n = ap (texts_below text) (add-one n)

-- texts that are empty
texts_skipped : (text : ℕ → List ℕ) (from more : ℕ)
    → ((between : ℕ) → from ≤ between → between < from + more → text between ≡ [])
    → texts_below text (from + more) ≡ texts_below text from
texts_skipped text from zero empty = let same : from + 0 ≡ from = omega arith in ap (texts_below text) same
texts_skipped text from (suc more) empty =
    let longer : from + suc more ≡ (from + more) + 1 = omega arith in
    ap (texts_below text) longer ∙ texts_more text (from + more)
    ∙ ap (λ t. texts_below text (from + more) ++ t) (empty (from + more) (omega arith) (omega arith))
    ∙ append-nil (texts_below text (from + more))
    ∙ texts_skipped text from more (λ between le l. empty between le (omega arith))

-- the text of a number, where those after it are empty up to another number
texts_up_to : (text : ℕ → List ℕ) (n other : ℕ) → n < other
    → ((between : ℕ) → n < between → between < other → text between ≡ [])
    → texts_below text other ≡ texts_below text n ++ text n
texts_up_to text n other l empty =
    let same : other ≡ (n + 1) + (other - (n + 1)) = omega arith in
    ap (texts_below text) same
    ∙ texts_skipped text (n + 1) (other - (n + 1)) (λ between le less. empty between (omega arith) (omega arith))
    ∙ texts_more text n

-- ---- the lines of a table

lines_with : List NameEntry → ModeDef → ℕ → List ℕ → List IsrNo → Option ℕ → List ℕ
lines_with names mode offset entries isrs entry =
    check_lines names mode (point.At offset) entries
    ++ (enable_lines names offset isrs ++ activation_lines names mode entry)

lines_alike : (names : List NameEntry) (mode : ModeDef) (offset : ℕ) (entries : List ℕ) (isrs : List IsrNo)
    (entry : Option ℕ) → entries_due (is_at offset) mode ≡ entries
    → isrs_of (enables_at offset mode.enables) ≡ isrs → entry_at offset mode.activations ≡ entry
    → lines_at names mode offset ≡ lines_with names mode offset entries isrs entry
unfolding lines_at lines_with
lines_alike names mode offset entries isrs entry checks enables activation =
    ap (λ es. lines_with names mode offset es (isrs_of (enables_at offset mode.enables))
    (entry_at offset mode.activations)) checks
    ∙ ap (λ (is : List IsrNo). lines_with names mode offset entries is (entry_at offset mode.activations)) enables
    ∙ ap (lines_with names mode offset entries isrs) activation

-- an offset at which nothing is due has no line
free_lines : (names : List NameEntry) (mode : ModeDef) (offset : ℕ) → IsFree offset mode
    → lines_at names mode offset ≡ []
unfolding lines_with
free_lines names mode offset free =
    lines_alike names mode offset [] [] None free.checks (ap isrs_of free.enables) free.activation

-- the lines of an offset, and then of those up to the next at which something is due
lines_up_to : (names : List NameEntry) (mode : ModeDef) (limit offset : ℕ) (next : Option ℕ) → offset ≤ limit
    → IfSome next (λ other. (offset < other) × (other ≤ limit))
    → ((between : ℕ) → offset < between → IfSome next (λ n. between < n) → IsFree between mode)
    → texts_below (lines_at names mode) (unwrap_or next (limit + 1)) ≡ texts_below (lines_at names mode) offset
    ++ lines_at names mode offset
lines_up_to names mode limit offset None within ahead free =
    texts_up_to (lines_at names mode) offset (limit + 1) (omega arith)
    (λ between l less. free_lines names mode between (free between l tt))
lines_up_to names mode limit offset (Some other) within ahead free =
    texts_up_to (lines_at names mode) offset other ahead.0
    (λ between l less. free_lines names mode between (free between l less))

-- the lines of an offset joined to those before it
pub lines_on : (names : List NameEntry) (mode : ModeDef) (limit offset : ℕ) (this next : Option ℕ)
    (before now after : List ℕ) → this ≡ Some offset
    → IfSome this (λ other. other ≤ limit)
    → now ≡ before ++ texts_below (lines_at names mode) (unwrap_or this (limit + 1))
    → after ≡ now ++ lines_at names mode offset → IfSome next (λ other. (offset < other) × (other ≤ limit))
    → ((between : ℕ) → offset < between → IfSome next (λ n. between < n) → IsFree between mode)
    → after ≡ before ++ texts_below (lines_at names mode) (unwrap_or next (limit + 1))
lines_on names mode limit offset this next before now after is within so_far put ahead free =
    let low : offset ≤ limit = subst (λ (o : Option ℕ). IfSome o (λ other. other ≤ limit)) is within in
    let text = texts_below (lines_at names mode) in
    put ∙ ap (λ t. t ++ lines_at names mode offset)
    (so_far ∙ ap (λ (o : Option ℕ). before ++ text (unwrap_or o (limit + 1))) is)
    ∙ append_assoc before (text offset) (lines_at names mode offset)
    ∙ ap (λ t. before ++ t) (sym (lines_up_to names mode limit offset next low ahead free))

pub next_within : (limit offset : ℕ) (next : Option ℕ) → IfSome next (λ other. (offset < other) × (other ≤ limit))
    → IfSome next (λ other. other ≤ limit)
next_within limit offset None ahead = tt
next_within limit offset (Some other) ahead = ahead.1

joined_three : (before a b c one two three : List ℕ) → one ≡ before ++ a → two ≡ one ++ b → three ≡ two ++ c
    → three ≡ before ++ (a ++ (b ++ c))
joined_three before a b c one two three p q r =
    r ∙ ap (λ t. t ++ c) (q ∙ ap (λ t. t ++ b) p) ∙ append_assoc (before ++ a) b c ∙ append_assoc before a (b ++ c)

-- the lines of an offset are those of its checks, of its enables and of its activation
pub lines_joined : (names : List NameEntry) (mode : ModeDef) (offset : ℕ) (entries : List ℕ) (isrs : List IsrNo)
    (entry : Option ℕ) (before one two three : List ℕ)
    → entries ≡ entries_due (is_at offset) mode → isrs ≡ isrs_of (enables_at offset mode.enables)
    → entry ≡ entry_at offset mode.activations
    → one ≡ before ++ check_lines names mode (point.At offset) entries → two ≡ one ++ enable_lines names offset isrs
    → three ≡ two ++ activation_lines names mode entry → three ≡ before ++ lines_at names mode offset
unfolding lines_with
lines_joined names mode offset entries isrs entry before one two three checks enables activation p q r =
    joined_three before _ _ _ one two three p q r
    ∙ ap (λ t. before ++ t)
    (sym (lines_alike names mode offset entries isrs entry (sym checks) (sym enables) (sym activation)))

-- ---- the tables of modes

mode_lines : List NameEntry → ModeNo → ModeDef → ℕ → List ℕ → List ℕ
mode_lines names number mode past entries =
    mode_line names number ++ (texts_below (lines_at names mode) past ++ check_lines names mode point.RoundEnd entries)

-- the text of a mode is its line, the lines of its offsets and those of the checks at the round's end
pub mode_joined : (c : ConfigParts) (number : ModeNo) (table : TableRows) (names : List NameEntry)
    (entries before one two three : List ℕ) → names ≡ c.names
    → table ≡ table_of c (mode_at c number.0) → entries ≡ entries_due is_round_end table.mode
    → one ≡ before ++ mode_line names number
    → two ≡ one ++ texts_below (lines_at names table.mode) (table.limit + 1)
    → three ≡ two ++ check_lines names table.mode point.RoundEnd entries
    → three ≡ before ++ mode_text c number
unfolding mode_lines mode_text
mode_joined c number table names entries before one two three named is last p q r =
    joined_three before _ _ _ one two three p q r
    ∙ ap (λ (ns : List NameEntry). before ++ mode_lines ns number table.mode (table.limit + 1) entries) named
    ∙ ap (λ n. before ++ mode_lines c.names number table.mode n entries) (add-one table.limit)
    ∙ ap (λ es. before ++ mode_lines c.names number table.mode (suc table.limit) es) last
    ∙ ap (λ (t : TableRows). before ++ mode_lines c.names number t.mode (suc t.limit) (entries_due is_round_end t.mode))
    is

-- no table
pub modes_none : (c : ConfigParts) → [] ≡ modes_below c 0
unfolding texts_below
modes_none c = refl

-- one table more
pub modes_more : (c : ConfigParts) (number : ℕ) (now after : List ℕ) → now ≡ modes_below c number
    → after ≡ now ++ mode_text c (record { 0 = number })
    → after ≡ modes_below c (number + 1)
modes_more c number now after so_far put =
    put ∙ ap (λ t. t ++ mode_text c (record { 0 = number })) so_far
    ∙ sym (texts_more (λ n. mode_text c (record { 0 = n })) number)

-- all tables
pub modes_all : (c : ConfigParts) (number : ℕ) → number ≡ length c.modes → modes_below c number ≡ table_text c
unfolding table_text
modes_all c number is = ap (modes_below c) is
