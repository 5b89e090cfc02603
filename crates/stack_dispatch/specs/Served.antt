-- What the parts of an opening require.
use Rattle.std.specs.Prelude.{◌≡◌, ℕ, ◌+◌, ◌^◌, ◌<◌, ◌≤◌, false, [], Option, None, Some, IfSome, length, slice_index_or, slice_range}
use Rattle.std.specs.Option.{ForSome}
use Rattle.tt_world.specs.declared.config.ConfigParts.{ConfigParts}
use Rattle.tt_world.specs.declared.script.ScriptParts.{ScriptParts}
use Rattle.tt_world.specs.ConfigRules.{IsConfig}
use Rattle.tt_world.specs.ScriptRules.{IsScript}
use Rattle.tt_world.specs.Load.{count_unfinished}
use Rattle.tt_world.specs.World.{World}
use Rattle.tt_world.specs.Monitoring.{is_at}
use Rattle.tt_world.specs.Rows.{offset_of, mode_of, row_of, body_of, enables_at, entry_at}
use Rattle.tt_world.proofs.Late.{Late}
use Rattle.tt_world.proofs.Modes.{Named}
use Rattle.tt_world.proofs.Parts.{Phase, Before}
use Rattle.tt_world.proofs.Places.{Placed}
use Rattle.tt_world.proofs.Points.{Ahead as PointsAhead}
use Rattle.tt_world.proofs.Time.{Timed}
use Rattle.tt_stack.specs.Words.{all_isr_words, all_row_words}
use Rattle.isr_window.specs.Played.{AreLeftFrom, AreSourcesOf}
use Rattle.isr_window.specs.Window.{next_tick}
use Rattle.round_end.specs.Round.{Round, next_own}
use Rattle.round_table.specs.declared.due.Due.{Due}
use Rattle.round_table.specs.ExpiryPoints.{IsFree}
use Rattle.round_table.specs.DueRows.{checks_of, enables_of, entries_due, isrs_of}
use Rattle.round_table.specs.TableRows.{TableRows, table_of}
use Rattle.stack_dispatch.specs.declared.ahead.Ahead.{Ahead}
use Rattle.stack_dispatch.specs.Counts.{IsDueAt}
use Rattle.stack_dispatch.specs.Due.{NoneAccepted}
use Rattle.stack_dispatch.specs.State.{RunState, IsFor, window_in}

-- the configuration and the script meet the rules, the round is where it can be at this part of an opening, the
-- activations are placed as the rows of the mode, and the monitoring points of the unfinished ones are still to come
pub record IsServed (phase : Phase) (c : ConfigParts) (s : ScriptParts) (w : World) : Type 0 where
  pub rules : IsConfig c
  pub script : IsScript c s
  pub timed : Timed phase c s w
  pub placed : Placed c 0 w
  pub ahead : PointsAhead c 0 w

-- a table is that of the present mode
abbrev pub IsTableOf : ConfigParts → TableRows → World → Type 0
IsTableOf c table w = table ≡ table_of c (mode_of c w)

pub record HasRoom (c : ConfigParts) (table : TableRows) (entry : ℕ) (st : RunState) : Type 0 where
  pub within : entry < length table.mode.activations
  pub next : entry ≡ length st.world.jobs
  pub few : length st.world.jobs < 4096
  pub exists : (row_of table.mode entry).task.0 < st.beside.first
  pub body : body_of c (row_of table.mode entry).task
      ≡ slice_index_or st.beside.codes (row_of table.mode entry).task.0 []
  pub room : count_unfinished st.world.jobs < 64

-- the places, in the lists of a table, of what is due at an offset
pub record StandsAt (table : TableRows) (offset : ℕ) (due : Due) : Type 0 where
  pub checks : slice_range (checks_of table) due.checks_from due.checks_to ≡ entries_due (is_at offset) table.mode
  pub checks_within : due.checks_to ≤ length (checks_of table)
  pub enables : slice_range (enables_of table) due.enables_from due.enables_to
      ≡ isrs_of (enables_at offset table.mode.enables)
  pub enables_within : due.enables_to ≤ length (enables_of table)
  pub activation : due.activation ≡ entry_at offset table.mode.activations
  pub activation_within : IfSome due.activation (λ entry. entry < length table.mode.activations)

-- an activation is the next one of the round, of a task that exists, and there is room for it on the stack
abbrev pub CanActivate : ConfigParts → TableRows → Option ℕ → RunState → Type 0
CanActivate c table None st = Unit {0}
CanActivate c table (Some entry) st = HasRoom c table entry st

-- the interrupt sources are those of the configuration, and the arrivals to come are those of the script from a tick on
pub record HasSources (c : ConfigParts) (s : ScriptParts) (tick : ℕ) (st : RunState) : Type 0 where
  pub sources : AreSourcesOf c (window_in st)
  pub left : AreLeftFrom c s tick (window_in st)

-- after the opening of an instant at a tick: the sources are those from the next tick on, and nothing can be accepted
pub record IsOpened (c : ConfigParts) (s : ScriptParts) (tick : ℕ) (st : RunState) : Type 0 where
  pub sources : HasSources c s (tick + 1) st
  pub none : NoneAccepted c st.world

-- a run can take the instant
pub record CanPass (c : ConfigParts) (s : ScriptParts) (st : RunState) : Type 0 where
  pub served : IsServed Before c s st.world
  pub late : Late 0 c st.world
  pub named : Named c st.world
  pub fixed : IsFor c s st.beside
  pub sources : HasSources c s st.world.tick st
  pub tick : st.world.tick + 1 < 2 ^ 64

-- what is needed to read the words of stack of the world after an opening: the declared words are those of the
-- configuration, and the activations are placed as the rows of the mode
pub record IsWeighed (c : ConfigParts) (st : RunState) : Type 0 where
  pub isr_words : st.beside.isr_words ≡ all_isr_words c
  pub row_words : st.beside.row_words ≡ all_row_words c
  pub placed : Placed c 1 st.world

-- the round of a state
abbrev pub round_in : RunState → Round
round_in st = record {
  round = st.beside.round;
  adjust = st.beside.adjust;
  modes = st.beside.modes;
  rounds = st.beside.rounds;
  times = st.beside.times;
  start = st.world.start;
  number = st.world.number;
  mode = st.world.mode;
  wanted = st.world.wanted;
  pending = st.world.pending;
  latched = st.world.latched;
  times_used = st.world.times_used;
}

-- in the table of the present mode, nothing is due after the present offset and before a tick
abbrev pub AreRowsFree : ConfigParts → World → ℕ → Type 0
AreRowsFree c w tick = (offset : ℕ) → offset_of w + 1 ≤ offset → w.start + offset < tick → IsFree offset (mode_of c w)

-- nothing is due at a tick from the present one on up to below the next one: no expiry point, latch, round's end or
-- arrival. k is 0 before the opening of an instant, and 1 after it. At tick 0 the head of the run is due
pub record IsAhead (c : ConfigParts) (k : ℕ) (st : RunState) (next : ℕ) : Type 0 where
  pub head : st.world.tick + k ≡ 0 → next ≡ 0
  pub free : (offset : ℕ) → offset_of st.world + k ≤ offset → st.world.start + offset < next
      → IsFree offset (mode_of c st.world)
  pub own : next ≤ next_own (round_in st)
  pub arrivals : ForSome (next_tick (window_in st)) (λ tick. next ≤ tick)

-- what the runner sees ahead before an instant: until when nothing is due, that something is due then, and, unless an
-- owner has ended, that nothing can be accepted
pub record Foresees (c : ConfigParts) (s : ScriptParts) (st : RunState) (ahead : Ahead) : Type 0 where
  pub next : IsAhead c 0 st ahead.next
  pub due : st.world.tick < ahead.next → IsDueAt c s st.world ahead.next
  pub none : ahead.ended ≡ false → NoneAccepted c st.world
