-- The schedule: the events of the instants 0, 1, 2 and so on, up to the first that ends the run.
use Rattle.std.specs.Prelude.{◌≡◌, ℕ, zero, suc, ◌<◌, ◌≤◌, ◌+◌, ◌*◌, Bool, true, false, List, [], ◌++◌, None, pos, length, map, replicate, if◌then◌else◌}
use Rattle.tt_base.specs.declared.event.Event.{Event}
use Rattle.tt_world.specs.declared.config.ConfigParts.{ConfigParts}
use Rattle.tt_world.specs.declared.script.ScriptParts.{ScriptParts}
use Rattle.tt_world.specs.declared.config.OsekDef.{OsekDef}
use Rattle.tt_world.specs.declared.world.Runner.{Runner}
use Rattle.tt_world.specs.declared.world.Runner.TheVariants.{Nobody}
use Rattle.tt_world.specs.World.{World}
use Rattle.tt_world.specs.Runners.{runner_of}
use Rattle.tt_world.specs.Moved.{Moved, followed, is_over}
use Rattle.tt_world.specs.Opening.{opening}
use Rattle.tt_world.specs.Step.{step}

-- the rules that bound a run: how long a round is and how far it is corrected, how many rounds there are, and that
-- the mode at the start exists
pub record IsBounded (c : ConfigParts) (s : ScriptParts) : Type 0 where
  pub round_long : 2 ≤ c.round
  pub round_short : c.round ≤ 10000000
  pub adjust : 4 * c.adjust ≤ c.round
  pub start : s.start.0 < length c.modes
  pub some_round : 1 ≤ s.rounds
  pub few_rounds : s.rounds ≤ 100000

-- before tick 0: round 1 of the start mode, which is also the wanted mode; no correction; the variables with their
-- initial values; no script value or global time used; all sources enabled, and nothing held; and the tasks with the
-- auto mark ready
abbrev pub first_world : ConfigParts → ScriptParts → World
first_world c s = record {
  tick = 0;
  start = 0;
  number = 1;
  mode = s.start;
  wanted = s.start;
  pending = pos 0;
  latched = None;
  times_used = 0;
  vars = c.vars;
  cursors = replicate (length c.demands) 0;
  jobs = [];
  isrs_enabled = replicate (length c.isrs) true;
  isrs_held = replicate (length c.isrs) false;
  isrs = replicate (length c.isrs) [];
  oisrs_held = replicate (length c.oisrs) false;
  oisrs = replicate (length c.oisrs) [];
  oseks = map (λ (task : OsekDef). if task.auto then task.body else []) c.oseks;
  last = None;
}

-- one instant: its opening, and one tick where the run goes on
unfoldable pub instant : ConfigParts → ScriptParts → World → Moved
instant c s w = followed (opening c s w) (step c s)

-- the world before instant n
unfoldable pub world_at : ConfigParts → ScriptParts → ℕ → World
world_at c s zero = first_world c s
world_at c s (suc n) = (instant c s (world_at c s n)).world

unfoldable pub instant_at : ConfigParts → ScriptParts → ℕ → Moved
instant_at c s n = instant c s (world_at c s n)

-- the events of the instants before n
unfoldable pub events_before : ConfigParts → ScriptParts → ℕ → List Event
events_before c s zero = []
events_before c s (suc n) = events_before c s n ++ (instant_at c s n).events

-- the events of the next k instants from instant m on
unfoldable pub events_between : ConfigParts → ScriptParts → (m k : ℕ) → List Event
events_between c s m zero = []
events_between c s m (suc k) = events_between c s m k ++ (instant_at c s (m + k)).events

abbrev pub runner_if : (over : Bool) → Runner → Runner
runner_if true runner = Nobody
runner_if false runner = runner

-- who takes the tick of instant n: nobody where its opening ends the run
unfoldable pub runner_at : ConfigParts → ScriptParts → ℕ → Runner
runner_at c s n = let m = opening c s (world_at c s n) in runner_if (is_over m.end) (runner_of c m.world)

-- how many of the next k instants from instant m on are taken by a runner of this kind
unfoldable pub ticks_of : (Runner → Bool) → ConfigParts → ScriptParts → (m k : ℕ) → ℕ
ticks_of test c s m zero = 0
ticks_of test c s m (suc k) = ticks_of test c s m k + (if test (runner_at c s (m + k)) then 1 else 0)

-- whether instant n ends the run
abbrev pub ends_at : ConfigParts → ScriptParts → ℕ → Bool
ends_at c s n = is_over (instant_at c s n).end

-- n is the last instant: it ends the run, and none before it does
pub record IsLast (c : ConfigParts) (s : ScriptParts) (n : ℕ) : Type 0 where
  pub ends : ends_at c s n ≡ true
  pub first : (k : ℕ) → k < n → ends_at c s k ≡ false

-- the first of the next `more` instants from `from` on that ends the run, otherwise the one after them
unfoldable pub last_from : ConfigParts → ScriptParts → (more from : ℕ) → ℕ
last_from c s zero from = from
last_from c s (suc more) from = if ends_at c s from then from else last_from c s more (from + 1)

-- the most ticks that a run takes: all rounds, each made longer by the greatest correction
abbrev pub most_ticks : ConfigParts → ScriptParts → ℕ
most_ticks c s = s.rounds * (c.round + c.adjust)

-- the first instant that ends the run
unfoldable pub last_instant : ConfigParts → ScriptParts → ℕ
last_instant c s = last_from c s (most_ticks c s) 0

unfoldable pub schedule : ConfigParts → ScriptParts → List Event
schedule c s = events_before c s (suc (last_instant c s))
