-- The present round, and what the next one will be.
use Rattle.std.specs.Prelude.{◌≡◌, ℕ, suc, ◌+◌, ◌-◌, ◌*◌, ◌^◌, ◌<◌, ◌≤◌, ◌==◌, Bool, ℤ, pos, negsuc, List, length, Option, None, Some, if◌then◌else◌, slice_get}
use Rattle.tt_base.specs.declared.number.ModeNo.{ModeNo}
use Rattle.tt_world.specs.declared.config.ConfigParts.{ConfigParts}
use Rattle.tt_world.specs.Correction.{correction_of, length_with}

-- what is known of the round at an instant
pub record Round : Type 0 where
  -- the length of a round without a correction, the greatest correction, and the number of modes
  pub round : ℕ
  pub adjust : ℕ
  pub modes : ℕ
  -- the number of rounds, and the global times
  pub rounds : ℕ
  pub times : List ℕ
  -- the tick at which the present round began, its number, counted from 1, and its mode
  pub start : ℕ
  pub number : ℕ
  pub mode : ModeNo
  -- the mode of the next round
  pub wanted : ModeNo
  -- the correction of the next round whose length is latched
  pub pending : ℤ
  -- the length of the present round, once it is latched
  pub latched : Option ℕ
  -- how many global times were used
  pub times_used : ℕ

-- before tick 0: round 1, of the start mode
abbrev pub first_round : ConfigParts → (start : ModeNo) → (rounds : ℕ) → (times : List ℕ) → Round
first_round c start rounds times = record {
  round = c.round;
  adjust = c.adjust;
  modes = length c.modes;
  rounds = rounds;
  times = times;
  start = 0;
  number = 1;
  mode = start;
  wanted = start;
  pending = pos 0;
  latched = None;
  times_used = 0;
}

-- ---- ranges

-- a correction is within this many ticks in either direction
abbrev pub IsWithin : (most : ℕ) → ℤ → Type 0
IsWithin most (pos ticks) = ticks ≤ most
IsWithin most (negsuc ticks) = suc ticks ≤ most

-- a latched length differs from the length of a round by at most the greatest correction
pub record IsLength (r : Round) (length : ℕ) : Type 0 where
  pub least : r.round ≤ length + r.adjust
  pub most : length ≤ r.round + r.adjust

-- a round is corrected by at most a quarter, and each round before this one took at most 12,500,000 ticks
pub record IsSound (r : Round) : Type 0 where
  pub round_long : 2 ≤ r.round
  pub round_short : r.round ≤ 10000000
  pub adjust : 4 * r.adjust ≤ r.round
  pub start : r.start + 12500000 ≤ r.number * 12500000
  pub number : r.number ≤ r.rounds
  pub rounds : r.rounds < 2 ^ 32
  pub mode : r.mode.0 < r.modes
  pub wanted : r.wanted.0 < r.modes
  pub pending : IsWithin r.adjust r.pending
  pub latched : (ticks : ℕ) → r.latched ≡ Some ticks → IsLength r ticks
  pub times_used : r.times_used ≤ length r.times

-- ---- the latch

-- the tick of the latch; once the length is latched, the tick of the round's end
abbrev pub next_own : Round → ℕ
next_own r = own_tick r r.latched
  where
    own_tick : Round → Option ℕ → ℕ
    own_tick r None = r.start + (r.round - r.adjust)
    own_tick r (Some ticks) = r.start + ticks

-- the length of the round is fixed, and the pending correction is used up
abbrev pub latched : Round → Round
latched r = record r { pending = pos 0; latched = Some (length_with r.round r.pending) }

-- ---- services

-- the mode of the next round is this one
abbrev pub wanting : ModeNo → Round → Round
wanting mode r = record r { wanted = mode }

-- the next global time, if there is one
abbrev pub next_time : Round → Option ℕ
next_time r = slice_get r.times r.times_used

-- ttSyncTimes at a tick: the next global time is used up, and asks for a correction
abbrev pub synced : ℕ → Option ℕ → Round → Round
synced now None r = r
synced now (Some global) r =
    record r { pending = correction_of r.round r.adjust (now - r.start) global; times_used = r.times_used + 1 }

-- what ttSyncTimes answers: 1 where no global time is left
abbrev pub sync_result : Option ℕ → ℕ
sync_result None = 1
sync_result (Some global) = 0

-- ---- the round's end

-- whether the round is the last one
abbrev pub is_last : Round → Bool
is_last r = r.number == r.rounds

-- the next round begins at a tick, in the wanted mode
abbrev pub next_round : ℕ → Round → Round
next_round now r = record r { start = now; number = r.number + 1; mode = r.wanted; latched = None }

-- the round ends at a tick: the next one begins, where there is one
abbrev pub ended : ℕ → Round → Round
ended now r = if is_last r then r else next_round now r
