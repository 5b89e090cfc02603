-- The rounds of a run: its head, the latch of a round's length, and the round's end.
use Rattle.std.specs.Prelude.{◌+◌, ◌-◌, ◌==◌, not, pos, [], ◌∷◌, None, Some, if◌then◌else◌}
use Rattle.tt_base.specs.declared.event.Event.TheVariants.{OsStart, Round, Correct, Stop}
use Rattle.tt_world.specs.declared.config.ConfigParts.{ConfigParts}
use Rattle.tt_world.specs.declared.script.ScriptParts.{ScriptParts}
use Rattle.tt_world.specs.World.{World}
use Rattle.tt_world.specs.Moved.{Moved, moved, goes_on, followed, event_if}
use Rattle.tt_world.specs.Rows.{offset_of}
use Rattle.tt_world.specs.Correction.{length_with, is_no_change, is_length}
use Rattle.tt_world.specs.Monitoring.{is_at_end, monitored}
use Rattle.tt_world.specs.declared.world.RunEnd.TheVariants as ending

-- the head: at tick 0 the operating system starts, and with it round 1
unfoldable pub head : ScriptParts → World → Moved
head s w = goes_on w (OsStart w.tick s.start ∷ Round w.tick 1 s.start ∷ [])

-- the latch: at the offset L - A the length of the round is fixed, and the pending correction is used up
unfoldable pub latch : ConfigParts → World → Moved
latch c w =
    if offset_of w == c.round - c.adjust
    then goes_on (record w { pending = pos 0; latched = Some (length_with c.round w.pending) })
    (event_if (not (is_no_change w.pending)) (Correct w.tick w.pending))
    else goes_on w []

-- after its last round the run stops; otherwise the next round begins now, in the wanted mode, with no activation
unfoldable pub next_round : ScriptParts → World → Moved
next_round s w =
    if w.number == s.rounds
    then moved (Some ending.LastRound) w (Stop w.tick ∷ [])
    else goes_on (record w { start = w.tick; number = w.number + 1; mode = w.wanted; latched = None; jobs = [] })
    (Round w.tick (w.number + 1) w.wanted ∷ [])

-- the round's end: each activation whose monitoring point is not an offset of the round is checked, and the round is
-- over
unfoldable pub round_end : ConfigParts → ScriptParts → World → Moved
round_end c s w =
    if is_length w.latched (offset_of w)
    then followed (monitored c (is_at_end (offset_of w)) w) (next_round s)
    else goes_on w []
