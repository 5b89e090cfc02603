-- What comes after a round.
use Rattle.std.specs.Prelude.{◌+◌, if◌then◌else◌}
use Rattle.round_end.specs.declared.state.RoundStep.{RoundStep}
use Rattle.round_end.specs.declared.state.RoundStep.TheVariants.{Last, Next}
use Rattle.round_end.specs.Round.{Round, is_last}

-- nothing after the last round, else the next one, of the wanted mode
abbrev pub step_after : Round → RoundStep
step_after r = if is_last r then Last else Next (r.number + 1) r.wanted
