-- The fields of the round's state as a round.
use Rattle.round_end.specs.declared.state.RoundState.TheInside.{Inside}
use Rattle.round_end.specs.Round.{Round}

-- each field is the one of the same name
abbrev pub round_of : Inside → Round
round_of s = record {
  round = s.round;
  adjust = s.adjust;
  modes = s.modes;
  rounds = s.rounds;
  times = s.times;
  start = s.start;
  number = s.number;
  mode = s.mode;
  wanted = s.wanted;
  pending = s.pending;
  latched = s.latched;
  times_used = s.times_used;
}
