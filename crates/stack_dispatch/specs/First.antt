-- The state before tick 0.
use Rattle.std.specs.Prelude.{◌+◌, length}
use Rattle.tt_world.specs.declared.config.ConfigParts.{ConfigParts}
use Rattle.tt_world.specs.declared.script.ScriptParts.{ScriptParts}
use Rattle.tt_world.specs.Schedule.{first_world}
use Rattle.tt_world.specs.Runners.{isr_levels}
use Rattle.tt_stack.specs.Words.{all_isr_words, all_row_words}
use Rattle.osek_idle.specs.Standing.{setup_for}
use Rattle.stack_dispatch.specs.State.{RunState, bodies_of}

abbrev pub first_state : ConfigParts → ScriptParts → RunState
first_state c s = record {
  world = first_world c s;
  beside = record {
    round = c.round;
    adjust = c.adjust;
    modes = length c.modes;
    rounds = s.rounds;
    times = s.times;
    demands = c.demands;
    values = s.values;
    codes = bodies_of c;
    first = length c.tasks;
    levels = isr_levels c;
    isr_words = all_isr_words c;
    row_words = all_row_words c;
    setup = setup_for c (length c.tasks + length c.isrs);
    isrs_ticks = s.arrivals.isrs;
    oisrs_ticks = s.arrivals.oisrs;
  };
}
