use Rattle.std.proofs.Common.{◌-◌, List, refl, ap, sym, ◌∙◌, subst}
use Rattle.std.specs.Prelude.{option_to_list}
use Rattle.task_lang.specs.declared.syntax.Stmt.{Stmt}
use Rattle.tt_stack.specs.Stacked.{left_in, running}
use Rattle.round_end.specs.Round.{Round}
use Rattle.osek_idle.specs.Standing.{IsSound, setup_of, subsystem_of, task_body}
use Rattle.stack_dispatch.specs.Effects.{effected}
use Rattle.stack_dispatch.specs.contracts.state.State.{the_view}
use Rattle.stack_dispatch.proofs.Idling.{parts_are}
use Rattle.stack_dispatch.proofs.Weighed.{effected_mode, mode_stays, with_mode}
use Rattle.stack_dispatch.proofs.TakingAll.{Takes, takes_seen, took_seen, stack_is_running, stack_within, StackGave, all_gave, all_may}
use Rattle.stack_dispatch.proofs.state.State.take_on_stack.Given.{Over}
use Rattle.stack_dispatch.proofs.state.State.take_on_stack.Goals as goal
use Rattle.stack_dispatch.proofs.state.State.take_on_stack.Goals.{After-do_effect-effected, After-self}

-- the same of the state as its fields give it
takes : (g : Over) (c : After-self g)
    → Takes c.args.config.now c.args.script.now c.args.runner c.args.who c.args.k (the_view c.self.inside)
takes g c =
    let r = c.requires in
    takes_seen c.self.view_is
    (record { some = r.some; within = r.within; can = r.can; runs = r.runs; owns = r.owns })

pub advance-progress-requires-clause-runs : goal.advance-progress-requires-clause-runs
advance-progress-requires-clause-runs g c =
    stack_is_running (takes g (goal.at.advance-progress-requires-clause-runs g c).After-self) c.requires.on_stack

pub advance-progress-requires-clause-within : goal.advance-progress-requires-clause-within
advance-progress-requires-clause-within g c =
    stack_within (takes g (goal.at.advance-progress-requires-clause-within g c).After-self) c.requires.on_stack

pub do_effect-effected-requires-clause-may : goal.do_effect-effected-requires-clause-may
do_effect-effected-requires-clause-may g c =
    let a = c.advance-progress in
    let others = with_mode c.self.inside.stack a.new.self c.self.inside.round.mode c.self.invariant.2 a.ensures.others
    in all_may (takes g (goal.at.do_effect-effected-requires-clause-may g c).After-self) c.requires.on_stack
    a.new.self a.new.env.vars a.new.env.cursors (option_to_list a.result.effect) others a.ensures.ticks

-- what the ticks gave
gave : (g : Over) (c : After-do_effect-effected g)
    → Takes c.args.config.now c.args.script.now c.args.runner c.args.who c.args.k (the_view c.self.inside)
    → StackGave c.args.config.now c.args.script.now c.args.runner c.args.k (the_view c.self.inside)
    c.advance-progress.new.self c.advance-progress.new.env.vars c.advance-progress.new.env.cursors
    (subsystem_of c.advance-progress.new.self.codes c.do_effect-effected.new.osek) (record {
      did = c.do_effect-effected.result.did;
      round = c.do_effect-effected.new.round;
      subsystem = subsystem_of c.codes-codes.result.now c.do_effect-effected.new.osek;
      ends = c.do_effect-effected.result.ends;
    })
gave g c takes =
    let a = c.advance-progress in
    let d = c.do_effect-effected in
    let codes = c.codes-codes.result.now in
    all_gave takes c.requires.on_stack
    a.new.self a.new.env.vars a.new.env.cursors (option_to_list a.result.effect)
    (with_mode c.self.inside.stack a.new.self c.self.inside.round.mode c.self.invariant.2 a.ensures.others)
    a.ensures.ticks c.self.inside.osek d.new.osek refl (record { tasks = refl; routines = refl }) c.self.invariant.1
    codes c.codes-codes.ensures _
    (parts_are (effected (task_body codes (setup_of c.self.inside.osek)) c.self.inside.tick c.args.who
    (option_to_list a.result.effect) c.self.inside.round
    (subsystem_of codes c.self.inside.osek)) _ _ _ _ d.ensures.did d.ensures.round d.ensures.state d.ensures.ends) refl

pub invariant_of-self : goal.invariant_of-self
invariant_of-self g c =
    let a = c.advance-progress in
    let d = c.do_effect-effected in
    let codes = c.codes-codes.result.now in (
      subst (λ (k : List (List Stmt)). IsSound k d.new.osek) c.codes-codes.ensures d.ensures.sound,
      (gave g (goal.at.invariant_of-self g c).After-do_effect-effected
          (takes g (goal.at.invariant_of-self g c).After-self)).settled,
      mode_stays c.self.inside.stack a.new.self (running c.self.inside.stack)
          (left_in a.new.self (running c.self.inside.stack)) a.ensures.others
          ∙ c.self.invariant.2
          ∙ sym (ap (λ (r : Round). r.mode) d.ensures.round
          ∙ effected_mode (task_body codes (setup_of c.self.inside.osek)) c.self.inside.tick c.args.who
          (option_to_list a.result.effect) c.self.inside.round (subsystem_of codes c.self.inside.osek)),
    )

pub returns-clause-took : goal.returns-clause-took
returns-clause-took g c =
    let a = c.advance-progress in
    took_seen c.args.config.now c.args.script.now (c.args.k - 1) c.args.runner _ c.args.self.now _ _ c.self.view_is
    ((gave g (goal.at.returns-clause-took g c).After-do_effect-effected
    (takes g (goal.at.returns-clause-took g c).After-self)).took a.result.ended a.ensures.ended)
