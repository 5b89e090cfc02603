use Rattle.std.proofs.Common.{◌-◌, List, refl, sym, ◌∙◌, subst}
use Rattle.task_lang.specs.declared.syntax.Stmt.{Stmt}
use Rattle.osek_idle.specs.Standing.{IsSound, subsystem_of}
use Rattle.osek_idle.specs.Subsystem.{IsSettled}
use Rattle.stack_dispatch.specs.contracts.state.State.{the_view}
use Rattle.stack_dispatch.proofs.Weighed.{gave_mode}
use Rattle.stack_dispatch.proofs.TakingAll.{TakesIdle, takes_seen, took_seen, idle_bodies, idle_picked, idle_left_some, idle_within, idle_may, idle_took_all}
use Rattle.stack_dispatch.proofs.state.State.take_in_idle_time.Given.{Over}
use Rattle.stack_dispatch.proofs.state.State.take_in_idle_time.Goals as goal
use Rattle.stack_dispatch.proofs.state.State.take_in_idle_time.Goals.{After-codes-codes}

-- the same of the state as its fields give it
idles : (g : Over) (c : After-codes-codes g)
    → TakesIdle c.args.config.now c.args.script.now c.args.runner c.args.who c.args.k (the_view c.self.inside)
    c.self.inside.osek c.codes-codes.result.now
idles g c =
    let r = c.requires in
    record {
      takes = takes_seen c.self.view_is
          (record { some = r.some; within = r.within; can = r.can; runs = r.runs; owns = r.owns });
      idle = r.in_idle_time;
      setup_same = refl;
      left = record { tasks = refl; routines = refl };
      settled = c.self.invariant.1;
      codes_is = c.codes-codes.ensures;
    }

pub tick_in_idle_time-requires-clause-settled : goal.tick_in_idle_time-requires-clause-settled
tick_in_idle_time-requires-clause-settled g c =
    subst (λ (k : List (List Stmt)). IsSettled (subsystem_of k c.self.inside.osek)) (sym c.codes-codes.ensures)
    c.self.invariant.1

pub tick_in_idle_time-requires-clause-bodies : goal.tick_in_idle_time-requires-clause-bodies
tick_in_idle_time-requires-clause-bodies g c =
    idle_bodies (idles g (goal.at.tick_in_idle_time-requires-clause-bodies g c).After-codes-codes)

pub tick_in_idle_time-requires-clause-picks : goal.tick_in_idle_time-requires-clause-picks
tick_in_idle_time-requires-clause-picks g c =
    idle_picked (idles g (goal.at.tick_in_idle_time-requires-clause-picks g c).After-codes-codes)

pub tick_in_idle_time-requires-clause-left : goal.tick_in_idle_time-requires-clause-left
tick_in_idle_time-requires-clause-left g c =
    idle_left_some (idles g (goal.at.tick_in_idle_time-requires-clause-left g c).After-codes-codes)

pub tick_in_idle_time-requires-clause-within : goal.tick_in_idle_time-requires-clause-within
tick_in_idle_time-requires-clause-within g c =
    idle_within (idles g (goal.at.tick_in_idle_time-requires-clause-within g c).After-codes-codes)

pub tick_in_idle_time-requires-clause-may : goal.tick_in_idle_time-requires-clause-may
tick_in_idle_time-requires-clause-may g c =
    idle_may (idles g (goal.at.tick_in_idle_time-requires-clause-may g c).After-codes-codes)

pub invariant_of-self : goal.invariant_of-self
invariant_of-self g c =
    let t = c.tick_in_idle_time in (
      subst (λ (k : List (List Stmt)). IsSound k t.new.osek) c.codes-codes.ensures t.ensures.sound,
      subst (λ (k : List (List Stmt)). IsSettled (subsystem_of k t.new.osek)) c.codes-codes.ensures t.ensures.settled,
      c.self.invariant.2 ∙ sym (gave_mode t.ensures.gave),
    )

pub returns-clause-took : goal.returns-clause-took
returns-clause-took g c =
    let t = c.tick_in_idle_time in
    took_seen c.args.config.now c.args.script.now (c.args.k - 1) c.args.runner _ c.args.self.now _ _ c.self.view_is
    (idle_took_all (idles g (goal.at.returns-clause-took g c).After-codes-codes)
    t.new.env.vars t.new.env.cursors t.ensures.vars t.ensures.cursors t.result t.new.round t.new.osek t.ensures.gave)
