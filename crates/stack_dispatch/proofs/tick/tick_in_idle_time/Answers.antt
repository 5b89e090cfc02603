use Rattle.std.proofs.Common.{ap}
use Rattle.std.specs.Prelude.{option_to_list}
use Rattle.task_lang.specs.Tick.{State}
use Rattle.osek_idle.specs.Subsystem.{Setup, IsSettled, picked}
use Rattle.osek_idle.specs.Standing.{setup_of, subsystem_of, task_body}
use Rattle.stack_dispatch.specs.Effects.{GaveIdle, effected, idle_ticks}
use Rattle.stack_dispatch.proofs.Idling.{Ticked, tick_is, may_still, gave, parts_are}
use Rattle.stack_dispatch.proofs.tick.tick_in_idle_time.Given.{Over}
use Rattle.stack_dispatch.proofs.tick.tick_in_idle_time.Goals as goal
use Rattle.stack_dispatch.proofs.tick.tick_in_idle_time.Goals.{After-advance-progress, After-either}

ticked : (g : Over) (c : After-advance-progress g)
    → Ticked c.args.who c.args.k c.args.env.now (subsystem_of c.args.codes.now c.args.osek.now)
    (subsystem_of c.args.codes.now c.advance-progress.new.self)
    (picked (setup_of c.args.osek.now) (subsystem_of c.args.codes.now c.args.osek.now))
    c.advance-progress.new.env.vars c.advance-progress.new.env.cursors
    (option_to_list c.advance-progress.result.effect)
ticked g c = record { picks = c.requires.picks; ticked = c.advance-progress.ensures.ticks }

gave_all : (g : Over) (c : After-either g)
    → GaveIdle (task_body c.args.codes.now (setup_of c.args.osek.now)) c.args.now c.args.who
    (idle_ticks c.args.k c.args.who c.args.env.now (subsystem_of c.args.codes.now c.args.osek.now)) c.args.round.now
    (subsystem_of c.args.codes.now c.args.osek.now)
    (record { did = c.do_effect-effected.result.did; ended = c.either.result }) c.do_effect-effected.new.round
    (subsystem_of c.args.codes.now c.finish_at.new.osek)
    × IsSettled (subsystem_of c.args.codes.now c.finish_at.new.osek)
gave_all g c =
    let codes = c.args.codes.now in
    let a = c.advance-progress in
    let d = c.do_effect-effected in
    let setup = setup_of c.args.osek.now in
    let setup1 = setup_of a.new.self in
    let ticked : Ticked c.args.who c.args.k c.args.env.now (subsystem_of codes c.args.osek.now)
    (subsystem_of codes a.new.self) (picked setup (subsystem_of codes c.args.osek.now)) a.new.env.vars
    a.new.env.cursors (option_to_list a.result.effect) =
    record { picks = c.requires.picks; ticked = a.ensures.ticks } in
    gave ticked a.ensures.others (task_body codes setup) (task_body codes setup1)
    (ap (λ (s : Setup). task_body codes s) a.ensures.setup) c.args.now c.args.round.now a.result.ended a.ensures.ended _
    (parts_are (effected (task_body codes setup1) c.args.now c.args.who (option_to_list a.result.effect)
    c.args.round.now (subsystem_of codes a.new.self)) d.result.did d.new.round (subsystem_of codes d.new.osek)
    d.result.ends d.ensures.did d.ensures.round d.ensures.state d.ensures.ends)
    (subsystem_of codes c.finish_at.new.osek) (c.finish_at.ensures.state codes) setup c.requires.bodies c.requires.may
    c.requires.settled c.requires.left c.either.result c.either.ensures

pub do_effect-effected-requires-clause-may : goal.do_effect-effected-requires-clause-may
do_effect-effected-requires-clause-may g c =
    may_still (ticked g (goal.at.do_effect-effected-requires-clause-may g c).After-advance-progress) c.args.now
    c.args.round.now (setup_of c.args.osek.now) (setup_of c.advance-progress.new.self)
    c.advance-progress.ensures.setup c.requires.may

pub returns-clause-vars : goal.returns-clause-vars
returns-clause-vars g c =
    ap (λ (st : State). st.vars) (tick_is (ticked g (goal.at.returns-clause-vars g c).After-advance-progress))

pub returns-clause-cursors : goal.returns-clause-cursors
returns-clause-cursors g c =
    ap (λ (st : State). st.cursors) (tick_is (ticked g (goal.at.returns-clause-cursors g c).After-advance-progress))

pub returns-clause-gave : goal.returns-clause-gave
returns-clause-gave g c = (gave_all g (goal.at.returns-clause-gave g c).After-either).0

pub returns-clause-settled : goal.returns-clause-settled
returns-clause-settled g c = (gave_all g (goal.at.returns-clause-settled g c).After-either).1
