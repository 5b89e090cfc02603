use Rattle.std.proofs.Common.{◌≡◌, None, arith, subst}
use Rattle.std.specs.Prelude.{slice_get}
use Rattle.task_lang.specs.Tick.{supply_of}
use Rattle.task_machine.specs.Place.{Rests, take_in}
use Rattle.task_machine.specs.Ticking.{begin}
use Rattle.task_machine.proofs.Turns.{advanced_one, settled}
use Rattle.task_machine.proofs.ticks.take_ticks.Goals as goal

pub returns-in-Some-clause-ticks : goal.returns-in-Some-clause-ticks
returns-in-Some-clause-ticks c = λ l at some.
    let supply = supply_of c.args.demands.now c.args.values.now in
    let one : c.args.k ≡ 1 = omega (arith, c.requires.some, c.requires.within, c.if-frame-gt0.false) in
    advanced_one c.args.code.now c.draw.new.frame c.args.vars.now c.draw.new.cursors None supply c.args.k
    (begin l c.args.vars.now c.args.cursors.now) one
    (c.draw.ensures.ticks l c.args.vars.now at)

pub returns-in-None-clause-ticks : goal.returns-in-None-clause-ticks
returns-in-None-clause-ticks c = λ l at some.
    let code = c.args.code.now in
    let f = c.args.frame.now in
    let supply = supply_of c.args.demands.now c.args.values.now in
    let one : c.args.k ≡ 1 = omega (arith, c.requires.some, c.requires.within, c.if-frame-gt0.false) in
    let none : f.work ≡ 0 = omega (arith, c.if-frame-gt0.false) in
    let other : take_in (slice_get code f.place) ≡ None = cc in
    let rests : Rests code f.counters l f.place 0 = subst (λ w. Rests code f.counters l f.place w) none at.rests in
    let step = c.take_step-step.ensures l supply c.args.cursors.now rests some other in
    advanced_one code c.settle.new.frame c.take_step-step.new.vars c.args.cursors.now c.take_step-step.result.effect
    supply c.args.k
    (begin l c.args.vars.now c.args.cursors.now) one
    (settled code _ _ c.settle.new.frame c.take_step-step.new.vars c.args.cursors.now c.take_step-step.result.effect _
    step c.settle.ensures.at)
