use Rattle.std.proofs.Common.{subst, refl}
use Rattle.task_lang.specs.Tick.{supply_of}
use Rattle.task_machine.specs.Place.{Rests}
use Rattle.task_machine.proofs.Steps.{rests_left, step_take}
use Rattle.task_machine.proofs.Turns.{taken_zero, taken_some}
use Rattle.task_machine.proofs.ticks.draw.Goals as goal

pub returns-then-given-eq0-clause-ticks : goal.returns-then-given-eq0-clause-ticks
returns-then-given-eq0-clause-ticks c = λ l vars at.
    let code = c.args.code.now in
    let cs = c.args.frame.now.counters in
    let p = c.args.frame.now.place in
    let supply = supply_of c.args.demands.now c.args.values.now in
    let r : Rests code cs l p 0 = subst (λ w. Rests code cs l p w) c.requires.idle at.rests in
    let left = rests_left code cs l p r in
    taken_zero code cs supply l vars c.args.cursors.now r.depth p left c.take-given.result c.take-given.new.cursors _ _
    (step_take code cs supply l vars c.args.cursors.now r.depth p left c.args.demand _ _ c.requires.here
    c.take-given.ensures.given c.take-given.ensures.used)
    c.if-given-eq0.true (λ m later. c.settle.ensures.at r.depth m later)

pub returns-else-given-eq0-clause-ticks : goal.returns-else-given-eq0-clause-ticks
returns-else-given-eq0-clause-ticks c = λ l vars at.
    let code = c.args.code.now in
    let cs = c.args.frame.now.counters in
    let p = c.args.frame.now.place in
    let supply = supply_of c.args.demands.now c.args.values.now in
    let r : Rests code cs l p 0 = subst (λ w. Rests code cs l p w) c.requires.idle at.rests in
    let left = rests_left code cs l p r in
    taken_some code cs supply l vars c.args.cursors.now r.depth p left c.take-given.result c.take-given.new.cursors _ _
    (step_take code cs supply l vars c.args.cursors.now r.depth p left c.args.demand _ _ c.requires.here
    c.take-given.ensures.given c.take-given.ensures.used)
    c.if-given-eq0.false refl refl refl at.ended
