use Rattle.std.proofs.Common.{◌≢◌, ◌-◌, ap, ◌∙◌, arith}
use Rattle.task_lang.specs.Tick.{work_then}
use Rattle.task_machine.specs.Ticking.{begin}
use Rattle.task_machine.specs.declared.frame.Frame.{Frame}
use Rattle.task_machine.proofs.Turns.{worked, advanced, work_goes_on}
use Rattle.task_machine.proofs.ticks.work_on.Goals as goal

pub returns-then-frame-eq0-clause-ticks : goal.returns-then-frame-eq0-clause-ticks
returns-then-frame-eq0-clause-ticks c = λ l supply vars cursors at.
    let f = c.args.frame.now in
    let r = at.rests in
    let is = worked c.args.code.now f.counters l f.place f.work c.args.k r supply vars cursors c.requires.within
    ∙ ap (λ n. begin (work_then n r.below) vars cursors) c.if-frame-eq0.true in
    advanced c.args.code.now _ vars cursors r.below _ is (c.settle.ensures.at r.depth r.below r.left)

pub returns-else-frame-eq0-clause-ticks : goal.returns-else-frame-eq0-clause-ticks
returns-else-frame-eq0-clause-ticks c = λ l supply vars cursors at.
    let f = c.args.frame.now in
    let r = at.rests in
    let g : Frame = record f { work = f.work - c.args.k } in
    let was : f.work ≢ 0 = λ none. absurd (omega (arith, c.requires.some, c.requires.within)) in
    let more : f.work - c.args.k ≢ 0 = λ none. absurd (omega (arith, c.if-frame-eq0.false)) in
    let is = worked c.args.code.now f.counters l f.place f.work c.args.k r supply vars cursors c.requires.within in
    advanced c.args.code.now g vars cursors (work_then (f.work - c.args.k) r.below) _ is
    (work_goes_on c.args.code.now g l f.work r was more at.ended)
