use Rattle.std.proofs.Common.{rules, ◌≡◌, ◌≢◌, ◌<◌, ◌-◌, suc, pos, length, Some, None, w32, to_z, of_z, arith, sym, ap, ◌∙◌, refl}
use Rattle.std.specs.Prelude.{slice_get, slice_index}
use Rattle.task_machine.specs.Place.{take_in}
use Rattle.task_machine.specs.declared.instr.Instr.TheVariants as i
use Rattle.task_machine.proofs.Steps.{rests_left, never_passed, never_done, never_ended, moved_step, valued, step_set, step_out, step_service, step_if_zero, step_if_other, step_repeat, step_again}
use Rattle.task_machine.proofs.ticks.take_step.Goals as goal

pub returns-in-Set : goal.returns-in-Set
returns-in-Set c = λ l supply cursors r some other.
    let code = c.args.code.now in
    let g : slice_get code c.args.place ≡ Some (i.Set c.in-Set.var) = cc in
    let z : to_z w32 (of_z w32 c.evaluate-value.result.0) ≡ c.evaluate-value.result.0 = search rules in
    let ev = valued code c.args.place c.args.vars.now _ _ _ z c.evaluate-value.ensures.value in
    moved_step code c.args.counters.now _ _ _ _ _ _ _ c.silent-in-Set.ensures.place c.silent-in-Set.ensures.effect
    (step_set code c.args.counters.now supply l c.args.vars.now cursors r.depth c.args.place
    (rests_left code c.args.counters.now l c.args.place r)
    c.in-Set.var _ c.evaluate-value.result.1 _ g ev c.assign.ensures)

pub returns-in-Out : goal.returns-in-Out
returns-in-Out c = λ l supply cursors r some other.
    let code = c.args.code.now in
    let g : slice_get code c.args.place ≡ Some i.Out = cc in
    let z : to_z w32 (of_z w32 c.evaluate-value-in-Out.result.0) ≡ c.evaluate-value-in-Out.result.0 = search rules in
    let ev = valued code c.args.place c.args.vars.now _ _ _ z c.evaluate-value-in-Out.ensures.value in
    step_out code c.args.counters.now supply l c.args.vars.now cursors r.depth c.args.place
    (rests_left code c.args.counters.now l c.args.place r)
    _ c.evaluate-value-in-Out.result.1 g ev

pub overflow_add-after : goal.overflow_add-after
overflow_add-after c =
    let g : slice_get c.args.code.now c.args.place ≡ Some (i.If c.in-If.passed) = cc in
    let skips = c.requires.each c.args.place (i.If c.in-If.passed) g in
    omega (arith, skips, c.requires.short, c.evaluate-value-in-If.ensures.within, c.in-Some.ensures.within)

pub overflow_sub-counters : goal.overflow_sub-counters
overflow_sub-counters c =
    let g : slice_get c.args.code.now c.args.place ≡ Some (i.Repeat c.in-Repeat.counter c.in-Repeat.turns) = cc in
    (c.requires.each c.args.place (i.Repeat c.in-Repeat.counter c.in-Repeat.turns) g).0

pub bounds-counters-counter : goal.bounds-counters-counter
bounds-counters-counter c =
    let g : slice_get c.args.code.now c.args.place ≡ Some (i.Repeat c.in-Repeat.counter c.in-Repeat.turns) = cc in
    (c.requires.each c.args.place (i.Repeat c.in-Repeat.counter c.in-Repeat.turns) g).1

pub offset_bounds-counters-counter : goal.offset_bounds-counters-counter
offset_bounds-counters-counter c =
    let g : slice_get c.args.code.now c.args.place ≡ Some (i.Repeat c.in-Repeat.counter c.in-Repeat.turns) = cc in
    let small = (c.requires.each c.args.place (i.Repeat c.in-Repeat.counter c.in-Repeat.turns) g).1 in
    search (rules, small)

pub bounds-counters-counter-in-Again : goal.bounds-counters-counter-in-Again
bounds-counters-counter-in-Again c =
    let g : slice_get c.args.code.now c.args.place ≡ Some (i.Again c.in-Again.counter c.in-Again.back) = cc in
    (c.requires.each c.args.place (i.Again c.in-Again.counter c.in-Again.back) g).1

pub offset_bounds-counters-counter-in-Again : goal.offset_bounds-counters-counter-in-Again
offset_bounds-counters-counter-in-Again c =
    let g : slice_get c.args.code.now c.args.place ≡ Some (i.Again c.in-Again.counter c.in-Again.back) = cc in
    let small = (c.requires.each c.args.place (i.Again c.in-Again.counter c.in-Again.back) g).1 in
    search (rules, small)

pub overflow_sub-place : goal.overflow_sub-place
overflow_sub-place c =
    let g : slice_get c.args.code.now c.args.place ≡ Some (i.Again c.in-Again.counter c.in-Again.back) = cc in
    (c.requires.each c.args.place (i.Again c.in-Again.counter c.in-Again.back) g).0

pub returns-then-value-eq0 : goal.returns-then-value-eq0
returns-then-value-eq0 c = λ l supply cursors r some other.
    let code = c.args.code.now in
    let g : slice_get code c.args.place ≡ Some (i.If c.in-If.passed) = cc in
    let zero : c.evaluate-value-in-If.result.0 ≡ pos 0 = search rules in
    moved_step code c.args.counters.now _ _ _ _ _ _ _ c.silent-then-value-eq0.ensures.place
    c.silent-then-value-eq0.ensures.effect
    (step_if_zero code c.args.counters.now supply l c.args.vars.now cursors r.depth c.args.place
    (rests_left code c.args.counters.now l c.args.place r)
    c.in-If.passed c.evaluate-value-in-If.result.0 c.evaluate-value-in-If.result.1 g
    c.evaluate-value-in-If.ensures.value zero)

pub returns-else-value-eq0 : goal.returns-else-value-eq0
returns-else-value-eq0 c = λ l supply cursors r some other.
    let code = c.args.code.now in
    let g : slice_get code c.args.place ≡ Some (i.If c.in-If.passed) = cc in
    let other : c.evaluate-value-in-If.result.0 ≢ pos 0 = search rules in
    moved_step code c.args.counters.now _ _ _ _ _ _ _ c.silent-else-value-eq0.ensures.place
    c.silent-else-value-eq0.ensures.effect
    (step_if_other code c.args.counters.now supply l c.args.vars.now cursors r.depth c.args.place
    (rests_left code c.args.counters.now l c.args.place r)
    c.in-If.passed c.evaluate-value-in-If.result.0 c.evaluate-value-in-If.result.1 g
    c.evaluate-value-in-If.ensures.value other)

pub returns-in-Repeat : goal.returns-in-Repeat
returns-in-Repeat c = λ l supply cursors r some other.
    let code = c.args.code.now in
    let g : slice_get code c.args.place ≡ Some (i.Repeat c.in-Repeat.counter c.in-Repeat.turns) = cc in
    let small = (c.requires.each c.args.place (i.Repeat c.in-Repeat.counter c.in-Repeat.turns) g).1 in
    let within : c.in-Repeat.counter < length c.args.counters.now =
    omega (arith, small, c.silent-in-Repeat.array_long) in
    moved_step code _ _ _ _ _ _ _ _ c.silent-in-Repeat.ensures.place c.silent-in-Repeat.ensures.effect
    (step_repeat code c.args.counters.now supply l c.args.vars.now cursors r.depth c.args.place
    (rests_left code c.args.counters.now l c.args.place r)
    c.in-Repeat.turns c.in-Repeat.counter _ g within refl)

pub returns-then-left-gt0 : goal.returns-then-left-gt0
returns-then-left-gt0 c = λ l supply cursors r some other.
    let code = c.args.code.now in
    let g : slice_get code c.args.place ≡ Some (i.Again c.in-Again.counter c.in-Again.back) = cc in
    let small = (c.requires.each c.args.place (i.Again c.in-Again.counter c.in-Again.back) g).1 in
    let within : c.in-Again.counter < length c.args.counters.now =
    omega (arith, small, c.silent-then-left-gt0.array_long) in
    let more : slice_index c.args.counters.now c.in-Again.counter
    ≡ suc (slice_index c.args.counters.now c.in-Again.counter - 1) = omega (arith, c.if-left-gt0.true) in
    moved_step code _ _ _ _ _ _ _ _ c.silent-then-left-gt0.ensures.place c.silent-then-left-gt0.ensures.effect
    (step_again code c.args.counters.now supply l c.args.vars.now cursors r.depth c.args.place
    (rests_left code c.args.counters.now l c.args.place r)
    c.in-Again.back c.in-Again.counter _ _ g within more refl)

pub returns-else-left-gt0 : goal.returns-else-left-gt0
returns-else-left-gt0 c = λ l supply cursors r some other.
    let g : slice_get c.args.code.now c.args.place ≡ Some (i.Again c.in-Again.counter c.in-Again.back) = cc in
    absurd (never_done c.args.code.now c.args.counters.now l c.args.place c.in-Again.back c.in-Again.counter r g
    (omega (arith, c.if-left-gt0.false)))

pub returns-in-Service : goal.returns-in-Service
returns-in-Service c = λ l supply cursors r some other.
    let g : slice_get c.args.code.now c.args.place ≡ Some (i.Service c.in-Service.call) = cc in
    step_service c.args.code.now c.args.counters.now supply l c.args.vars.now cursors r.depth c.args.place
    (rests_left c.args.code.now c.args.counters.now l c.args.place r) c.in-Service.call g

pub returns-in-None : goal.returns-in-None
returns-in-None c = λ l supply cursors r some other.
    let g : slice_get c.args.code.now c.args.place ≡ None = cc in
    absurd (never_ended c.args.code.now c.args.counters.now l c.args.place r g some)

pub returns-in-Work : goal.returns-in-Work
returns-in-Work c = λ l supply cursors r some other.
    let g : slice_get c.args.code.now c.args.place ≡ Some (i.Work c.in-Work.field-0) = cc in
    absurd (never_passed c.args.code.now c.args.counters.now l c.args.place _ r g (c.requires.each c.args.place _ g))

pub returns-in-Skip : goal.returns-in-Skip
returns-in-Skip c = λ l supply cursors r some other.
    let g : slice_get c.args.code.now c.args.place ≡ Some (i.Skip c.in-Skip.field-0) = cc in
    absurd (never_passed c.args.code.now c.args.counters.now l c.args.place _ r g tt)

pub returns-in-Term : goal.returns-in-Term
returns-in-Term c = λ l supply cursors r some other.
    let g : slice_get c.args.code.now c.args.place ≡ Some (i.Term c.in-Term.field-0) = cc in
    absurd (never_passed c.args.code.now c.args.counters.now l c.args.place _ r g tt)

pub returns-in-Take : goal.returns-in-Take
returns-in-Take c = λ l supply cursors r some other.
    let g : slice_get c.args.code.now c.args.place ≡ Some (i.Take c.in-Take.field-0) = cc in
    let e : Some c.in-Take.field-0 ≡ None = ap take_in (sym g) ∙ other in
    absurd (cc)
