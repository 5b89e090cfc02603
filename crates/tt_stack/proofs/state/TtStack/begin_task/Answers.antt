use Rattle.std.proofs.Common.{◌≢◌, ◌+◌, [], ◌∷◌, ◌++◌, ap, ◌∙◌, length, subst, sym, arith}
use Rattle.task_machine.specs.Standing.{left_of, IsSound}
use Rattle.run_stack.specs.Frames.{task_frame, with_task}
use Rattle.tt_world.specs.Load.{count_unfinished}
use Rattle.tt_stack.specs.Kept.{stacked}
use Rattle.tt_stack.specs.Stacked.{Stacked, with_job}
use Rattle.tt_stack.proofs.Calls.{count_tasks, length_jobs_is, task_begun, task_kept}
use Rattle.tt_stack.proofs.Seen.{codes_are}
use Rattle.tt_stack.proofs.state.TtStack.begin_task.Goals as goal

pub push_task-requires : goal.push_task-requires
push_task-requires c =
    let i = c.self.inside in
    let same = count_tasks i c.self.invariant in
    let all = ap (λ (s : Stacked). count_unfinished s.jobs) c.self.view_is in
    omega (arith, same, all, c.requires.room)

pub push-requires : goal.push-requires
push-requires c =
    let i = c.self.inside in
    let same = count_tasks i c.self.invariant in
    let all = ap (λ (s : Stacked). count_unfinished s.jobs) c.self.view_is in
    (omega arith, omega (arith, same, all, c.requires.room, c.self.invariant.as_many))

pub overflow_add-self : goal.overflow_add-self
overflow_add-self c =
    let i = c.self.inside in
    let same = length_jobs_is i c.self.invariant in
    let all = ap (λ (s : Stacked). length s.jobs) c.self.view_is in
    omega (arith, same, all, c.requires.in_count)

pub invariant_of-self : goal.invariant_of-self
invariant_of-self c =
    let i = c.self.inside in
    let codes = codes_are i c.self.invariant c.args.self.now c.self.view_is in
    rw (c.push_task.ensures, c.push.ensures.items, c.of_entry-words.ensures)
    (task_kept i c.self.invariant c.args.task c.args.frame
    (subst (λ l. IsSound l c.args.frame) (sym codes) c.requires.sound)
    (subst (λ l. left_of l c.args.frame ≢ []) (sym codes) c.requires.some))

pub returns : goal.returns
returns c =
    let i = c.self.inside in
    let codes = codes_are i c.self.invariant c.args.self.now c.self.view_is in
    ap (λ s. stacked i.codes i.first i.levels.items i.words s c.push.new.self.items (i.reached + 1)) c.push_task.ensures
    ∙ ap (λ es. stacked i.codes i.first i.levels.items i.words
    (with_task (task_frame c.args.task c.args.frame c.of_entry-words.result) i.stack) es (i.reached + 1))
    c.push.ensures.items
    ∙ ap (λ n. stacked i.codes i.first i.levels.items i.words
    (with_task (task_frame c.args.task c.args.frame n) i.stack) (i.entries.items ++ i.reached ∷ []) (i.reached + 1))
    c.of_entry-words.ensures
    ∙ task_begun i c.self.invariant c.args.task c.args.frame
    (subst (λ l. IsSound l c.args.frame) (sym codes) c.requires.sound)
    (subst (λ l. left_of l c.args.frame ≢ []) (sym codes) c.requires.some)
    ∙ ap (with_job (left_of i.codes c.args.frame)) c.self.view_is
    ∙ ap (λ l. with_job (left_of l c.args.frame) c.args.self.now) codes
