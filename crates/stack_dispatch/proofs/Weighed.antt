-- The words of stack of a state, and the mode of its stack.
use Rattle.std.proofs.Common.{ℕ, suc, ◌≡◌, ◌<◌, List, [], ◌∷◌, cond, Some, refl, ap, ◌∙◌, arith, length, get_or}
use Rattle.std.specs.Prelude.{slice_index_or, sum_by}
use Rattle.std.proofs.Math.ListN.{get_or-map}
use Rattle.std.proofs.lemmas.List.{get_or-map as get_or-map_within}
use Rattle.std.proofs.lemmas.List.Sums.{sum_by-cons}
use Rattle.task_lang.specs.declared.syntax.Stmt.{Stmt}
use Rattle.task_lang.specs.Tick.{State}
use Rattle.task_lang.specs.declared.tick.Effect.{Effect}
use Rattle.tt_base.specs.declared.event.Owner.{Owner}
use Rattle.tt_base.specs.declared.number.ModeNo.{ModeNo}
use Rattle.tt_world.specs.declared.config.ConfigParts.{ConfigParts}
use Rattle.tt_world.specs.declared.config.IsrDef.{IsrDef}
use Rattle.tt_world.specs.declared.world.Runner.{Runner}
use Rattle.tt_world.specs.declared.world.Runner.TheVariants as runner
use Rattle.tt_world.specs.Load.{isr_words, job_words, words_of}
use Rattle.tt_world.specs.Rows.{mode_of, no_isr, no_mode, no_row, row_of}
use Rattle.tt_world.specs.Runners.{is_done, job_at, no_job, unfinished}
use Rattle.round_end.specs.Round.{Round}
use Rattle.osek_idle.specs.Subsystem.{Subsystem, owner_leaving}
use Rattle.tt_stack.specs.Stacked.{Stacked, job_words as stacked_words, leaving_in, left_in, running, words_in}
use Rattle.tt_stack.specs.Words.{entry_words, mode_words, routine_words, row_words}
use Rattle.stack_dispatch.specs.declared.took.Taken.{Taken}
use Rattle.stack_dispatch.specs.Effects.{GaveIdle, effected}
use Rattle.stack_dispatch.specs.Served.{IsWeighed}
use Rattle.stack_dispatch.specs.State.{RunState}
use Rattle.stack_dispatch.proofs.Performing.{round_kept}
use Rattle.stack_dispatch.proofs.WhoRuns.{stack_of, words_beside}

-- ---- the mode of the stack

-- a stack whose mode is this one is the same stack with this mode
pub same_stack : (stack : Stacked) (mode : ModeNo) → stack.words.mode ≡ mode
    → stack ≡ record stack { words = record stack.words { mode = mode } }
same_stack stack mode is = ap (λ (m : ModeNo). record stack { words = record stack.words { mode = m } }) is

-- what a call leaves of a stack, where the mode of the stack is this one
pub with_mode : (stack next : Stacked) (mode : ModeNo) → stack.words.mode ≡ mode
    → next ≡ leaving_in stack (running stack) (left_in next (running stack))
    → next ≡ leaving_in (record stack { words = record stack.words { mode = mode } }) (running stack)
    (left_in next (running stack))
with_mode stack next mode is others =
    others ∙ ap (λ (s : Stacked). leaving_in s (running stack) (left_in next (running stack)))
    (same_stack stack mode is)

leaving_mode : (stack : Stacked) (r : Runner) (left : List Stmt)
    → (leaving_in stack r left).words.mode ≡ stack.words.mode
leaving_mode stack (runner.Isr i) left = refl
leaving_mode stack r left = refl

-- the mode of a stack stays where one moves or ends
pub mode_stays : (stack next : Stacked) (r : Runner) (left : List Stmt) → next ≡ leaving_in stack r left
    → next.words.mode ≡ stack.words.mode
mode_stays stack next r left is = ap (λ (s : Stacked). s.words.mode) is ∙ leaving_mode stack r left

-- the mode of the round stays whatever a tick does
pub effected_mode : (body : ℕ → List Stmt) (now : ℕ) (who : Owner) (es : List Effect) (r : Round) (s : Subsystem)
    → (effected body now who es r s).round.mode ≡ r.mode
effected_mode body now who es r s = ap (λ (x : Round). x.mode) (round_kept body now who r s es)

-- the mode of the round stays in the ticks of an owner in idle time
pub gave_mode : {body : ℕ → List Stmt} {now : ℕ} {who : Owner} {left : State} {r round : Round} {s after : Subsystem}
    {taken : Taken} → GaveIdle body now who left r s taken round after → round.mode ≡ r.mode
gave_mode {body = body} {now = now} {who = who} {left = left} {r = r} {s = s} gave =
    ap (λ (x : Round). x.mode) gave.round_is
    ∙ effected_mode body now who left.effects r (owner_leaving (Some who) left.left s)

-- ---- the words

-- two sums are the same where the items are the same
sum_by-same : {X : Type 0} (f g : X → ℕ) (d : X) (xs : List X)
    → ((i : ℕ) → i < length xs → f (slice_index_or xs i d) ≡ g (slice_index_or xs i d)) → sum_by f xs ≡ sum_by g xs
sum_by-same f g d [] same = refl
sum_by-same f g d (x ∷ xs) same =
    let rest = sum_by-same f g d xs (λ i l. same (suc i) (omega (arith, l))) in
    let first = same 0 (omega arith) in
    omega (arith, first, rest, sum_by-cons f x xs, sum_by-cons g x xs)

module _ (c : ConfigParts) (st : RunState) (h : IsWeighed c st) where
  isr_same : (isr : ℕ) → routine_words (words_beside st) isr ≡ isr_words c isr
  isr_same isr =
      ap (λ (ws : List ℕ). slice_index_or ws isr 0) h.isr_words
      ∙ get_or-map (λ (d : IsrDef). d.stack) c.isrs isr no_isr

  row_same : (entry : ℕ) → entry < length (mode_of c st.world).activations
      → entry_words (words_beside st) entry ≡ row_words c (row_of (mode_of c st.world) entry)
  row_same entry within =
      ap (λ (ws : List (List ℕ)). slice_index_or (slice_index_or ws st.world.mode.0 []) entry 0) h.row_words
      ∙ ap (λ (ws : List ℕ). slice_index_or ws entry 0)
      (get_or-map (mode_words c) c.modes st.world.mode.0 no_mode)
      ∙ get_or-map_within (row_words c) (mode_of c st.world).activations entry no_row 0 within

  job_same : (place : ℕ) → place < length st.world.jobs
      → stacked_words (words_beside st) (job_at st.world.jobs place)
      ≡ job_words c (mode_of c st.world) (job_at st.world.jobs place)
  job_same place within =
      let job = job_at st.world.jobs place in
      let few = h.placed.few in
      let entry = h.placed.entries place within in
      ap (λ (n : ℕ). cond (is_done job.left) 0 n) (row_same job.entry (omega arith))

  -- the words of the stack are those of the world
  pub weighed : words_in (stack_of st) ≡ words_of c st.world
  weighed =
      let jobs = sum_by-same (stacked_words (words_beside st)) (job_words c (mode_of c st.world)) no_job st.world.jobs
      job_same in
      let isrs = sum_by-same (routine_words (words_beside st)) (isr_words c) 0 (unfinished st.world.isrs)
      (λ i _. isr_same (get_or (unfinished st.world.isrs) i 0)) in
      omega (arith, jobs, isrs)
