-- The checks that are due, entry by entry.
use Rattle.std.proofs.Common.{ℕ, zero, suc, ◌≡◌, ◌<◌, ◌≤◌, ◌+◌, ◌-◌, Bool, true, false, cond, List, [], ◌∷◌, Option, Some, drop, take, length, get_or, refl, ap, sym, ◌∙◌, subst, zero-add, arith}
use Rattle.std.specs.Prelude.{filter, slice_get, slice_range}
use Rattle.std.specs.List.{range_with_len}
use Rattle.std.proofs.Math.Seq.{drop-cons}
use Rattle.std.proofs.lemmas.Bool.{cond-false, false_from_ne_true}
use Rattle.std.proofs.lemmas.Option.{slice_get_within, get_or_from_slice_get}
use Rattle.task_lang.specs.declared.syntax.Stmt.{Stmt}
use Rattle.tt_base.specs.declared.event.Event.{Event}
use Rattle.tt_base.specs.declared.event.Event.TheVariants.{Check}
use Rattle.tt_world.specs.declared.config.Activation.{Activation}
use Rattle.tt_world.specs.declared.config.ModeDef.{ModeDef}
use Rattle.tt_world.specs.declared.world.Point.{Point}
use Rattle.tt_world.specs.World.{Job, World}
use Rattle.tt_world.specs.Runners.{no_job, job_at, is_done}
use Rattle.tt_world.specs.Points.{point_of}
use Rattle.tt_world.specs.Rows.{row_of}
use Rattle.tt_world.specs.Monitoring.{Checked, after_checks, checked, check_if, check_then}
use Rattle.tt_world.specs.Hooks.{misses}
use Rattle.tt_world.specs.declared.config.ConfigParts.{ConfigParts}
use Rattle.tt_base.specs.declared.number.TaskNo.{TaskNo}
use Rattle.round_table.specs.DueRows.{entries_due}
use Rattle.stack_dispatch.specs.Checking.{checked_entries, Checks}
use Rattle.tt_world.specs.Moved.{Gives, IsTelling, Outcome}
use Rattle.stack_dispatch.proofs.Telling.{SoFar, so_far_more, so_far_whole}

-- ---- places of a list

pub range_past : {X : Type 0} (xs : List X) (i j : ℕ) → j ≤ i → slice_range xs i j ≡ []
range_past xs i j l = let none : j - i ≡ 0 = omega arith in ap (λ n. take n (drop i xs)) none

pub range_more : {X : Type 0} (xs : List X) (i j : ℕ) (x : X) → i < j → slice_get xs i ≡ Some x
    → slice_range xs i j ≡ x ∷ slice_range xs (i + 1) j
range_more xs i j x l e =
    let some : j - i ≡ suc (j - (i + 1)) = omega arith in
    let next : suc i ≡ i + 1 = omega arith in
    ap (λ n. take n (drop i xs)) some
    ∙ ap (take (suc (j - (i + 1)))) (drop-cons xs i x (slice_get_within xs i x e))
    ∙ ap (λ y. y ∷ take (j - (i + 1)) (drop (suc i) xs)) (get_or_from_slice_get xs i x x e)
    ∙ ap (λ n. x ∷ take (j - (i + 1)) (drop n xs)) next

-- one more check
module _ {L : Type 0} {Told : L → List Event → L → Type 0} (telling : IsTelling Told) (at : ℕ) (mode : ModeDef)
    (jobs : List Job)
    (xs : List ℕ) (i j entry : ℕ) (l : i < j) (here : slice_get xs i ≡ Some entry) (row : Activation)
    (row_is : row ≡ row_of mode entry)
    (met : Bool) (met_is : met ≡ is_done (job_at jobs entry).left) (first before after : L) (all : Checked)
    (so_far : SoFar Told first all.events before (checked_entries at mode jobs (slice_range xs i j)).events)
    (told : Told before (Check at row.task met ∷ []) after) where
  one_more : checked_entries at mode jobs (slice_range xs i j)
      ≡ check_then at row.task met (checked_entries at mode jobs (slice_range xs (i + 1) j))
  unfolding checked_entries
  one_more =
      ap (checked_entries at mode jobs) (range_more xs i j entry l here)
      ∙ ap (λ (r : Activation). check_then at r.task (is_done (job_at jobs entry).left)
      (checked_entries at mode jobs (slice_range xs (i + 1) j)))
      (sym row_is)
      ∙ ap (λ b. check_then at row.task b (checked_entries at mode jobs (slice_range xs (i + 1) j))) (sym met_is)

  -- where it is met the others follow
  module _ (is_met : met ≡ true) where
    met_more : checked_entries at mode jobs (slice_range xs i j)
        ≡ check_then at row.task true (checked_entries at mode jobs (slice_range xs (i + 1) j))
    met_more = one_more ∙ ap (λ b. check_then at row.task b (checked_entries at mode jobs (slice_range xs (i + 1) j)))
        is_met

    pub met_events : SoFar Told first all.events after (checked_entries at mode jobs (slice_range xs (i + 1) j)).events
    met_events = so_far_more telling first before after all.events (Check at row.task true ∷ []) _
        (subst (λ es. SoFar Told first all.events before es) (ap (λ (x : Checked). x.events) met_more) so_far)
        (subst (λ b. Told before (Check at row.task b ∷ []) after) is_met told)

    pub met_missed : (checked_entries at mode jobs (slice_range xs i j)).missed
        ≡ (checked_entries at mode jobs (slice_range xs (i + 1) j)).missed
    met_missed = ap (λ (x : Checked). x.missed) met_more

  -- else it is the last
  pub missed_last : met ≡ false → all.missed ≡ (checked_entries at mode jobs (slice_range xs i j)).missed
      → Checks Told first after (Some row.task) all
  missed_last is_missed missed =
      let last = one_more ∙ ap (λ b. check_then at row.task b
      (checked_entries at mode jobs (slice_range xs (i + 1) j))) is_missed in
      record {
        told = so_far_whole telling first before after all.events (Check at row.task false ∷ [])
            (subst (λ es. SoFar Told first all.events before es) (ap (λ (x : Checked). x.events) last) so_far)
            (subst (λ b. Told before (Check at row.task b ∷ []) after) is_missed told);
        missed_is = sym (missed ∙ ap (λ (x : Checked). x.missed) last);
      }

-- where one is missed, the hooks follow
pub missed_gives : {L : Type 0} {Told : L → List Event → L → Type 0} → IsTelling Told
    → (c : ConfigParts) (w v : World) (a b d : L)
    (found : Option TaskNo) (task : TaskNo) (end : Outcome) (all : Checked) → Checks Told a b found all
    → found ≡ Some task
    → Gives Told b d v end (misses c task w) → Gives Told a d v end (after_checks c all.events all.missed w)
missed_gives {Told = Told} telling c w v a b d found task end all checks is g =
    subst (λ (missed : Option TaskNo). Gives Told a d v end (after_checks c all.events missed w))
    (sym is ∙ checks.missed_is)
    (record {
      world_is = g.world_is;
      told = telling.both a b d all.events (misses c task w).events checks.told g.told;
      end_is = g.end_is;
    })

pub entries_end : (at : ℕ) (mode : ModeDef) (jobs : List Job) (xs : List ℕ) (i j : ℕ) → j ≤ i
    → checked_entries at mode jobs (slice_range xs i j) ≡ checked_entries at mode jobs []
entries_end at mode jobs xs i j l = ap (checked_entries at mode jobs) (range_past xs i j l)

-- ---- jobs at the places of their entry numbers

module _ (at : ℕ) (mode : ModeDef) (is_due : Point → Bool) (jobs : List Job) where
  -- no entry from one on is due
  none_from : (n more : ℕ) → ((entry : ℕ) → n ≤ entry → entry < n + more
      → is_due (point_of mode (row_of mode entry)) ≡ false)
      → filter (λ entry. is_due (point_of mode (row_of mode entry))) (range_with_len n more) ≡ []
  none_from n zero h = refl
  none_from n (suc more) h =
      cond-false (is_due (point_of mode (row_of mode n))) _ _ (h n (omega arith) (omega arith))
      ∙ none_from (n + 1) more (λ entry l m. h entry (omega arith) (omega arith))

  one_checked : (b : Bool) (n : ℕ) (rest : List ℕ)
      → check_if b (check_then at (row_of mode n).task (is_done (job_at jobs n).left)
      (checked_entries at mode jobs rest)) (checked_entries at mode jobs rest)
      ≡ checked_entries at mode jobs (cond b (n ∷ rest) rest)
  unfolding checked_entries
  one_checked true n rest = refl
  one_checked false n rest = refl

  -- the checks of an activation of this entry, and of the others
  step : ℕ → Bool → Checked → Checked
  step entry met others = check_if (is_due (point_of mode (row_of mode entry)))
      (check_then at (row_of mode entry).task met others) others

  checked_from : (n : ℕ) (rest : List Job) (more : ℕ)
      → ((k : ℕ) → k < length rest → get_or rest k no_job ≡ job_at jobs (n + k))
      → ((k : ℕ) → k < length rest → (get_or rest k no_job).entry ≡ n + k)
      → ((entry : ℕ) → n + length rest ≤ entry → entry < (n + length rest) + more
      → is_due (point_of mode (row_of mode entry)) ≡ false)
      → checked at mode is_due rest
      ≡ checked_entries at mode jobs
      (filter (λ entry. is_due (point_of mode (row_of mode entry))) (range_with_len n (length rest + more)))
  unfolding checked checked_entries step
  checked_from n [] more h k none =
      let long : 0 + more ≡ more = omega arith in
      sym (ap (λ m. checked_entries at mode jobs
      (filter (λ entry. is_due (point_of mode (row_of mode entry))) (range_with_len n m))) long
      ∙ ap (checked_entries at mode jobs) (none_from n more (λ entry l m. none entry (omega arith) (omega arith))))
  checked_from n (x ∷ rest) more h k none =
      let long : suc (length rest) + more ≡ suc (length rest + more) = omega arith in
      let here : n + 0 ≡ n = omega arith in
      let entry_is : x.entry ≡ n = k 0 (omega arith) ∙ here in
      let left_is : x.left ≡ (job_at jobs n).left = ap (λ y. y.left) (h 0 (omega arith) ∙ ap (job_at jobs) here) in
      let others = filter (λ entry. is_due (point_of mode (row_of mode entry)))
      (range_with_len (n + 1) (length rest + more)) in
      let tail : checked at mode is_due rest ≡ checked_entries at mode jobs others =
      checked_from (n + 1) rest more
      (λ i l. let next : n + suc i ≡ (n + 1) + i = omega arith in h (suc i) (omega arith) ∙ ap (job_at jobs) next)
      (λ i l. let next : n + suc i ≡ (n + 1) + i = omega arith in k (suc i) (omega arith) ∙ next)
      (λ entry l m. none entry (omega arith) (omega arith)) in
      ap (λ e. step e (is_done x.left) (checked at mode is_due rest)) entry_is
      ∙ ap (λ (left : List Stmt). step n (is_done left) (checked at mode is_due rest)) left_is
      ∙ ap (step n (is_done (job_at jobs n).left)) tail
      ∙ one_checked (is_due (point_of mode (row_of mode n))) n others
      ∙ sym (ap (λ m. checked_entries at mode jobs
      (filter (λ entry. is_due (point_of mode (row_of mode entry))) (range_with_len n m))) long)

  -- where each entry that is due has been activated, the checks are those of the entries that are due
  pub checked_by_entry : ((place : ℕ) → place < length jobs → (job_at jobs place).entry ≡ place)
      → length jobs ≤ length mode.activations
      → ((entry : ℕ) → entry < length mode.activations → is_due (point_of mode (row_of mode entry)) ≡ true
      → entry < length jobs)
      → checked at mode is_due jobs ≡ checked_entries at mode jobs (entries_due is_due mode)
  checked_by_entry places within there =
      let more = length mode.activations - length jobs in
      let long : length jobs + more ≡ length mode.activations = omega arith in
      checked_from 0 jobs more (λ k l. ap (job_at jobs) (sym (zero-add k))) (λ k l. places k l ∙ sym (zero-add k))
      (λ entry l m. false_from_ne_true _ (λ is. let less = there entry (omega arith) is in omega arith))
      ∙ ap (λ m. checked_entries at mode jobs
      (filter (λ entry. is_due (point_of mode (row_of mode entry))) (range_with_len 0 m))) long
