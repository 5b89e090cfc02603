-- No instant of a run is deeper than the depth bound, and none takes more words than the words bound.
use Rattle.std.proofs.Common.{ℕ, zero, suc, ◌≡◌, ◌<◌, ◌≤◌, ◌+◌, List, [], Bool, true, false, Option, None, Some, refl, ap, subst, cond, arith, length, ⊎_elim}
use Rattle.std.specs.Prelude.{not, nat_le, nat_lt, sum_by, slice_index_or}
use Rattle.std.specs.List.{range_with_len}
use Rattle.std.proofs.lemmas.List.{take_all}
use Rattle.std.proofs.lemmas.List.Sums.{count_by-le-length, sum_by-le-sum_by}
use Rattle.std.proofs.lemmas.Bool.{cases_Bool, cond_both, cond-true, cond-false, and_from, le-leb, lt-ltb}
use Rattle.task_lang.specs.declared.syntax.Stmt.{Stmt}
use Rattle.tt_world.specs.declared.config.Activation.{Activation}
use Rattle.tt_world.specs.declared.config.IsrDef.{IsrDef}
use Rattle.tt_world.specs.declared.config.ConfigParts.{ConfigParts}
use Rattle.tt_world.specs.declared.script.ScriptParts.{ScriptParts}
use Rattle.tt_world.specs.declared.world.Point.{Point}
use Rattle.tt_world.specs.declared.world.Point.TheVariants as point
use Rattle.tt_world.specs.World.{World, Job}
use Rattle.tt_world.specs.ConfigRules.{IsConfig}
use Rattle.tt_world.specs.ScriptRules.{IsScript}
use Rattle.tt_world.specs.Load.{depth_of, in_tick, isr_words, job_words, most_before, words_of}
use Rattle.tt_world.specs.Moved.{is_over}
use Rattle.tt_world.specs.Opening.{opening}
use Rattle.tt_world.specs.Points.{point_of}
use Rattle.tt_world.specs.Rows.{offset_of, mode_at, mode_of, no_isr, no_row, row_of}
use Rattle.tt_world.specs.Runners.{is_done, job_at, no_job, unfinished}
use Rattle.tt_world.specs.Schedule.{IsBounded, last_instant, world_at}
use Rattle.tt_world.proofs.Deadlines.{IsFrom}
use Rattle.tt_world.proofs.Ends.{are_bounded, last_is}
use Rattle.tt_world.proofs.Modes.{Named, opening_named, run_named}
use Rattle.tt_world.proofs.Parts.{Alone, Anything, Begun, GoesOnBefore, led_on}
use Rattle.tt_world.proofs.Places.{Placed, opening_placed, placed_at}
use Rattle.tt_world.proofs.Points.{Ahead, ahead_at, opening_ahead}
use Rattle.tt_world.proofs.Time.{Stands, Timed, opening_timed, timed_at}
use Rattle.schedule_check.specs.StackLaw.{StackIsBounded}
use Rattle.schedule_check.specs.Windows.{depth_bound, is_open, most_in, most_open, open_at, stack_of, window_end, words_bound}
use Rattle.schedule_check.proofs.IsrAccounts.{cond_within}
use Rattle.schedule_check.proofs.IsrTicks.{isrs_opened}
use Rattle.schedule_check.proofs.Largest.{largest_at}
use Rattle.schedule_check.proofs.Sums.{sum_filter, sum_le_places, sum_places}

-- ---- the window of an activation that is unfinished

-- a window reaches up to its point, or over the longest round
before_end : (c : ConfigParts) (offset : ℕ) (p : Point) → IsFrom (offset + 1) p → offset < c.round + c.adjust
    → offset < window_end c p
before_end c offset (point.At place) h l = omega arith
before_end c offset point.RoundEnd h l = l

-- no offset of a round is after the longest round
in_round : (c : ConfigParts) (latched : Option ℕ) (offset : ℕ) → Stands Begun c latched offset
    → offset < c.round + c.adjust
in_round c None offset h = omega arith
in_round c (Some length) offset h = let most = h.0.1 in let on = h.1 in omega arith

module _ (c : ConfigParts) (s : ScriptParts) (w : World) (ahead : Ahead c 1 w) (placed : Placed c 1 w)
    (timed : Timed Begun c s w) where
  -- the activation at a place is that of the row of this number, and the window of this row covers the present offset
  covered : (place : ℕ) → place < length w.jobs → is_done (job_at w.jobs place).left ≡ false
      → is_open c (mode_of c w) (offset_of w) (row_of (mode_of c w) place) ≡ true
  covered place l u =
      let row = row_of (mode_of c w) place in
      let point = point_of (mode_of c w) row in
      let begun = placed.begun place l in
      let later : IsFrom (offset_of w + 1) point =
      subst (λ (entry : ℕ). IsFrom (offset_of w + 1) (point_of (mode_of c w) (row_of (mode_of c w) entry)))
      (placed.entries place l) (ahead.ahead place l u) in
      and_from (nat_le row.offset (offset_of w)) (nat_lt (offset_of w) (window_end c point))
      (le-leb row.offset (offset_of w) (omega arith))
      (lt-ltb (offset_of w) (window_end c point)
      (before_end c (offset_of w) point later (in_round c w.latched (offset_of w) timed.stands)))

  -- what unfinished activations count is at most what those count whose windows cover the present offset
  jobs_within : (weight : Activation → ℕ) (count : Job → ℕ)
      → ((job : Job) → count job ≡ cond (is_done job.left) 0 (weight (row_of (mode_of c w) job.entry)))
      → sum_by count w.jobs ≤ open_at weight c (mode_of c w) (offset_of w)
  jobs_within weight count is =
      let mode = mode_of c w in
      let covering : Activation → ℕ = λ (row : Activation). cond (is_open c mode (offset_of w) row) (weight row) 0 in
      sum_le_places count covering no_job no_row w.jobs mode.activations placed.few
      (λ place l.
      let job = job_at w.jobs place in
      let now = is job in
      ⊎_elim
      (λ (d : is_done job.left ≡ true).
      let none = cond-true (is_done job.left) 0 (weight (row_of mode job.entry)) d in omega arith)
      (λ (u : is_done job.left ≡ false).
      let all = cond-false (is_done job.left) 0 (weight (row_of mode job.entry)) u in
      let same = ap (λ (entry : ℕ). weight (row_of mode entry)) (placed.entries place l) in
      let there = cond-true (is_open c mode (offset_of w) (row_of mode place)) (weight (row_of mode place)) 0
      (covered place l u) in
      omega arith)
      (cases_Bool (is_done job.left)))

-- what is open at an offset is at most the largest over all modes and offsets
open_within : (weight : Activation → ℕ) (c : ConfigParts) (mode offset : ℕ) → mode < length c.modes
    → offset < c.round + c.adjust → open_at weight c (mode_at c mode) offset ≤ most_open weight c
unfolding most_in most_open
open_within weight c mode offset l m =
    let a = largest_at (open_at weight c (mode_at c mode)) (c.round + c.adjust) offset m in
    let b = largest_at (λ mode. most_in weight c (mode_at c mode)) (length c.modes) mode l in
    omega arith

-- ---- the routines

-- the words of routines that are unfinished are among those of all
isr_words_within : (c : ConfigParts) (isrs : List (List Stmt)) → length isrs ≡ length c.isrs
    → sum_by (isr_words c) (unfinished isrs) ≤ sum_by (λ (isr : IsrDef). isr.stack) c.isrs
isr_words_within c isrs same =
    let stack : IsrDef → ℕ = λ (isr : IsrDef). isr.stack in
    let is_left : ℕ → Bool = λ (number : ℕ). not (is_done (slice_index_or isrs number [])) in
    let numbers = range_with_len 0 (length isrs) in
    let some = sum_filter (isr_words c) is_left numbers in
    let all = sum_by-le-sum_by (λ (number : ℕ). cond (is_left number) (isr_words c number) 0) (isr_words c) numbers
    (λ number. cond_within (is_left number) (isr_words c number)) in
    let places = sum_places stack c.isrs no_isr (length isrs) (omega (arith, same)) in
    let whole = ap (sum_by stack) (take_all (length isrs) c.isrs (omega (arith, same))) in
    omega arith

-- ---- each instant

job_one : (b : Bool) → cond {A = ℕ} (not b) 1 0 ≡ cond {A = ℕ} b 0 1
job_one true = refl
job_one false = refl

module _ (c : ConfigParts) (s : ScriptParts) (rules : IsConfig c) (script : IsScript c s) (n : ℕ)
    (before : GoesOnBefore c s n) (on : is_over (opening c s (world_at c s n)).end ≡ false) where
  abbrev opened : World
  opened = (opening c s (world_at c s n)).world

  ahead : Ahead c 1 opened
  ahead = led_on (Alone (Ahead c 1)) Anything [] (opening c s (world_at c s n)) on
      (opening_ahead c s rules (world_at c s n) [] (ahead_at c s rules n before))

  placed : Placed c 1 opened
  placed = led_on (Alone (Placed c 1)) Anything [] (opening c s (world_at c s n)) on
      (opening_placed c s rules (world_at c s n) [] (placed_at c s rules n before))

  bounded : IsBounded c s
  bounded = are_bounded c s rules script

  timed : Timed Begun c s opened
  timed = led_on (Alone (Timed Begun c s)) Anything [] (opening c s (world_at c s n)) on
      (opening_timed c s bounded (world_at c s n) [] (timed_at c s bounded n before))

  named : Named c opened
  named = led_on (Alone (Named c)) Anything [] (opening c s (world_at c s n)) on
      (opening_named c s rules (world_at c s n) [] (run_named c s rules script n before))

  counted_within : (weight : Activation → ℕ) (count : Job → ℕ)
      → ((job : Job) → count job ≡ cond (is_done job.left) 0 (weight (row_of (mode_of c opened) job.entry)))
      → sum_by count opened.jobs ≤ most_open weight c
  counted_within weight count is =
      let here = jobs_within c s opened ahead placed timed weight count is in
      let most = open_within weight c opened.mode.0 (offset_of opened) named.mode
      (in_round c opened.latched (offset_of opened) timed.stands) in
      omega arith

  -- an instant is no deeper than the bound
  depth_within : depth_of opened ≤ depth_bound c
  depth_within =
      let jobs = counted_within (λ row. 1) (λ (job : Job). cond (not (is_done job.left)) 1 0)
      (λ job. job_one (is_done job.left)) in
      let isrs = count_by-le-length (λ (left : List Stmt). not (is_done left)) opened.isrs in
      let all = isrs_opened c s n before on in
      omega arith

  -- it takes no more words than the bound
  words_within : words_of c opened ≤ words_bound c
  words_within =
      let jobs = counted_within (stack_of c) (job_words c (mode_of c opened)) (λ job. refl) in
      let isrs = isr_words_within c opened.isrs (isrs_opened c s n before on) in
      omega arith

-- ---- the whole run

module _ (c : ConfigParts) (s : ScriptParts) (rules : IsConfig c) (script : IsScript c s) (number : World → ℕ)
    (most : ℕ)
    (each : (n : ℕ) → GoesOnBefore c s n → is_over (opening c s (world_at c s n)).end ≡ false
    → number (opening c s (world_at c s n)).world ≤ most) where
  tick_within : (n : ℕ) → GoesOnBefore c s n → in_tick number (opening c s (world_at c s n)) ≤ most
  tick_within n g =
      cond_both (is_over (opening c s (world_at c s n)).end) 0 (number (opening c s (world_at c s n)).world)
      (λ (k : ℕ). k ≤ most) (λ _. omega arith) (λ on. each n g on)

  -- what bounds a number at each instant bounds the greatest
  most_within : (n : ℕ) → n ≤ suc (last_instant c s) → most_before number c s n ≤ most
  unfolding most_before
  most_within zero l = omega arith
  most_within (suc n) l =
      let last = last_is c s (are_bounded c s rules script) in
      let rest = most_within n (omega arith) in
      let here = tick_within n (λ k m. last.first k (omega arith)) in
      omega arith

-- in every run the depth and the words of each instant are at most their bounds
pub stack_bounded : StackIsBounded
stack_bounded c s rules script = record {
  depth = most_within c s rules script depth_of (depth_bound c) (depth_within c s rules script)
      (suc (last_instant c s)) (omega arith);
  words = most_within c s rules script (words_of c) (words_bound c) (words_within c s rules script)
      (suc (last_instant c s)) (omega arith);
}
