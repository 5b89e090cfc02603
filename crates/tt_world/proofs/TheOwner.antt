-- What is unfinished decides who takes a tick.
use Rattle.std.proofs.Common.{ℕ, zero, suc, ◌≡◌, ◌<◌, ◌≤◌, ◌-◌, List, [], ◌∷◌, ◌++◌, Bool, true, false, Option, None, Some, refl, ap, sym, ◌∙◌, subst, arith, length, get_or, append_assoc, ◌⊎◌, ⊎_elim}
use Rattle.std.specs.Prelude.{◌==◌, ◌&&◌, ◌||◌, not, nat_lt, cond, map, slice_get, option_map}
use Rattle.std.specs.List.{list_any, range_with_len}
use Rattle.std.proofs.lemmas.List.{length-append, length-map, get_or_past}
use Rattle.std.proofs.lemmas.List.FromFn.{get_or-range_with_len, length-range_with_len}
use Rattle.std.proofs.lemmas.Map.Views.{any-filter_same}
use Rattle.std.proofs.lemmas.Bool.{cond_both, cases_Bool, cases_lt, cases_order, false≢true, eqb-true, eq-eqb, ltb-true, ltb-false, or_cases}
use Rattle.tt_base.specs.declared.number.TaskNo.{TaskNo}
use Rattle.tt_base.specs.declared.number.IsrNo.{IsrNo}
use Rattle.tt_base.specs.declared.event.Event.{Event}
use Rattle.task_lang.specs.declared.syntax.Stmt.{Stmt}
use Rattle.tt_world.specs.declared.config.IsrDef.{IsrDef}
use Rattle.tt_world.specs.declared.config.ConfigParts.{ConfigParts}
use Rattle.tt_world.specs.declared.config.ModeDef.{ModeDef}
use Rattle.tt_world.specs.declared.world.Runner.{Runner}
use Rattle.tt_world.specs.declared.world.Runner.TheVariants as runner
use Rattle.tt_world.specs.World.{World, Job}
use Rattle.tt_world.specs.ConfigRules.{IsConfig, are_distinct}
use Rattle.tt_world.specs.Rows.{mode_of, row_of}
use Rattle.tt_world.specs.Runners.{job_at, is_done, unfinished, higher, highest, isr_levels, first_runner, runner_of, owner_of}
use Rattle.tt_world.specs.Readings.{last_of}
use Rattle.tt_world.specs.EventLaws.{IsOwner}
use Rattle.tt_world.proofs.TableRows.{both_left, both_right}
use Rattle.tt_world.proofs.WhoRuns.{Says, runner_says, last_found_at, none_found, is_any_isr}
use Rattle.tt_world.proofs.WhoRuns.{isr_runs}
use Rattle.tt_world.proofs.OpenLists.{tasks_of, isrs_of}
use Rattle.tt_world.proofs.Unended.{has, open_task, open_tasks, FactsOf}

-- ---- numbers in a list

abbrev mem : ℕ → List ℕ → Bool
mem n xs = list_any (λ (m : ℕ). m == n) xs

mem_at : (n : ℕ) (xs : List ℕ) (i : ℕ) → i < length xs → get_or xs i 0 ≡ n → mem n xs ≡ true
mem_at n [] i l e = absurd (omega arith)
mem_at n (x ∷ xs) zero l e = ap (λ (b : Bool). b || mem n xs) (eq-eqb x n e)
mem_at n (x ∷ xs) (suc i) l e = ap (λ (b : Bool). (x == n) || b) (mem_at n xs i (omega arith) e) ∙ or_right (x == n)
  where
    or_right : (a : Bool) → a || true ≡ true
    or_right true = refl
    or_right false = refl

distinct_at : (xs : List ℕ) (i j : ℕ) → are_distinct xs ≡ true → i < j → j < length xs → get_or xs i 0 ≡ get_or xs j 0
    → ⊥
distinct_at [] i j h k l e = absurd (omega arith)
distinct_at (x ∷ xs) i zero h k l e = absurd (omega arith)
distinct_at (x ∷ xs) zero (suc j) h k l e =
    let some = mem_at x xs j (omega arith) (sym e) in
    let none : not (mem x xs) ≡ true = both_left (not (mem x xs)) (are_distinct xs) h in
    false≢true (sym (ap not some) ∙ none)
distinct_at (x ∷ xs) (suc i) (suc j) h k l e =
    distinct_at xs i j (both_right (not (mem x xs)) (are_distinct xs) h) (omega arith) (omega arith) e

has_mem : (n : ℕ) (xs : List IsrNo) → mem n (map (λ (x : IsrNo). x.0) xs) ≡ has n xs
has_mem n [] = refl
has_mem n (x ∷ xs) = ap (λ (b : Bool). (x.0 == n) || b) (has_mem n xs)

-- ---- the highest of some numbers

abbrev level : List ℕ → ℕ → ℕ
level levels n = get_or levels n 0

Top : List ℕ → List ℕ → Option ℕ → Type 0
Top levels xs None = xs ≡ []
Top levels xs (Some k) = (mem k xs ≡ true) × ((m : ℕ) → mem m xs ≡ true → level levels m ≤ level levels k)

mem_none : (xs : List ℕ) (m : ℕ) → xs ≡ [] → mem m xs ≡ true → ⊥
mem_none xs m e h = false≢true (sym (ap (mem m) e) ∙ h)

top_step : (levels : List ℕ) (x : ℕ) (xs : List ℕ) (o : Option ℕ) → Top levels xs o
    → Top levels (x ∷ xs) (Some (higher levels x o))
unfolding Top
top_step levels x xs None t = (
  ap (λ (b : Bool). b || mem x xs) (eq-eqb x x refl),
  λ m h.
      ⊎_elim (λ (e : (x == m) ≡ true). let z = ap (level levels) (eqb-true x m e) in omega arith)
      (λ (e : mem m xs ≡ true). absurd (mem_none xs m t e)) (or_cases (x == m) (mem m xs) h),
)
top_step levels x xs (Some j) t =
    cond_both (nat_lt (level levels x) (level levels j)) j x (λ (k : ℕ). Top levels (x ∷ xs) (Some k))
    (λ b.
    let less = ltb-true (level levels x) (level levels j) b in (
      ap (λ (b : Bool). (x == j) || b) t.0 ∙ or_right (x == j),
      λ m h.
          ⊎_elim (λ (e : (x == m) ≡ true). let z = ap (level levels) (eqb-true x m e) in omega arith)
          (λ (e : mem m xs ≡ true). t.1 m e) (or_cases (x == m) (mem m xs) h),
    ))
    (λ b.
    let more = ltb-false (level levels x) (level levels j) b in (
      ap (λ (b : Bool). b || mem x xs) (eq-eqb x x refl),
      λ m h.
          ⊎_elim (λ (e : (x == m) ≡ true). let z = ap (level levels) (eqb-true x m e) in omega arith)
          (λ (e : mem m xs ≡ true). let l = t.1 m e in omega arith) (or_cases (x == m) (mem m xs) h),
    ))
  where
    or_right : (a : Bool) → a || true ≡ true
    or_right true = refl
    or_right false = refl

top_is : (levels xs : List ℕ) → Top levels xs (highest levels xs)
unfolding highest Top
top_is levels [] = refl
top_is levels (x ∷ xs) = top_step levels x xs (highest levels xs) (top_is levels xs)

-- the highest is that of each list with the same numbers, where levels are distinct
same_top : (levels xs ys : List ℕ) (k : ℕ) (o : Option ℕ) → ((n : ℕ) → mem n ys ≡ mem n xs)
    → ((n : ℕ) → mem n xs ≡ true → n < length levels) → are_distinct levels ≡ true → Top levels xs (Some k)
    → Top levels ys o → o ≡ Some k
unfolding Top
same_top levels xs ys k None same low distinct t u = absurd (mem_none ys k u (same k ∙ t.0))
same_top levels xs ys k (Some j) same low distinct t u =
    let a = t.1 j (sym (same j) ∙ u.0) in
    let b = u.1 k (same k ∙ t.0) in
    let kl = low k t.0 in
    let jl = low j (sym (same j) ∙ u.0) in
    ⊎_elim (λ (e : j ≡ k). ap Some e)
    (λ (o : (j < k) ⊎ (k < j)). ⊎_elim (λ (l : j < k). absurd (distinct_at levels j k distinct l kl (omega arith)))
    (λ (l : k < j). absurd (distinct_at levels k j distinct l jl (omega arith))) o)
    (cases_order j k)

-- the unfinished ones are those with statements left
mem_unfinished : (lefts : List (List Stmt)) (n : ℕ) → mem n (unfinished lefts) ≡ not (is_done (get_or lefts n []))
mem_unfinished lefts n =
    let test : ℕ → Bool = λ (number : ℕ). not (is_done (get_or lefts number [])) in
    any-filter_same (λ (m : ℕ). m == n) test (test n) (λ m e. ap test (eqb-true m n e))
    (range_with_len 0 (length lefts))
    ∙ ⊎_elim
    (λ (l : n < length lefts).
    let z = length-range_with_len 0 (length lefts) in
    ap (λ (b : Bool). test n && b) (mem_at n (range_with_len 0 (length lefts)) n (omega arith)
    (get_or-range_with_len 0 (length lefts) n 0 l ∙ omega arith)) ∙ and_true (test n))
    (λ (g : length lefts ≤ n).
    let z : test n ≡ false = ap (λ (ys : List Stmt). not (is_done ys)) (get_or_past lefts n [] g) in
    ap (λ (b : Bool). b && mem n (range_with_len 0 (length lefts))) z ∙ sym z)
    (cases_lt n (length lefts))
  where
    and_true : (a : Bool) → a && true ≡ a
    and_true true = refl
    and_true false = refl

-- ---- tasks

none_open : (mode : ModeDef) (xs : List Job) → ((p : ℕ) → p < length xs → is_done (job_at xs p).left ≡ false → ⊥)
    → open_tasks mode xs ≡ []
none_open mode [] h = refl
none_open mode (x ∷ xs) h =
    ⊎_elim (λ (d : is_done x.left ≡ true). ap
    (λ (b : Bool). cond b [] ((row_of mode x.entry).task ∷ []) ++ open_tasks mode xs) d
    ∙ none_open mode xs (λ p l u. h (suc p) (omega arith) u))
    (λ (d : is_done x.left ≡ false). absurd (h 0 (omega arith) d)) (cases_Bool (is_done x.left))

last_open : (mode : ModeDef) (xs : List Job) (q : ℕ) → q < length xs → is_done (job_at xs q).left ≡ false
    → ((p : ℕ) → p < length xs → is_done (job_at xs p).left ≡ false → p ≤ q)
    → (before : List TaskNo) × (open_tasks mode xs ≡ before ++ (row_of mode (job_at xs q).entry).task ∷ [])
last_open mode [] q l u h = absurd (omega arith)
last_open mode (x ∷ xs) zero l u h = (
  [],
  ap (λ (b : Bool). cond b [] ((row_of mode x.entry).task ∷ []) ++ open_tasks mode xs) u
      ∙ ap (λ ys. (row_of mode x.entry).task ∷ ys)
      (none_open mode xs (λ p m v. let z = h (suc p) (omega arith) v in absurd (omega arith))),
)
last_open mode (x ∷ xs) (suc q) l u h =
    let r = last_open mode xs q (omega arith) u (λ p m v. let z = h (suc p) (omega arith) v in omega arith) in (
      open_task mode x ++ r.0,
      ap (λ ys. open_task mode x ++ ys) r.1
          ∙ sym (append_assoc (open_task mode x) r.0 ((row_of mode (job_at xs q).entry).task ∷ [])),
    )

get_last : (before : List TaskNo) (t : TaskNo) → slice_get (before ++ t ∷ []) (length before) ≡ Some t
get_last [] t = refl
get_last (x ∷ before) t = get_last before t

last_is : (before : List TaskNo) (t : TaskNo) → last_of (before ++ t ∷ []) ≡ Some t
last_is before t =
    let n = length-append before (t ∷ []) in
    let z : length (before ++ t ∷ []) - 1 ≡ length before = omega arith in
    ap (λ (k : ℕ). slice_get (before ++ t ∷ []) k) z ∙ get_last before t

-- ---- the owner

isr_none : (o : Option ℕ) (others : List (Option Runner)) (r : Runner) → is_any_isr r ≡ false
    → first_runner (option_map (λ (number : ℕ). runner.Isr (record { 0 = number })) o ∷ others) ≡ r → o ≡ None
isr_none None others r n e = refl
isr_none (Some number) others r n e = absurd (false≢true (sym n ∙ sym (ap is_any_isr e)))

no_isr_runs : (c : ConfigParts) (w : World) (r : Runner) → is_any_isr r ≡ false → runner_of c w ≡ r
    → highest (isr_levels c) (unfinished w.isrs) ≡ None
unfolding runner_of
no_isr_runs c w r n e = isr_none _ _ r n e

none_has : (xs : List IsrNo) → ((n : ℕ) → has n xs ≡ true → ⊥) → xs ≡ []
none_has [] h = refl
none_has (x ∷ xs) h = absurd (h x.0 (ap (λ (b : Bool). b || has x.0 xs) (eq-eqb x.0 x.0 refl)))

module _ (c : ConfigParts) (rules : IsConfig c) (T now : ℕ) (w : World) (es : List Event)
    (f : FactsOf c T now w es) where
  same_isrs : (n : ℕ) → mem n (map (λ (x : IsrNo). x.0) (isrs_of es)) ≡ mem n (unfinished w.isrs)
  same_isrs n = has_mem n (isrs_of es) ∙ f.1.runs n ∙ sym (mem_unfinished w.isrs n)

  low_isrs : (n : ℕ) → mem n (unfinished w.isrs) ≡ true → n < length (isr_levels c)
  low_isrs n e =
      let z = f.1.sized in
      let y = length-map c.isrs (λ (isr : IsrDef). isr.level) in
      ⊎_elim (λ (l : n < length w.isrs). omega arith)
      (λ (g : length w.isrs ≤ n). absurd
      (false≢true (sym (ap (λ (ys : List Stmt). not (is_done ys)) (get_or_past w.isrs n [] g))
      ∙ sym (mem_unfinished w.isrs n) ∙ e)))
      (cases_lt n (length w.isrs))

  highest_isr : (k : ℕ) → highest (isr_levels c) (unfinished w.isrs) ≡ Some k
      → highest (isr_levels c) (map (λ (x : IsrNo). x.0) (isrs_of es)) ≡ Some k
  highest_isr k e =
      same_top (isr_levels c) (unfinished w.isrs)
      (map (λ (x : IsrNo). x.0) (isrs_of es)) k _ same_isrs low_isrs rules.levels
      (subst (Top (isr_levels c) (unfinished w.isrs)) e (top_is (isr_levels c) (unfinished w.isrs)))
      (top_is (isr_levels c) (map (λ (x : IsrNo). x.0) (isrs_of es)))

  no_isrs : highest (isr_levels c) (unfinished w.isrs) ≡ None → isrs_of es ≡ []
  unfolding Top
  no_isrs e =
      let none : unfinished w.isrs ≡ [] =
      subst (Top (isr_levels c) (unfinished w.isrs)) e (top_is (isr_levels c) (unfinished w.isrs)) in
      none_has (isrs_of es) (λ n h. mem_none (unfinished w.isrs) n none
      (sym (same_isrs n) ∙ has_mem n (isrs_of es) ∙ h))

  no_tasks : ((p : ℕ) → p < length w.jobs → is_done (job_at w.jobs p).left ≡ false → ⊥) → tasks_of es ≡ []
  no_tasks h = f.1.tasks ∙ none_open (mode_of c w) w.jobs h

  owner_is : (r : Runner) → runner_of c w ≡ r → Says w.jobs r
      → IsOwner c (Some (owner_of c w r)) (tasks_of es) (isrs_of es)
  owner_is (runner.Isr i) e says = highest_isr i.0 (isr_runs c w i e)
  owner_is (runner.Job q) e says =
      let last = last_found_at w.jobs q says in
      let z : q - 0 ≡ q = omega arith in
      let split = last_open (mode_of c w) w.jobs q (subst (λ (k : ℕ). k < length w.jobs) z last.within)
      (subst (λ (k : ℕ). is_done (job_at w.jobs k).left ≡ false) z last.undone)
      (λ p l u. let k = last.after p l u in omega arith) in
      (no_isrs (no_isr_runs c w (runner.Job q) refl e), ap last_of (f.1.tasks ∙ split.1) ∙ last_is split.0 _)
  owner_is (runner.Oisr i) e says =
      (no_isrs (no_isr_runs c w (runner.Oisr i) refl e), no_tasks (none_found w.jobs says))
  owner_is (runner.Osek i) e says =
      (no_isrs (no_isr_runs c w (runner.Osek i) refl e), no_tasks (none_found w.jobs says))
  owner_is runner.Nobody e says = (no_isrs (no_isr_runs c w runner.Nobody refl e), no_tasks (none_found w.jobs says))

  -- the owner of a tick is the one that the unfinished tasks and routines give
  pub is_owner : IsOwner c (Some (owner_of c w (runner_of c w))) (tasks_of es) (isrs_of es)
  is_owner = owner_is (runner_of c w) refl (runner_says c w)
