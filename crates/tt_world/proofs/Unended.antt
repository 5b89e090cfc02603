-- What is unfinished according to the events is unfinished in the world.
use Rattle.std.proofs.Common.{ℕ, ◌≡◌, ◌≢◌, ◌<◌, ◌≤◌, ◌+◌, ◌-◌, List, [], ◌∷◌, ◌++◌, Bool, true, false, Option, None, Some, refl, ap, sym, ◌∙◌, subst, eqb, arith, length, get_or, append_assoc, append-nil, ⊎_elim, get_or-set_same, get_or-set_other}
use Rattle.std.specs.Prelude.{◌==◌, ◌&&◌, ◌||◌, not, nat_le, nat_lt, cond, flat_map, slice_set}
use Rattle.std.specs.List.{list_any}
use Rattle.std.proofs.Math.ListN.{get_or-append}
use Rattle.std.proofs.Math.Seq.{get_or-append_seam}
use Rattle.std.proofs.lemmas.Grind.{flat_map-append}
use Rattle.std.proofs.lemmas.List.{length-append, length-set, get_or_past}
use Rattle.std.proofs.lemmas.List.Elements.{All-get_or}
use Rattle.std.proofs.lemmas.Bool.{cond_both, cases_lt, cases_eq, false≢true, eq-eqb, ne_eqb, ltb-true}
use Rattle.tt_base.specs.declared.number.TaskNo.{TaskNo}
use Rattle.tt_base.specs.declared.number.IsrNo.{IsrNo}
use Rattle.tt_base.specs.declared.event.Event.{Event}
use Rattle.tt_base.specs.declared.event.Event.TheVariants.{Round, Accept, Activate}
use Rattle.tt_base.specs.declared.event.Owner.TheVariants as owner
use Rattle.task_lang.specs.declared.syntax.Stmt.{Stmt}
use Rattle.tt_world.specs.declared.config.Enable.{Enable as EnableRow}
use Rattle.tt_world.specs.declared.config.ConfigParts.{ConfigParts}
use Rattle.tt_world.specs.declared.config.ModeDef.{ModeDef}
use Rattle.tt_world.specs.declared.script.ScriptParts.{ScriptParts}
use Rattle.tt_world.specs.declared.world.Point.{Point}
use Rattle.tt_world.specs.World.{World, Source, IsrSource, OisrSource, Job}
use Rattle.tt_world.specs.ConfigRules.{IsConfig, IsTask, IsIsr, is_activation}
use Rattle.tt_world.specs.Rows.{offset_of, mode_at, mode_of, row_of, enables_at, entry_at, body_of, no_row, no_task, no_isr, routine_of}
use Rattle.tt_world.specs.Moved.{event_if}
use Rattle.tt_world.specs.Correction.{is_length, is_no_change}
use Rattle.tt_world.specs.Monitoring.{checked, monitored, after_checks, is_at, is_at_end}
use Rattle.tt_world.specs.Rounds.{head, latch, next_round, round_end}
use Rattle.tt_world.specs.Gates.{enable, enables, arrived, arrival, arrivals, is_accepted, is_enabled, acceptance, acceptances, sources, arrivals_of, is_held, source_runner}
use Rattle.tt_world.specs.Opening.{checks, activated, activation, opening}
use Rattle.tt_world.specs.Runners.{no_job, job_at, is_done, left_of}
use Rattle.tt_world.specs.Status.{stamp_of}
use Rattle.tt_world.proofs.Parts.{OfRun, Phase, Activated, OpeningKeeps, Anything, LeadsTo, Leads, followed_leads, still_leads, chain_each, opening_leads}
use Rattle.tt_world.proofs.Emits.{Of, all_more, checked_all}
use Rattle.tt_world.proofs.JobLists.{IsOldPlace, IsNewPlace, place_of_more}
use Rattle.tt_world.proofs.TableRows.{mode_rows, row_found, list_all_get, both_left}
use Rattle.tt_world.proofs.Stamps.{IsAt, each_of, checked_at}
use Rattle.tt_world.proofs.OpenLists.{tasks_of, isrs_of, is_plain, tasks_plain, isrs_plain, tasks_round, isrs_round, tasks_activate, isrs_activate, tasks_accept, isrs_accept}

-- ---- routines in a list

abbrev pub has : ℕ → List IsrNo → Bool
has n [] = false
has n (x ∷ xs) = (x.0 == n) || has n xs

or_right : (a : Bool) → a || true ≡ true
or_right true = refl
or_right false = refl

or_none : (a : Bool) → a || false ≡ a
or_none true = refl
or_none false = refl

or_or : (a b d : Bool) → a || (b || d) ≡ (a || b) || d
or_or true b d = refl
or_or false b d = refl

pub has_more : (n : ℕ) (xs : List IsrNo) (i : IsrNo) → has n (xs ++ i ∷ []) ≡ (has n xs || (i.0 == n))
has_more n [] i = or_none (i.0 == n)
has_more n (x ∷ xs) i = ap (λ (b : Bool). (x.0 == n) || b) (has_more n xs i) ∙ or_or (x.0 == n) (has n xs) (i.0 == n)

-- ---- the tasks of the unfinished activations of a world

abbrev pub open_task : ModeDef → Job → List TaskNo
open_task mode x = cond (is_done x.left) [] ((row_of mode x.entry).task ∷ [])

abbrev pub open_tasks : ModeDef → List Job → List TaskNo
open_tasks mode xs = flat_map (open_task mode) xs

-- for a tick, and for the activations with offsets before an instant: what the events say of the world
pub record Facts (c : ConfigParts) (T now start mode : ℕ) (acts : List Job) (isrs : List (List Stmt)) (held : ℕ)
    (es : List Event) : Type 0 where
  pub stamps : Of (λ e. stamp_of e ≤ T) es
  pub started : start ≤ T
  pub rows : (p : ℕ) → p < length acts → ((job_at acts p).entry < length (mode_at c mode).activations)
      × (start + (row_of (mode_at c mode) (job_at acts p).entry).offset < now)
  pub up : (i j : ℕ) → i < j → j < length acts
      → (row_of (mode_at c mode) (job_at acts i).entry).offset < (row_of (mode_at c mode) (job_at acts j).entry).offset
  pub tasks : tasks_of es ≡ open_tasks (mode_at c mode) acts
  pub runs : (n : ℕ) → has n (isrs_of es) ≡ not (is_done (get_or isrs n []))
  pub sized : length isrs ≡ length c.isrs
  pub gates : held ≡ length c.isrs

abbrev pub FactsOf : ConfigParts → (T now : ℕ) → OfRun
FactsOf c T now w es = (w.tick ≡ T) × Facts c T now w.start w.mode.0 w.jobs w.isrs (length w.isrs_held) es

abbrev pub PlainAt : ℕ → Event → Type 0
PlainAt t e = (stamp_of e ≡ t) × (is_plain e ≡ true)

module _ (c : ConfigParts) (T now start mode : ℕ) (acts : List Job) (isrs : List (List Stmt)) (held : ℕ) where
  pub facts_plain : (es : List Event) (e : Event) → PlainAt T e → Facts c T now start mode acts isrs held es
      → Facts c T now start mode acts isrs held (es ++ e ∷ [])
  facts_plain es e n p =
      let z = n.0 in
      record {
        stamps = all_more (λ e. stamp_of e ≤ T) es (e ∷ []) p.stamps (omega arith, tt);
        started = p.started;
        rows = p.rows;
        up = p.up;
        tasks = tasks_plain es e n.1 ∙ p.tasks;
        runs = λ k. ap (has k) (isrs_plain es e n.1) ∙ p.runs k;
        sized = p.sized;
        gates = p.gates;
      }

  pub facts_plains : (es fs : List Event) → Of (PlainAt T) fs → Facts c T now start mode acts isrs held es
      → Facts c T now start mode acts isrs held (es ++ fs)
  facts_plains es [] n p = subst (Facts c T now start mode acts isrs held) (sym (append-nil es)) p
  facts_plains es (e ∷ fs) n p = subst (Facts c T now start mode acts isrs held) (append_assoc es (e ∷ []) fs)
      (facts_plains (es ++ e ∷ []) fs n.1 (facts_plain es e n.0 p))

-- a body with a statement has something left
pub some_undone : (body : List Stmt) → 1 ≤ length body → is_done body ≡ false
some_undone [] l = absurd (omega arith)
some_undone (x ∷ body) l = refl

no_acts : (xs : List Job) → ((p : ℕ) → p < length xs → ⊥) → xs ≡ []
no_acts [] h = refl
no_acts (x ∷ xs) h = absurd (h 0 (omega arith))

both_of : (E F : Event → Type 0) (es : List Event) → Of E es → Of F es → Of (λ e. E e × F e) es
both_of E F [] p q = tt
both_of E F (e ∷ es) p q = ((p.0, q.0), both_of E F es p.1 q.1)

-- ---- each part of an opening

module _ (c : ConfigParts) (s : ScriptParts) (rules : IsConfig c) (T : ℕ) where
  abbrev P : OfRun
  P = FactsOf c T T

  plain : (w : World) (es : List Event) (e : Event) → stamp_of e ≡ w.tick → is_plain e ≡ true → P w es
      → Facts c T T w.start w.mode.0 w.jobs w.isrs (length w.isrs_held) (es ++ e ∷ [])
  plain w es e a n p = facts_plain c T T w.start w.mode.0 w.jobs w.isrs (length w.isrs_held) es e (a ∙ p.0, n) p.1

  after_facts : (fs : List Event) (missed : Option TaskNo) (w : World) (es : List Event) → P w es → Of (PlainAt T) fs
      → LeadsTo P Anything es (after_checks c fs missed w)
  after_facts fs None w es p a =
      (p.0, facts_plains c T T w.start w.mode.0 w.jobs w.isrs (length w.isrs_held) es fs a p.1)
  after_facts fs (Some task) w es p a = tt

  monitored_facts : (is_due : Point → Bool) → Leads P P Anything (monitored c is_due)
  monitored_facts is_due w es p =
      let all = checked w.tick (mode_of c w) is_due w.jobs in
      let at : Of (IsAt T) all.events = subst (λ (t : ℕ). Of (IsAt t) all.events) p.0
      (checked_at w.tick (mode_of c w) is_due w.jobs) in
      after_facts all.events all.missed w es p
      (both_of (IsAt T) (λ e. is_plain e ≡ true) all.events at
      (checked_all (λ e. is_plain e ≡ true) w.tick (mode_of c w) is_due w.jobs (λ _ _ _. refl)))

  if_plain : (b : Bool) (e : Event) → PlainAt T e → Of (PlainAt T) (event_if b e)
  if_plain true e p = (p, tt)
  if_plain false e p = tt

  latch_facts : Leads P P Anything (latch c)
  unfolding latch
  latch_facts w es p =
      cond_both (eqb (offset_of w) (c.round - c.adjust)) _ _ (LeadsTo P Anything es)
      (λ _. (
        p.0,
        facts_plains c T T w.start w.mode.0 w.jobs w.isrs (length w.isrs_held) es _
            (if_plain (not (is_no_change w.pending)) _ (p.0, refl)) p.1,
      ))
      (λ _. still_leads P Anything es w p)

  -- a round begins
  begins : (w : World) (es : List Event) (number : ℕ) (mode : _) → P w es
      → Facts c T T w.tick mode.0 [] w.isrs (length w.isrs_held) (es ++ Round w.tick number mode ∷ [])
  begins w es number mode p =
      let z = p.0 in
      record {
        stamps = all_more (λ e. stamp_of e ≤ T) es (Round w.tick number mode ∷ []) p.1.stamps (omega arith, tt);
        started = omega arith;
        rows = λ k l. absurd (omega arith);
        up = λ i j k l. absurd (omega arith);
        tasks = tasks_round es w.tick number mode;
        runs = λ k. ap (has k) (isrs_round es w.tick number mode) ∙ p.1.runs k;
        sized = p.1.sized;
        gates = p.1.gates;
      }

  next_round_facts : Leads P P Anything (next_round s)
  unfolding next_round
  next_round_facts w es p = cond_both (eqb w.number s.rounds) _ _ (LeadsTo P Anything es) (λ _. tt)
      (λ _. (p.0, begins w es (w.number + 1) w.wanted p))

  round_end_facts : Leads P P Anything (round_end c s)
  unfolding round_end
  round_end_facts w es p =
      cond_both (is_length w.latched (offset_of w)) _ _ (LeadsTo P Anything es)
      (λ _. followed_leads P P Anything es (monitored c (is_at_end (offset_of w)) w) (next_round s)
      (monitored_facts _ w es p) next_round_facts)
      (λ _. still_leads P Anything es w p)

  head_facts : (w : World) (es : List Event) → w.tick ≡ 0 → P w es → LeadsTo P Anything es (head s w)
  unfolding head
  head_facts w es z p =
      let t = p.0 in
      let none : w.jobs ≡ [] = no_acts w.jobs (λ k l. let h = (p.1.rows k l).1 in absurd (omega arith)) in
      let first = plain w es _ refl refl p in
      let b = begins w (es ++ _ ∷ []) 1 s.start (p.0, first) in (
        p.0,
        record {
          stamps = subst (Of (λ e. stamp_of e ≤ T)) (append_assoc es (_ ∷ []) (_ ∷ [])) b.stamps;
          started = p.1.started;
          rows = p.1.rows;
          up = p.1.up;
          tasks = ap tasks_of (sym (append_assoc es (_ ∷ []) (_ ∷ []))) ∙ b.tasks
              ∙ ap (open_tasks (mode_at c w.mode.0)) (sym none);
          runs = λ k. ap (λ (xs : List Event). has k (isrs_of xs)) (sym (append_assoc es (_ ∷ []) (_ ∷ []))) ∙ b.runs k;
          sized = p.1.sized;
          gates = p.1.gates;
        },
      )

  enable_facts : (row : EnableRow) → Leads P P Anything (enable row)
  unfolding enable
  enable_facts row w es p = (p.0, plain w es _ refl refl p)

  holds : (w : World) (es : List Event) (n : ℕ) → n ≡ length w.isrs_held
      → Facts c T T w.start w.mode.0 w.jobs w.isrs (length w.isrs_held) es
      → Facts c T T w.start w.mode.0 w.jobs w.isrs n es
  holds w es n e p = subst (λ (k : ℕ). Facts c T T w.start w.mode.0 w.jobs w.isrs k es) (sym e) p

  arrived_facts : (held : Bool) (source : Source) (w : World) (es : List Event) → P w es
      → LeadsTo P Anything es (arrived held source w)
  arrived_facts true source w es p = (p.0, plain w es _ refl refl p)
  arrived_facts false (IsrSource i) w es p =
      (p.0, holds w _ _ (length-set w.isrs_held i.0 true) (plain w es _ refl refl p))
  arrived_facts false (OisrSource i) w es p = (p.0, plain w es _ refl refl p)

  arrival_facts : (source : Source) → Leads P P Anything (arrival s source)
  unfolding arrival
  arrival_facts source w es p =
      cond_both (list_any (λ (tick : ℕ). tick == w.tick) (arrivals_of s source)) _ _ (LeadsTo P Anything es)
      (λ _. arrived_facts (is_held w source) source w es p) (λ _. still_leads P Anything es w p)

  -- an acceptance begins its routine
  accepted_facts : (i : IsrNo) (w : World) (es : List Event) → is_accepted w (IsrSource i) ≡ true → P w es
      → Facts c T T w.start w.mode.0 w.jobs (slice_set w.isrs i.0 (routine_of c (IsrSource i)))
      (length (slice_set w.isrs_held i.0 false)) (es ++ Accept w.tick (owner.Isr i) ∷ [])
  accepted_facts i w es a p =
      let t = p.0 in
      let f = p.1 in
      let body = routine_of c (IsrSource i) in
      let held : get_or w.isrs_held i.0 false ≡ true =
      both_left (is_held w (IsrSource i))
      (is_enabled w (IsrSource i) && is_done (left_of w (source_runner (IsrSource i)))) a in
      let g = f.gates in
      let within : i.0 < length c.isrs =
      ⊎_elim (λ (l : i.0 < length w.isrs_held). omega (arith, l, g))
      (λ (k : length w.isrs_held ≤ i.0). absurd (false≢true (sym (get_or_past w.isrs_held i.0 false k) ∙ held)))
      (cases_lt i.0 (length w.isrs_held)) in
      let z = f.sized in
      let here : i.0 < length w.isrs = omega arith in
      let new : is_done body ≡ false = some_undone body
      (All-get_or (IsIsr c) c.isrs i.0 no_isr within rules.isrs).routine.some in
      let low : Of (λ e. stamp_of e ≤ w.tick) es =
      each_of (λ e. stamp_of e ≤ T) (λ e. stamp_of e ≤ w.tick) (λ e l. omega arith) es f.stamps in
      record {
        stamps = all_more (λ e. stamp_of e ≤ T) es (Accept w.tick (owner.Isr i) ∷ []) f.stamps (omega arith, tt);
        started = f.started;
        rows = f.rows;
        up = f.up;
        tasks = tasks_accept es w.tick (owner.Isr i) ∙ f.tasks;
        runs = λ n.
            let said : has n (isrs_of (es ++ Accept w.tick (owner.Isr i) ∷ [])) ≡ (has n (isrs_of es) || (i.0 == n)) =
            ap (has n) (isrs_accept es w.tick i low) ∙ has_more n (isrs_of es) i in
            ⊎_elim
            (λ (e : i.0 ≡ n).
            let is : get_or (slice_set w.isrs i.0 body) n [] ≡ body =
            ap (λ (k : ℕ). get_or (slice_set w.isrs i.0 body) k []) (sym e)
            ∙ get_or-set_same w.isrs i.0 body [] here in
            said ∙ ap (λ (b : Bool). has n (isrs_of es) || b) (eq-eqb i.0 n e) ∙ or_right (has n (isrs_of es))
            ∙ sym (ap (λ (xs : List Stmt). not (is_done xs)) is ∙ ap not new))
            (λ (e : i.0 ≢ n).
            let is : get_or (slice_set w.isrs i.0 body) n [] ≡ get_or w.isrs n [] =
            get_or-set_other w.isrs i.0 n body [] (λ d. e (sym d)) in
            said ∙ ap (λ (b : Bool). has n (isrs_of es) || b) (ne_eqb i.0 n e) ∙ or_none (has n (isrs_of es)) ∙ f.runs n
            ∙ sym (ap (λ (xs : List Stmt). not (is_done xs)) is))
            (cases_eq i.0 n);
        sized = length-set w.isrs i.0 body ∙ f.sized;
        gates = length-set w.isrs_held i.0 false ∙ f.gates;
      }

  acceptance_facts : (source : Source) → Leads P P Anything (acceptance c source)
  unfolding acceptance
  acceptance_facts (IsrSource i) w es p =
      cond_both (is_accepted w (IsrSource i)) _ _ (LeadsTo P Anything es) (λ a. (p.0, accepted_facts i w es a p))
      (λ _. still_leads P Anything es w p)
  acceptance_facts (OisrSource i) w es p =
      cond_both (is_accepted w (OisrSource i)) _ _ (LeadsTo P Anything es) (λ _. (p.0, plain w es _ refl refl p))
      (λ _. still_leads P Anything es w p)

  -- a later instant
  later : (w : World) (es : List Event) → P w es → FactsOf c T (T + 1) w es
  later w es p =
      let f = p.1 in (
        p.0,
        record {
          stamps = f.stamps;
          started = f.started;
          rows = λ k l. let h = f.rows k l in let r = h.1 in
              (h.0, omega arith);
          up = f.up;
          tasks = f.tasks;
          runs = f.runs;
          sized = f.sized;
          gates = f.gates;
        },
      )

  row_task : (number entry : ℕ) → entry < length (mode_at c number).activations
      → is_done (body_of c (row_of (mode_at c number) entry).task) ≡ false
  row_task number entry l =
      let row = row_of (mode_at c number) entry in
      let h = list_all_get (is_activation c) (mode_at c number).activations entry no_row
      (mode_rows c number rules).activations l in
      let within = ltb-true row.task.0 (length c.tasks)
      (both_left (nat_lt row.task.0 (length c.tasks))
      (nat_lt row.offset row.deadline && nat_le row.deadline (c.round - c.adjust)) h) in
      some_undone (body_of c row.task) (All-get_or
      (IsTask c) c.tasks row.task.0 no_task within rules.tasks).routine.some

  activated_facts : (found : Option ℕ) (w : World) (es : List Event)
      → entry_at (offset_of w) (mode_of c w).activations ≡ found → P w es
      → LeadsTo (FactsOf c T (T + 1)) Anything es (activated c found w)
  activated_facts None w es e p = still_leads (FactsOf c T (T + 1)) Anything es w (later w es p)
  activated_facts (Some entry) w es e p =
      let t = p.0 in
      let f = p.1 in
      let mode = mode_of c w in
      let task = (row_of mode entry).task in
      let y : Job = record { entry = entry; left = body_of c task } in
      let xs = w.jobs in
      let found = row_found (offset_of w) entry mode e in
      let here = found.1 in
      let started = f.started in
      let n = length-append xs (y ∷ []) in
      let low : Of (λ d. stamp_of d ≤ w.tick) es =
      each_of (λ d. stamp_of d ≤ T) (λ d. stamp_of d ≤ w.tick) (λ d l. omega arith) es f.stamps in
      let new : open_task mode y ≡ task ∷ [] =
      ap (λ (b : Bool). cond b [] (task ∷ [])) (row_task w.mode.0 entry found.0) in
      let last : job_at (xs ++ y ∷ []) (length xs) ≡ y = get_or-append_seam xs y [] no_job in (
        p.0,
        record {
          stamps = all_more (λ e. stamp_of e ≤ T) es (Activate w.tick task ∷ []) f.stamps (omega arith, tt);
          started = f.started;
          rows = λ k l.
              ⊎_elim
              (λ (old : IsOldPlace xs y k). subst
              (λ (x : Job). (x.entry < length mode.activations) × (w.start + (row_of mode x.entry).offset < T + 1))
              (sym old.1) (let h = f.rows k old.0 in let r = h.1 in (h.0, omega arith)))
              (λ (fresh : IsNewPlace xs y k). subst
              (λ (x : Job). (x.entry < length mode.activations) × (w.start + (row_of mode x.entry).offset < T + 1))
              (sym fresh.1) (found.0, omega arith))
              (place_of_more xs y k l);
          up = λ i j k l.
              ⊎_elim
              (λ (old : IsOldPlace xs y j).
              let first = get_or-append xs (y ∷ []) no_job i (let o = old.0 in omega arith) in
              subst (λ (x : Job). (row_of mode x.entry).offset < (row_of mode (job_at (xs ++ y ∷ []) j).entry).offset)
              (sym first)
              (subst (λ (x : Job). (row_of mode (job_at xs i).entry).offset < (row_of mode x.entry).offset) (sym old.1)
              (f.up i j k old.0)))
              (λ (fresh : IsNewPlace xs y j).
              let z = fresh.0 in
              let before : i < length xs = omega arith in
              let first = get_or-append xs (y ∷ []) no_job i before in
              subst (λ (x : Job). (row_of mode x.entry).offset < (row_of mode (job_at (xs ++ y ∷ []) j).entry).offset)
              (sym first)
              (subst (λ (x : Job). (row_of mode (job_at xs i).entry).offset < (row_of mode x.entry).offset)
              (sym fresh.1) (let h = (f.rows i before).1 in omega arith)))
              (place_of_more xs y j l);
          tasks = tasks_activate es w.tick task low ∙ ap (λ (ys : List TaskNo). ys ++ task ∷ []) f.tasks
              ∙ sym (flat_map-append (open_task mode) xs (y ∷ [])
              ∙ ap (λ (ys : List TaskNo). open_tasks mode xs ++ (ys ++ [])) new);
          runs = λ k. ap (has k) (isrs_activate es w.tick task) ∙ f.runs k;
          sized = f.sized;
          gates = f.gates;
        },
      )

  abbrev FactsAt : Phase → OfRun
  FactsAt Activated = FactsOf c T (T + 1)
  FactsAt phase = FactsOf c T T

  opening_keeps : OpeningKeeps c s FactsAt Anything
  unfolding checks enables arrivals acceptances activation
  opening_keeps = record {
    head_is = head_facts;
    latch_is = latch_facts;
    round_end_is = round_end_facts;
    checks_are = λ w es p. monitored_facts (is_at (offset_of w)) w es p;
    enables_are = λ w es p. chain_each P Anything enable
        (enables_at (offset_of w) (mode_of c w).enables) enable_facts w es p;
    arrivals_are = chain_each P Anything (arrival s) (sources c) arrival_facts;
    acceptances_are = chain_each P Anything (acceptance c) (sources c) acceptance_facts;
    activation_is = λ w es p. activated_facts _ w es refl p;
  }

  pub opening_facts : (w : World) (es : List Event) → FactsOf c T T w es
      → LeadsTo (FactsOf c T (T + 1)) Anything es (opening c s w)
  opening_facts w es p = opening_leads c s FactsAt Anything opening_keeps w es p
