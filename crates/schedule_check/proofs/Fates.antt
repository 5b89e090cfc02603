-- What becomes of each activation: it has ended by its deadline, or it is unfinished.
use Rattle.std.proofs.Common.{ℕ, ◌≡◌, ◌<◌, ◌≤◌, ◌+◌, List, [], ◌∷◌, ◌++◌, false, None, refl, ap, sym, ◌∙◌, subst, arith, length, ◌⊎◌, ⊎_elim, inl, inr, append_assoc}
use Rattle.std.proofs.lemmas.Bool.{false≢true}
use Rattle.tt_base.specs.declared.number.TaskNo.{TaskNo}
use Rattle.tt_base.specs.declared.event.Event.{Event}
use Rattle.tt_base.specs.declared.event.Event.TheVariants.{Activate, End}
use Rattle.tt_base.specs.declared.event.Owner.TheVariants as owner
use Rattle.tt_world.specs.declared.config.ConfigParts.{ConfigParts}
use Rattle.tt_world.specs.World.{World}
use Rattle.tt_world.specs.Rows.{mode_at, mode_of, row_of}
use Rattle.tt_world.specs.Runners.{job_at, is_done}
use Rattle.tt_world.specs.Readings.{RoundStart, round_of}
use Rattle.tt_world.specs.EventLaws.{is_activate}
use Rattle.schedule_check.specs.DeadlineLaws.{HasEnd}
use Rattle.tt_world.proofs.Emits.{Of}
use Rattle.tt_world.proofs.Through.{Through, last_round, last_round_more, through_more, through_each, or_round}
use Rattle.schedule_check.proofs.Unfinished.{Each}
use Rattle.schedule_check.proofs.Waiting.{IsEarly}
use Rattle.tt_world.proofs.Forward.{round_in, Forward}

-- ---- ends in a list

pub has_end_more : (es fs : List Event) (task : TaskNo) (from deadline : ℕ) → HasEnd es task from deadline
    → HasEnd (es ++ fs) task from deadline
has_end_more es fs task from deadline h = (
  h.0,
  h.1 ++ fs,
  h.2,
  ap (λ (xs : List Event). xs ++ fs) h.3
      ∙ append_assoc h.0 (End h.2 (owner.Task task) ∷ h.1) fs,
  h.4,
  h.5,
)

pub has_end_after : (es fs : List Event) (task : TaskNo) (from deadline : ℕ) → HasEnd fs task from deadline
    → HasEnd (es ++ fs) task from deadline
has_end_after es fs task from deadline h = (
  es ++ h.0,
  h.1,
  h.2,
  ap (λ (xs : List Event). es ++ xs) h.3
      ∙ sym (append_assoc es h.0 (End h.2 (owner.Task task) ∷ h.1)),
  h.4,
  h.5,
)

-- ---- what is said of an activation

-- the activation of an entry of a round is unfinished, and was begun up to tick T
pub record IsOpen (c : ConfigParts) (T : ℕ) (w : World) (round : RoundStart) (entry : ℕ) : Type 0 where
  pub start : w.start ≡ round.start
  pub mode : w.mode.0 ≡ round.mode.0
  pub begun : round.start + (row_of (mode_at c round.mode.0) entry).offset ≤ T
  pub place : ℕ
  pub within : place < length w.jobs
  pub undone : is_done (job_at w.jobs place).left ≡ false
  pub same : (job_at w.jobs place).entry ≡ entry

-- an Activate event of a round is that of a row, and P holds of the row's entry number
abbrev pub OfActivate : ConfigParts → (RoundStart → ℕ → Type 0) → RoundStart → Event → Type 0
OfActivate c P round e =
    (at : ℕ) (task : TaskNo) → e ≡ Activate at task
    → (entry : ℕ) × (entry < length (mode_at c round.mode.0).activations)
    × (at ≡ round.start + (row_of (mode_at c round.mode.0) entry).offset)
    × (task ≡ (row_of (mode_at c round.mode.0) entry).task) × P round entry

pub activate_each : (c : ConfigParts) (P Q : RoundStart → ℕ → Type 0)
    → ((round : RoundStart) (entry : ℕ) → P round entry → Q round entry) → (round : RoundStart) (e : Event)
    → OfActivate c P round e → OfActivate c Q round e
activate_each c P Q h round e p at task f = let k = p at task f in (k.0, k.1, k.2, k.3, h round k.0 k.4)

pub no_activate : (c : ConfigParts) (P : RoundStart → ℕ → Type 0) (round : RoundStart) (e : Event)
    → is_activate e ≡ false → OfActivate c P round e
no_activate c P round e n at task f = absurd (false≢true (sym n ∙ ap is_activate f))

abbrev pub HasEnded : ConfigParts → List Event → RoundStart → ℕ → Type 0
HasEnded c es round entry =
    let row = row_of (mode_at c round.mode.0) entry in
    HasEnd es row.task (round.start + row.offset) (round.start + row.deadline)

-- it has ended by its deadline, or is unfinished
abbrev pub Fate : ConfigParts → ℕ → World → List Event → RoundStart → ℕ → Type 0
Fate c T w es round entry = HasEnded c es round entry ⊎ IsOpen c T w round entry

-- it has ended by its deadline, if that was reached by tick T
abbrev pub Settled : ConfigParts → ℕ → List Event → RoundStart → ℕ → Type 0
Settled c T es round entry = round.start + (row_of (mode_at c round.mode.0) entry).deadline ≤ T
    → HasEnded c es round entry

-- the fates of the activations in the events up to a world, where the first round is this one
pub record Told (c : ConfigParts) (first : RoundStart) (T : ℕ) (w : World) (es : List Event) : Type 0 where
  pub fates : Through (OfActivate c (Fate c T w es)) first es
  pub now : last_round first es ≡ round_in w

-- ---- events that neither begin a round nor activate

abbrev pub IsQuiet : Event → Type 0
IsQuiet e = (round_of e ≡ None) × (is_activate e ≡ false)

pub quiet_round : (now : RoundStart) (fs : List Event) → Of IsQuiet fs → last_round now fs ≡ now
quiet_round now [] p = refl
quiet_round now (e ∷ fs) p = ap (λ o. last_round (or_round o now) fs) p.0.0 ∙ quiet_round now fs p.1

pub quiet_through : (c : ConfigParts) (P : RoundStart → ℕ → Type 0) (now : RoundStart) (fs : List Event) → Of IsQuiet fs
    → Through (OfActivate c P) now fs
quiet_through c P now [] p = tt
quiet_through c P now (e ∷ fs) p = (no_activate c P now e p.0.1, quiet_through c P (or_round (round_of e) now) fs p.1)

module _ (c : ConfigParts) (first : RoundStart) (T : ℕ) where
  -- what becomes of an unfinished activation
  open_forward : (at : ℕ) (w v : World) (es fs : List Event) → T ≤ at → Each c (IsEarly c T) T w → Forward c w v fs
      → (round : RoundStart) (entry : ℕ) → IsOpen c T w round entry → Fate c at v (es ++ fs) round entry
  open_forward at w v es fs more early f round entry o =
      let ahead = early.each o.place o.within o.undone in
      let t = early.tick in
      let begun = o.begun in
      ⊎_elim
      (λ (stays : (o.place < length v.jobs) × ((is_done (job_at v.jobs o.place).left ≡ false)
      × ((job_at v.jobs o.place).entry ≡ (job_at w.jobs o.place).entry))).
      inr
      (record {
        start = f.start ∙ o.start;
        mode = ap (λ mode. mode.0) f.mode ∙ o.mode;
        begun = omega arith;
        place =
            o.place;
        within = stays.0;
        undone = stays.1.0;
        same = stays.1.1 ∙ o.same;
      }))
      (λ (ends : (before : List Event) × (fs ≡ before ++ End (w.tick + 1)
      (owner.Task (row_of (mode_of c w) (job_at w.jobs o.place).entry).task) ∷ [])).
      let row = row_of (mode_at c round.mode.0) entry in
      let row_is : row_of (mode_of c w) (job_at w.jobs o.place).entry ≡ row =
      ap (λ (n : ℕ). row_of (mode_at c n) (job_at w.jobs o.place).entry) o.mode
      ∙ ap (row_of (mode_at c round.mode.0)) o.same in
      let dead : T < round.start + row.deadline =
      subst (λ (x : ℕ). T < x + row.deadline) o.start (subst (λ r. T < w.start + r.deadline) row_is ahead) in
      let is : fs ≡ ends.0 ++ End (T + 1) (owner.Task row.task) ∷ [] =
      subst (λ (x : ℕ). fs ≡ ends.0 ++ End (x + 1) (owner.Task row.task) ∷ []) t
      (subst (λ r. fs ≡ ends.0 ++ End (w.tick + 1) (owner.Task r.task) ∷ []) row_is ends.1) in
      inl (has_end_after es fs row.task (round.start + row.offset) (round.start + row.deadline)
      (ends.0, [], T + 1, is, omega arith, omega arith)))
      (f.each o.place o.within o.undone)

  pub fate_forward : (at : ℕ) (w v : World) (es fs : List Event) → T ≤ at → Each c (IsEarly c T) T w → Forward c w v fs
      → (round : RoundStart) (entry : ℕ) → Fate c T w es round entry → Fate c at v (es ++ fs) round entry
  fate_forward at w v es fs more early f round entry p =
      ⊎_elim
      (λ (h : HasEnded c es round entry). inl
      (let row = row_of (mode_at c round.mode.0) entry in
      has_end_more es fs row.task (round.start + row.offset) (round.start + row.deadline) h))
      (λ (o : IsOpen c T w round entry). open_forward at w v es fs more early f round entry o) p

  pub told_forward : (at : ℕ) (w v : World) (es fs : List Event) → T ≤ at → Each c (IsEarly c T) T w → Forward c w v fs
      → Of IsQuiet fs → Told c first T w es → Told c first at v (es ++ fs)
  told_forward at w v es fs more early f quiet p =
      record {
        fates =
            through_more (OfActivate c (Fate c at v (es ++ fs))) first es fs
            (through_each (OfActivate c (Fate c T w es)) (OfActivate c (Fate c at v (es ++ fs)))
            (activate_each c (Fate c T w es) (Fate c at v (es ++ fs))
            (λ round entry q. fate_forward at w v es fs more early f round entry q)) first es p.fates)
            (quiet_through c (Fate c at v (es ++ fs)) (last_round first es) fs quiet);
        now = last_round_more first es fs ∙ quiet_round (last_round first es) fs quiet ∙ p.now ∙ same_round;
      }
    where
      same_round : round_in w ≡ round_in v
      same_round = sym (ap (λ x. record { start = x; mode = v.mode }) f.start
          ∙ ap (λ m. record { start = w.start; mode = m }) f.mode)

  -- where the run ends at tick T
  pub settled_over : (w : World) (es fs : List Event) → Each c (IsEarly c T) T w → Of IsQuiet fs → Told c first T w es
      → Through (OfActivate c (Settled c T (es ++ fs))) first (es ++ fs)
  settled_over w es fs early quiet p =
      through_more (OfActivate c (Settled c T (es ++ fs))) first es fs
      (through_each (OfActivate c (Fate c T w es)) (OfActivate c (Settled c T (es ++ fs)))
      (activate_each c (Fate c T w es) (Settled c T (es ++ fs)) settle) first es p.fates)
      (quiet_through c (Settled c T (es ++ fs)) (last_round first es) fs quiet)
    where
      settle : (round : RoundStart) (entry : ℕ) → Fate c T w es round entry → Settled c T (es ++ fs) round entry
      settle round entry q reached =
          let row = row_of (mode_at c round.mode.0) entry in
          ⊎_elim (λ (h : HasEnded c es round entry). has_end_more es fs row.task (round.start + row.offset)
          (round.start + row.deadline) h)
          (λ (o : IsOpen c T w round entry).
          let ahead = early.each o.place o.within o.undone in
          let row_is : row_of (mode_of c w) (job_at w.jobs o.place).entry ≡ row =
          ap (λ (n : ℕ). row_of (mode_at c n) (job_at w.jobs o.place).entry) o.mode
          ∙ ap (row_of (mode_at c round.mode.0)) o.same in
          let dead : T < round.start + row.deadline =
          subst (λ (x : ℕ). T < x + row.deadline) o.start (subst (λ r. T < w.start + r.deadline) row_is ahead) in
          absurd (omega arith))
          q
