-- The opening of an instant at which nothing is due: only acceptances can change anything there.
use Rattle.std.proofs.Common.{ℕ, suc, ◌≡◌, ◌<◌, ◌-◌, List, [], ◌∷◌, ◌++◌, Bool, true, false, Option, None, Some, refl, ap, ◌∙◌, arith, length, append-nil}
use Rattle.std.specs.Prelude.{map}
use Rattle.std.proofs.lemmas.Bool.{cond-false, false_from_ne_true, eqb-true}
use Rattle.tt_base.specs.declared.event.Event.TheVariants.{Activate}
use Rattle.tt_world.specs.declared.config.Enable.{Enable}
use Rattle.tt_world.specs.declared.config.ModeDef.{ModeDef}
use Rattle.tt_world.specs.declared.config.ConfigParts.{ConfigParts}
use Rattle.tt_world.specs.declared.script.ScriptParts.{ScriptParts}
use Rattle.tt_world.specs.declared.world.Point.{Point}
use Rattle.tt_world.specs.World.{World, Job}
use Rattle.tt_world.specs.Correction.{is_length}
use Rattle.tt_world.specs.Gates.{enable, enables, arrivals, acceptances}
use Rattle.tt_world.specs.Monitoring.{Checked, is_at, checked, check_if, check_then, after_checks, monitored}
use Rattle.tt_world.specs.Moved.{Moved, goes_on, preceded, is_over, continued, followed, chain}
use Rattle.tt_world.specs.Opening.{checks, activated, activation, due, opening}
use Rattle.tt_world.specs.Points.{point_of}
use Rattle.tt_world.specs.Rounds.{latch, round_end}
use Rattle.tt_world.specs.Rows.{offset_of, mode_of, row_of, entry_at, enables_at, body_of}
use Rattle.tt_world.specs.Runners.{job_at, is_done}
use Rattle.tt_world.proofs.Moves.{going_from}
use Rattle.tt_world.proofs.Parts.{by_end}
use Rattle.tt_world.proofs.Keeps.{Holds, monitored_holds, IgnoresGates, enables_hold, arrivals_hold, acceptances_hold}

-- ---- what is due at an instant, by its offset and mode at the start

-- the enables at an offset of a mode
abbrev pub enables_from : ℕ → ModeDef → World → Moved
enables_from offset mode = chain (map enable (enables_at offset mode.enables))

-- a row of a mode activates its task with the whole body
abbrev pub activated_in : ConfigParts → ModeDef → Option ℕ → World → Moved
activated_in c mode None w = goes_on w []
activated_in c mode (Some entry) w =
    let task = (row_of mode entry).task in
    goes_on (record w { jobs = w.jobs ++ record { entry = entry; left = body_of c task } ∷ [] })
    (Activate w.tick task ∷ [])

-- what is due at an offset of a mode, and at the present tick
abbrev pub due_from : ConfigParts → ScriptParts → ℕ → ModeDef → List (World → Moved)
due_from c s offset mode =
    monitored c (is_at offset)
    ∷ enables_from offset mode
    ∷ arrivals c s
    ∷ acceptances c
    ∷ activated_in c mode (entry_at offset mode.activations)
    ∷ []

-- ---- parts

continued_same : (over : Bool) (P : World → Type 0) (m : Moved) (f g : World → Moved)
    → by_end over (P m.world) (Unit {0})
    → ((v : World) → P v → f v ≡ g v) → continued over m f ≡ continued over m g
continued_same false P m f g p e = ap (preceded m.events) (e m.world p)
continued_same true P m f g p e = refl

-- two next parts are alike where they are alike in each world that they can begin with
followed_same : (P : World → Type 0) (m : Moved) (f g : World → Moved) → Holds P [] m
    → ((v : World) → P v → f v ≡ g v) → followed m f ≡ followed m g
unfolding followed
followed_same P m f g h e = continued_same (is_over m.end) P m f g h e

-- a part that does nothing
skip : (part : World → Moved) (parts : List (World → Moved)) (w : World) → part w ≡ goes_on w []
    → chain (part ∷ parts) w ≡ chain parts w
unfolding chain followed
skip part parts w e = ap (λ m. followed m (chain parts)) e

continued_none : (over : Bool) (m : Moved) → is_over m.end ≡ over → continued over m (λ v. goes_on v []) ≡ m
continued_none true m e = refl
continued_none false m e =
    ap (λ es. record { world = m.world; events = es; end = None }) (append-nil m.events)
    ∙ ap (λ end. record { world = m.world; events = m.events; end = end }) (going_from m.end e)

module _ (c : ConfigParts) (s : ScriptParts) where
  -- ---- the offset and the mode stay

  record Clock (w v : World) : Type 0 where
    offset : offset_of v ≡ offset_of w
    mode : mode_of c v ≡ mode_of c w

  ignores : (w : World) → IgnoresGates (Clock w)
  ignores w v _ _ _ _ _ p = record { offset = p.offset; mode = p.mode }

  activated_is : (v : World) (found : Option ℕ) → activated c found v ≡ activated_in c (mode_of c v) found v
  activated_is v None = refl
  activated_is v (Some entry) = refl

  module _ (w : World) where
    activation_same : (v : World) → Clock w v
        → chain (activation c ∷ []) v
        ≡ chain (activated_in c (mode_of c w) (entry_at (offset_of w) (mode_of c w).activations) ∷ []) v
    unfolding chain activation
    activation_same v p =
        ap (λ m. followed m (chain [])) (activated_is v _)
        ∙ ap (λ (o : ℕ). followed (activated_in c (mode_of c v) (entry_at o (mode_of c v).activations) v) (chain []))
        p.offset
        ∙ ap (λ (m : ModeDef). followed (activated_in c m (entry_at (offset_of w) m.activations) v) (chain [])) p.mode

    accepted_same : (v : World) → Clock w v
        → chain (acceptances c ∷ activation c ∷ []) v
        ≡ chain (acceptances c ∷ activated_in c (mode_of c w) (entry_at (offset_of w) (mode_of c w).activations) ∷ []) v
    unfolding chain
    accepted_same v p = followed_same (Clock w) (acceptances c v) _ _
        (acceptances_hold (Clock w) (ignores w) c v [] p) activation_same

    arrived_same : (v : World) → Clock w v
        → chain (arrivals c s ∷ acceptances c ∷ activation c ∷ []) v
        ≡ chain (arrivals c s ∷ acceptances c ∷ activated_in c (mode_of c w)
        (entry_at (offset_of w) (mode_of c w).activations) ∷ []) v
    unfolding chain
    arrived_same v p = followed_same (Clock w) (arrivals c s v) _ _
        (arrivals_hold (Clock w) (ignores w) c s v [] p) accepted_same

    enables_are : (v : World) → Clock w v → enables c v ≡ enables_from (offset_of w) (mode_of c w) v
    unfolding enables
    enables_are v p =
        ap (λ (o : ℕ). enables_from o (mode_of c v) v) p.offset
        ∙ ap (λ (m : ModeDef). enables_from (offset_of w) m v) p.mode

    enabled_same : (v : World) → Clock w v
        → chain (enables c ∷ arrivals c s ∷ acceptances c ∷ activation c ∷ []) v
        ≡ chain (enables_from (offset_of w) (mode_of c w) ∷ arrivals c s ∷ acceptances c ∷ activated_in c
        (mode_of c w) (entry_at (offset_of w) (mode_of c w).activations) ∷ []) v
    unfolding chain
    enabled_same v p =
        followed_same (Clock w) (enables c v) _
        (chain (arrivals c s ∷ acceptances c ∷ activated_in c (mode_of c w)
        (entry_at (offset_of w) (mode_of c w).activations) ∷ []))
        (enables_hold (Clock w) (ignores w) c v [] p) arrived_same
        ∙ ap (λ m. followed m (chain
        (arrivals c s ∷ acceptances c ∷ activated_in c (mode_of c w)
        (entry_at (offset_of w) (mode_of c w).activations) ∷ []))) (enables_are v p)

    -- what is due is what is due at the offset and in the mode at which the parts begin
    pub due_same : chain (due c s) w ≡ chain (due_from c s (offset_of w) (mode_of c w)) w
    unfolding chain checks
    due_same =
        followed_same (Clock w) (monitored c (is_at (offset_of w)) w) _ _
        (monitored_holds (Clock w) c (is_at (offset_of w)) w [] (λ _. record { offset = refl; mode = refl }))
        enabled_same

-- ---- nothing is due

-- no job of a list has its point where checks are due
none_checked : (at : ℕ) (mode : ModeDef) (is_due : Point → Bool) (xs : List Job)
    → ((place : ℕ) → place < length xs → is_due (point_of mode (row_of mode (job_at xs place).entry)) ≡ false)
    → checked at mode is_due xs ≡ record { events = []; missed = None }
unfolding checked
none_checked at mode is_due [] e = refl
none_checked at mode is_due (x ∷ xs) e =
    let rest = checked at mode is_due xs in
    ap (λ b. check_if b (check_then at (row_of mode x.entry).task (is_done x.left) rest) rest) (e 0 (omega arith))
    ∙ none_checked at mode is_due xs (λ place l. e (suc place) (omega arith))

-- at this instant neither the head of the run nor the latch nor the round's end is due, and no row, point or arrival
pub record NothingDue (c : ConfigParts) (s : ScriptParts) (w : World) : Type 0 where
  pub begun : w.tick ≡ 0 → ⊥
  pub latched : offset_of w ≡ c.round - c.adjust → ⊥
  pub round : is_length w.latched (offset_of w) ≡ false
  pub checks : (place : ℕ) → place < length w.jobs
      → is_at (offset_of w) (point_of (mode_of c w) (row_of (mode_of c w) (job_at w.jobs place).entry)) ≡ false
  pub enables : enables_at (offset_of w) (mode_of c w).enables ≡ []
  pub arrivals : arrivals c s w ≡ goes_on w []
  pub activation : entry_at (offset_of w) (mode_of c w).activations ≡ None

module _ (c : ConfigParts) (s : ScriptParts) (w : World) (n : NothingDue c s w) where
  no_checks : monitored c (is_at (offset_of w)) w ≡ goes_on w []
  no_checks =
      ap (λ (all : Checked). after_checks c all.events all.missed w)
      (none_checked w.tick (mode_of c w) (is_at (offset_of w)) w.jobs n.checks)

  no_enables : enables_from (offset_of w) (mode_of c w) w ≡ goes_on w []
  unfolding chain
  no_enables = ap (λ (rows : List Enable). chain (map enable rows) w) n.enables

  no_latch : latch c w ≡ goes_on w []
  unfolding latch
  no_latch = cond-false _ _ _ (false_from_ne_true _ (λ e. n.latched (eqb-true _ _ e)))

  no_round_end : round_end c s w ≡ goes_on w []
  unfolding round_end
  no_round_end = cond-false _ _ _ n.round

  last_parts : chain (acceptances c ∷ activated_in c (mode_of c w) (entry_at (offset_of w) (mode_of c w).activations)
      ∷ []) w ≡ acceptances c w
  unfolding chain followed
  last_parts =
      ap (λ (found : Option ℕ). chain (acceptances c ∷ activated_in c (mode_of c w) found ∷ []) w) n.activation
      ∙ continued_none (is_over (acceptances c w).end) (acceptances c w) refl

  -- only the acceptances are left
  pub opening_accepts : opening c s w ≡ acceptances c w
  unfolding opening
  opening_accepts =
      cond-false _ _ _ (false_from_ne_true _ (λ e. n.begun (eqb-true _ _ e)))
      ∙ skip (latch c) _ w no_latch
      ∙ skip (round_end c s) _ w no_round_end
      ∙ due_same c s w
      ∙ skip (monitored c (is_at (offset_of w))) _ w no_checks
      ∙ skip (enables_from (offset_of w) (mode_of c w)) _ w no_enables
      ∙ skip (arrivals c s) _ w n.arrivals
      ∙ last_parts
