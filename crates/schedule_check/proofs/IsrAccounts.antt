-- The ticks of one time-triggered routine in any consecutive instants.
use Rattle.std.proofs.Common.{ℕ, ◌≡◌, ◌≢◌, ◌<◌, ◌≤◌, ◌+◌, ◌*◌, List, [], ◌∷◌, ◌++◌, Bool, true, false, refl, ap, sym, ◌∙◌, subst, cond, arith, length, ◌⊎◌, ⊎_elim, get_or, set, get_or-set_same, get_or-set_other}
use Rattle.std.specs.Prelude.{count_by}
use Rattle.std.proofs.Math.Nat.{mul-add, mul-le-mul_left}
use Rattle.std.proofs.lemmas.List.{length-set}
use Rattle.std.proofs.lemmas.List.Sums.{sum_by-append}
use Rattle.std.proofs.lemmas.List.Elements.{All-get_or}
use Rattle.std.proofs.lemmas.Bool.{false≢true}
use Rattle.tt_base.specs.declared.event.Event.{Event}
use Rattle.tt_base.specs.declared.number.IsrNo.{IsrNo}
use Rattle.task_lang.specs.declared.syntax.Stmt.{Stmt}
use Rattle.task_lang.specs.Limits.{AreNumbersInRange}
use Rattle.task_lang.specs.Tick.{supply_of, state_of}
use Rattle.task_lang.specs.TickLaws.{KeepsMost}
use Rattle.task_lang.specs.Worst.{worst_in}
use Rattle.task_lang.proofs.Ticking.{lowers_worst, keeps_numbers, keeps_most}
use Rattle.tt_world.specs.declared.config.ConfigParts.{ConfigParts}
use Rattle.tt_world.specs.declared.script.ScriptParts.{ScriptParts}
use Rattle.tt_world.specs.declared.world.Runner.TheVariants as runner
use Rattle.tt_world.specs.World.{World}
use Rattle.tt_world.specs.ConfigRules.{IsConfig, IsIsr}
use Rattle.tt_world.specs.Runners.{is_done}
use Rattle.tt_world.specs.Rows.{no_isr}
use Rattle.tt_world.specs.Step.{state_after}
use Rattle.schedule_check.specs.Demand.{isr_of}
use Rattle.schedule_check.specs.Kept.{KeepsBounds}
use Rattle.schedule_check.specs.DeadlineLaws.{is_enable}
use Rattle.tt_world.proofs.Keeps.{IsOsek, IsLeftAfter}

-- ---- the account

abbrev pub enables_of : ℕ → List Event → ℕ
enables_of isr es = count_by (is_enable isr) es

pub count_more : (p : Event → Bool) (es fs : List Event) → count_by p (es ++ fs) ≡ count_by p es + count_by p fs
count_more p es fs = sum_by-append (λ x. cond (p x) 1 0) es fs

-- the account of a routine, by its flags and what is left of it, after t ticks, e enables and a arrivals
pub record Account (c : ConfigParts) (isr t e a : ℕ) (enabled held : List Bool) (isrs : List (List Stmt)) : Type 0 where
  pub gate : isr < length enabled
  pub hold : isr < length held
  pub has : isr < length isrs
  pub numbers : AreNumbersInRange (get_or isrs isr [])
  pub small : worst_in c.demands (get_or isrs isr []) ≤ (isr_of c isr).budget
  pub by_enables : t + (worst_in c.demands (get_or isrs isr []) + cond (get_or enabled isr false)
      (isr_of c isr).budget 0) ≤ (isr_of c isr).budget * (2 + e)
  pub by_arrivals : t + (worst_in c.demands (get_or isrs isr []) + cond (get_or held isr false) (isr_of c isr).budget 0)
      ≤ (isr_of c isr).budget * (2 + a)

once_more : (b n : ℕ) → b * (2 + (n + 1)) ≡ b * (2 + n) + b
once_more b n = let h = mul-add b (2 + n) 1 in let z : 2 + (n + 1) ≡ (2 + n) + 1 = omega arith in rw z (omega arith)

pub more_times : (b n m : ℕ) → n ≤ m → b * (2 + n) ≤ b * (2 + m)
more_times b n m l = mul-le-mul_left b (omega arith)

pub cond_within : (b : Bool) (n : ℕ) → cond b n 0 ≤ n
cond_within true n = omega arith
cond_within false n = omega arith

module _ (c : ConfigParts) (isr : ℕ) where
  -- more enables and arrivals
  pub account_more : (t e a d b : ℕ) (enabled held : List Bool) (isrs : List (List Stmt)) → e ≤ d → a ≤ b
      → Account c isr t e a enabled held isrs → Account c isr t d b enabled held isrs
  account_more t e a d b enabled held isrs l m k =
      let x = more_times (isr_of c isr).budget e d l in
      let y = more_times (isr_of c isr).budget a b m in
      let p = k.by_enables in
      let q = k.by_arrivals in
      record {
        gate = k.gate;
        hold = k.hold;
        has = k.has;
        numbers = k.numbers;
        small = k.small;
        by_enables =
            omega arith;
        by_arrivals = omega arith;
      }

  -- an enable of this source
  pub account_enabled : (t e a : ℕ) (enabled held : List Bool) (isrs : List (List Stmt))
      → Account c isr t e a enabled held isrs → Account c isr t (e + 1) a (set enabled isr true) held isrs
  account_enabled t e a enabled held isrs k =
      let x = once_more (isr_of c isr).budget e in
      let p = k.by_enables in
      let now = cond_within (get_or enabled isr false) (isr_of c isr).budget in
      record {
        gate = let n = length-set enabled isr true in let g = k.gate in omega arith;
        hold = k.hold;
        has = k.has;
        numbers = k.numbers;
        small = k.small;
        by_enables = rw (get_or-set_same enabled isr true false k.gate) (omega arith);
        by_arrivals = k.by_arrivals;
      }

  -- an arrival at this source, where none is held
  pub account_arrived : (t e a : ℕ) (enabled held : List Bool) (isrs : List (List Stmt))
      → Account c isr t e a enabled held isrs → Account c isr t e (a + 1) enabled (set held isr true) isrs
  account_arrived t e a enabled held isrs k =
      let x = once_more (isr_of c isr).budget a in
      let p = k.by_arrivals in
      record {
        gate = k.gate;
        hold = let n = length-set held isr true in let g = k.hold in omega arith;
        has = k.has;
        numbers = k.numbers;
        small = k.small;
        by_enables = k.by_enables;
        by_arrivals = rw (get_or-set_same held isr true false k.hold) (omega arith);
      }

  -- the flags of another source
  pub account_other : (t e a j : ℕ) (x y : Bool) (enabled held : List Bool) (isrs : List (List Stmt)) → isr ≢ j
      → Account c isr t e a enabled held isrs → Account c isr t e a (set enabled j x) (set held j y) isrs
  account_other t e a j x y enabled held isrs ne k =
      record {
        gate = let n = length-set enabled j x in let g = k.gate in omega arith;
        hold = let n = length-set held j y in let g = k.hold in omega arith;
        has = k.has;
        numbers = k.numbers;
        small = k.small;
        by_enables = rw (get_or-set_other enabled j isr x false ne) k.by_enables;
        by_arrivals = rw (get_or-set_other held j isr y false ne) k.by_arrivals;
      }

pub account_enabled_other : (c : ConfigParts) (isr t e a j : ℕ) (x : Bool) (enabled held : List Bool)
    (isrs : List (List Stmt)) → isr ≢ j → Account c isr t e a enabled held isrs
    → Account c isr t e a (set enabled j x) held isrs
account_enabled_other c isr t e a j x enabled held isrs ne k =
    record {
      gate = let n = length-set enabled j x in let g = k.gate in omega arith;
      hold = k.hold;
      has = k.has;
      numbers = k.numbers;
      small = k.small;
      by_enables = rw (get_or-set_other enabled j isr x false ne) k.by_enables;
      by_arrivals = k.by_arrivals;
    }

pub account_held_other : (c : ConfigParts) (isr t e a j : ℕ) (y : Bool) (enabled held : List Bool)
    (isrs : List (List Stmt)) → isr ≢ j → Account c isr t e a enabled held isrs
    → Account c isr t e a enabled (set held j y) isrs
account_held_other c isr t e a j y enabled held isrs ne k =
    record {
      gate = k.gate;
      hold = let n = length-set held j y in let g = k.hold in omega arith;
      has = k.has;
      numbers = k.numbers;
      small = k.small;
      by_enables = k.by_enables;
      by_arrivals = rw (get_or-set_other held j isr y false ne) k.by_arrivals;
    }

none_left : (c : ConfigParts) (left : List Stmt) → is_done left ≡ true → worst_in c.demands left ≡ 0
none_left c [] e = refl
none_left c (x ∷ xs) e = cc

some_left : (left : List Stmt) → is_done left ≡ false → left ≢ []
some_left left e f = false≢true (sym e ∙ ap is_done f)

module _ (c : ConfigParts) (s : ScriptParts) (rules : IsConfig c) (bounds : KeepsBounds c s) (isr : ℕ)
    (within : isr < length c.isrs) where
  routine : IsIsr c (isr_of c isr)
  routine = All-get_or (IsIsr c) c.isrs isr no_isr within rules.isrs

  keeps : KeepsMost (supply_of c.demands s.values)
  keeps = keeps_most (supply_of c.demands s.values) rules.usuals bounds.values

  -- an acceptance
  pub account_accepted : (t e a : ℕ) (enabled held : List Bool) (isrs : List (List Stmt)) → get_or held isr false ≡ true
      → get_or enabled isr false ≡ true → is_done (get_or isrs isr []) ≡ true → Account c isr t e a enabled held isrs
      → Account c isr t e a (set enabled isr false) (set held isr false) (set isrs isr (isr_of c isr).body)
  account_accepted t e a enabled held isrs h g d k =
      let none = none_left c (get_or isrs isr []) d in
      let worst = routine.routine.worst in
      let gate : cond (get_or enabled isr false) (isr_of c isr).budget 0 ≡ (isr_of c isr).budget =
      ap (λ b. cond b (isr_of c isr).budget 0) g in
      let hold : cond (get_or held isr false) (isr_of c isr).budget 0 ≡ (isr_of c isr).budget =
      ap (λ b. cond b (isr_of c isr).budget 0) h in
      let p = k.by_enables in
      let q = k.by_arrivals in
      record {
        gate = let n = length-set enabled isr false in let l = k.gate in omega arith;
        hold = let n = length-set held isr false in let l = k.hold in omega arith;
        has = let n = length-set isrs isr (isr_of c isr).body in let l = k.has in omega arith;
        numbers = rw (get_or-set_same isrs isr (isr_of c isr).body [] k.has) routine.routine.is_body.numbers;
        small = rw (get_or-set_same isrs isr (isr_of c isr).body [] k.has) (omega arith);
        by_enables =
            rw (get_or-set_same isrs isr (isr_of c isr).body [] k.has, get_or-set_same enabled isr false false k.gate)
            (omega arith);
        by_arrivals =
            rw (get_or-set_same isrs isr (isr_of c isr).body [] k.has, get_or-set_same held isr false false k.hold)
            (omega arith);
      }

  -- what is left of another routine
  pub account_left_other : (t e a j : ℕ) (left : List Stmt) (enabled held : List Bool) (isrs : List (List Stmt))
      → isr ≢ j → Account c isr t e a enabled held isrs → Account c isr t e a enabled held (set isrs j left)
  account_left_other t e a j left enabled held isrs ne k =
      record {
        gate = k.gate;
        hold = k.hold;
        has = let n = length-set isrs j left in let l = k.has in omega arith;
        numbers = rw (get_or-set_other isrs j isr left [] ne) k.numbers;
        small = rw (get_or-set_other isrs j isr left [] ne) k.small;
        by_enables = rw (get_or-set_other isrs j isr left [] ne) k.by_enables;
        by_arrivals = rw (get_or-set_other isrs j isr left [] ne) k.by_arrivals;
      }

  -- a tick of the routine
  pub account_tick : (t e a : ℕ) (left : List Stmt) (enabled held : List Bool) (isrs : List (List Stmt))
      → AreNumbersInRange left → worst_in c.demands left + 1 ≤ worst_in c.demands (get_or isrs isr [])
      → Account c isr t e a enabled held isrs → Account c isr (t + 1) e a enabled held (set isrs isr left)
  account_tick t e a left enabled held isrs numbers less k =
      let p = k.by_enables in
      let q = k.by_arrivals in
      record {
        gate = k.gate;
        hold = k.hold;
        has = let n = length-set isrs isr left in let l = k.has in omega arith;
        numbers = rw (get_or-set_same isrs isr left [] k.has) numbers;
        small = rw (get_or-set_same isrs isr left [] k.has) (let x = k.small in omega arith);
        by_enables = rw (get_or-set_same isrs isr left [] k.has) (omega arith);
        by_arrivals = rw (get_or-set_same isrs isr left [] k.has) (omega arith);
      }

  -- what a tick leaves of the routine
  pub left_less : (w : World) (number : IsrNo) (after : List Stmt) → number.0 ≡ isr
      → is_done (get_or w.isrs isr []) ≡ false → AreNumbersInRange (get_or w.isrs isr [])
      → IsLeftAfter c s w (runner.Isr number) after
      → AreNumbersInRange after × (worst_in c.demands after + 1 ≤ worst_in c.demands (get_or w.isrs isr []))
  left_less w number after same u numbers l =
      let old = get_or w.isrs isr [] in
      let at : get_or w.isrs number.0 [] ≡ old = ap (λ n. get_or w.isrs n []) same in
      let state = state_of old w.vars w.cursors [] in
      let supply = supply_of c.demands s.values in
      let lower = lowers_worst supply state keeps numbers (some_left old u) in
      let range = keeps_numbers supply state keeps rules.mosts numbers in
      ⊎_elim
      (λ (e : after ≡ (state_after c s w (get_or w.isrs number.0 [])).left).
      let f : after ≡ (state_after c s w old).left = e ∙ ap (λ left. (state_after c s w left).left) at in (
        subst AreNumbersInRange (sym f) range,
        subst
            (λ (x : List Stmt). worst_in c.demands x + 1 ≤ worst_in c.demands old) (sym f) lower,
      ))
      (λ (o : (after ≡ []) ⊎ IsOsek (runner.Isr number)).
      ⊎_elim
      (λ (e : after ≡ []). (
        subst AreNumbersInRange (sym e) refl,
        subst
            (λ (x : List Stmt). worst_in c.demands x + 1 ≤ worst_in c.demands old) (sym e) (omega arith),
      ))
      (λ (o : IsOsek (runner.Isr number)). cc) o)
      l
