-- At the next due tick something is due, and it comes after the present one.
use Rattle.std.proofs.Common.{ℕ, suc, ◌≡◌, ◌<◌, ◌≤◌, ◌+◌, ◌-◌, List, [], ◌∷◌, Bool, true, false, Option, None, Some, refl, ap, sym, ◌∙◌, subst, arith, length, eqb, ◌⊎◌, inl, inr, ⊎_elim}
use Rattle.std.specs.Prelude.{IfSome, ◌||◌, ◌==◌, min, nat_le, not, slice_get, slice_index_or}
use Rattle.std.specs.List.{All, list_any}
use Rattle.std.specs.Option.{option_map}
use Rattle.std.proofs.lemmas.Bool.{both_ways, cases_Bool, cases_lt, cond-false, cond_both, eq-eqb, false_from_ne_true, or_parts, or_right}
use Rattle.std.proofs.lemmas.List.Elements.{All-cons, All-nil}
use Rattle.std.proofs.lemmas.List.Folds.{list_any_at}
use Rattle.tt_base.specs.declared.number.ModeNo.{ModeNo}
use Rattle.tt_world.specs.declared.config.ConfigParts.{ConfigParts}
use Rattle.tt_world.specs.declared.script.ScriptParts.{ScriptParts}
use Rattle.tt_world.specs.Correction.{is_length}
use Rattle.tt_world.specs.Gates.{arrivals_of, sources}
use Rattle.tt_world.specs.Moved.{Moved, goes_on}
use Rattle.tt_world.specs.Rounds.{latch}
use Rattle.tt_world.specs.Rows.{mode_of, offset_of}
use Rattle.tt_world.specs.World.{Source, World}
use Rattle.tt_world.proofs.Parts.{Begun}
use Rattle.tt_world.proofs.Time.{IsLength, Stands, Timed}
use Rattle.isr_window.specs.Played.{AreLeftFrom, AreSourcesOf, no_source, source_at}
use Rattle.isr_window.specs.Ticks.{ticks_from}
use Rattle.isr_window.specs.Window.{Window, is_next, least_next, left_at, next_tick}
use Rattle.isr_window.proofs.Arrivals.{each_next}
use Rattle.isr_window.proofs.Firsts.{IsFrom, both_from, from_each, is_after, is_from}
use Rattle.isr_window.proofs.Places.{isr_at, length-sources, oisr_at}
use Rattle.isr_window.proofs.TickLists.{first_from}
use Rattle.round_end.specs.Round.{next_own}
use Rattle.round_table.specs.declared.due.ExpiryPoint.{ExpiryPoint}
use Rattle.round_table.specs.DueRows.{due_at}
use Rattle.round_table.specs.ExpiryPoints.{expiry_at, expiry_below, expiry_points, is_free, next_after}
use Rattle.round_table.specs.TableRows.{TableRows}
use Rattle.round_table.proofs.Cursors.{if_found}
use Rattle.round_table.proofs.Laid.{all_below}
use Rattle.stack_dispatch.specs.Counts.{IsDueAt, is_arrival, is_due, is_latch, is_round_end}
use Rattle.stack_dispatch.specs.Served.{round_in}
use Rattle.stack_dispatch.specs.State.{RunState}
use Rattle.stack_dispatch.proofs.Foreseen.{own_is}

-- ---- arrivals

not_first : (now a : ℕ) (ticks : List ℕ) → list_any (λ (tick : ℕ). tick == a) ticks ≡ false
    → is_next a (ticks_from now ticks) ≡ false
not_first now a [] e = refl
not_first now a (tick ∷ rest) e =
    let both = or_parts (tick == a) (list_any (λ (other : ℕ). other == a) rest) e in
    cond_both (nat_le now tick) (tick ∷ rest) (ticks_from now rest) (λ (ts : List ℕ). is_next a ts ≡ false)
    (λ _. both.0) (λ _. not_first now a rest both.1)

none_there : {X : Type 0} (p : X → Bool) (xs : List X) (d : X) → list_any p xs ≡ false → (k : ℕ) → k < length xs
    → p (slice_index_or xs k d) ≡ false
none_there p xs d e k l =
    false_from_ne_true _ (λ there. both_ways (list_any p xs) e (list_any_at p xs k d l there))

-- where the next arrival at each source is not before a tick, the least of them is not
next_from : (c : ConfigParts) (now : ℕ) (g : Window) → AreSourcesOf c g
    → ((k : ℕ) → k < length (sources c) → IsFrom now (slice_get (left_at g (source_at c k)) 0))
    → IsFrom now (next_tick g)
next_from c now g are each =
    let all = length-sources c in
    both_from now (least_next g.isrs_left) (least_next g.oisrs_left)
    (from_each now g.isrs_left (λ k below.
    let same = are.isrs in
    let here : k < length c.isrs = omega arith in
    subst (λ (x : Source). IsFrom now (slice_get (left_at g x) 0)) (isr_at c k here) (each k (omega arith))))
    (from_each now g.oisrs_left (λ k below.
    let same = are.oisrs in
    let here : k < length c.oisrs = omega arith in
    subst (λ (x : Source). IsFrom now (slice_get (left_at g x) 0)) (oisr_at c k here)
    (each (length c.isrs + k) (omega arith))))

module _ (c : ConfigParts) (s : ScriptParts) (t : ℕ) (g : Window) (are : AreSourcesOf c g)
    (left : AreLeftFrom c s t g) (a : ℕ) (next : next_tick g ≡ Some a) where
  -- the next arrival is one of the script
  arrival_there : is_arrival c s a ≡ true
  arrival_there =
      ⊎_elim (λ (some : is_arrival c s a ≡ true). some)
      (λ (none : is_arrival c s a ≡ false).
      let from : IsFrom a (next_tick g) = subst (IsFrom a) (sym next) (omega arith) in
      let later : IsFrom (a + 1) (next_tick g) =
      next_from c (a + 1) g are (λ k below.
      is_after a (slice_get (left_at g (source_at c k)) 0) (each_next a g from (source_at c k))
      (ap (is_next a) (left.left k below)
      ∙ not_first t a (arrivals_of s (source_at c k))
      (none_there (λ (source : Source). list_any (λ (tick : ℕ). tick == a) (arrivals_of s source)) (sources c)
      no_source none k below))) in
      let past : a + 1 ≤ a = subst (IsFrom (a + 1)) next later in
      absurd (omega arith))
      (cases_Bool (is_arrival c s a))

  -- it is not before the tick from which the arrivals are left
  pub arrival_from : t ≤ a
  arrival_from = subst (IsFrom t) next
      (next_from c t g are (λ k below.
      is_from t (slice_get (left_at g (source_at c k)) 0)
      (λ first e. first_from t (arrivals_of s (source_at c k)) first
      (ap (λ (ticks : List ℕ). slice_get ticks 0) (sym (left.left k below)) ∙ e))))

  pub arrival_due : (w : World) → IsDueAt c s w a
  arrival_due w u tick start mode latched =
      let here : is_arrival c s u.tick ≡ true = ap (is_arrival c s) tick ∙ arrival_there in
      or_right (not (is_free (offset_of u) (mode_of c u))) _
      (ap (λ b. b || (is_latch c u || is_round_end c u)) here)

-- ---- rows

stands_there : (table : TableRows) (offset o : ℕ) → next_after offset table ≡ Some o → is_free o table.mode ≡ false
stands_there table offset o e = by_found (slice_get (expiry_points table) place)
    (if_found Stands-there (expiry_points table) place (slice_get (expiry_points table) place) refl points) e
  where
    place : ℕ
    place = length (expiry_below table (suc offset))

    Stands-there : ExpiryPoint → Type 0
    Stands-there p = is_free p.offset table.mode ≡ false

    points : All Stands-there (expiry_points table)
    points =
        all_below (expiry_at table) Stands-there
        (λ n. cond_both (is_free n table.mode) [] (record { offset = n; due = due_at n table } ∷ []) (All Stands-there)
        (λ _. All-nil Stands-there)
        (λ some. All-cons Stands-there (record { offset = n; due = due_at n table }) [] some (All-nil Stands-there)))
        (suc table.limit)

    by_found : (found : Option ExpiryPoint) → IfSome found Stands-there
        → option_map (λ (p : ExpiryPoint). p.offset) found ≡ Some o → is_free o table.mode ≡ false
    by_found None h f = cc
    by_found (Some p) h f = let same : p.offset ≡ o = cc in subst (λ n. is_free n table.mode ≡ false) same h

pub row_due : (c : ConfigParts) (s : ScriptParts) (w : World) (table : TableRows) (offset o next : ℕ)
    → table.mode ≡ mode_of c w → next_after offset table ≡ Some o → next ≡ w.start + o → IsDueAt c s w next
row_due c s w table offset o next same found is u tick start mode latched =
    let here : o ≡ offset_of u = omega arith in
    let free : is_free (offset_of u) (mode_of c u) ≡ false =
    ap (λ n. is_free n (mode_of c u)) (sym here)
    ∙ ap (λ (m : ModeNo). is_free o (mode_of c (record w { mode = m }))) mode
    ∙ ap (is_free o) (sym same) ∙ stands_there table offset o found in
    ap (λ b. not b || (is_arrival c s u.tick || (is_latch c u || is_round_end c u))) free

-- the tick of a row, unless it is past all ticks
pub row_or_most : (c : ConfigParts) (s : ScriptParts) (w : World) (table : TableRows) (offset o next most : ℕ)
    → table.mode ≡ mode_of c w → next_after offset table ≡ Some o → next ≡ min (w.start + o) most
    → IsDueAt c s w next ⊎ (most ≤ next)
row_or_most c s w table offset o next most same found is =
    ⊎_elim (λ (l : w.start + o < most). inl (row_due c s w table offset o next same found (omega (arith, is, l))))
    (λ (g : most ≤ w.start + o). inr (omega (arith, is, g))) (cases_lt (w.start + o) most)

-- ---- the latch and the round's end

module _ (c : ConfigParts) (s : ScriptParts) (u : World) where
  third : (is_latch c u || is_round_end c u) ≡ true → is_due c s u ≡ true
  third e = or_right (not (is_free (offset_of u) (mode_of c u))) _ (or_right (is_arrival c s u.tick) _ e)

  at_latch : is_latch c u ≡ true → is_due c s u ≡ true
  at_latch e = third (ap (λ b. b || is_round_end c u) e)

  no_latch : is_latch c u ≡ false → latch c u ≡ goes_on u []
  unfolding latch
  no_latch other = cond-false (eqb (offset_of u) (c.round - c.adjust)) _ _ other

  at_end : is_latch c u ≡ false → is_length u.latched (offset_of u) ≡ true → is_due c s u ≡ true
  at_end other e =
      third (or_right (is_latch c u) (is_round_end c u)
      (ap (λ (m : Moved). is_length m.world.latched (offset_of u)) (no_latch other) ∙ e))

pub own_due : (c : ConfigParts) (s : ScriptParts) (st : RunState) (next : ℕ) → st.beside.round ≡ c.round
    → st.beside.adjust ≡ c.adjust → next ≡ next_own (round_in st) → IsDueAt c s st.world next
own_due c s st next round adjust is u tick start mode latched = by_latched st.world.latched refl
  where
    by_latched : (o : Option ℕ) → st.world.latched ≡ o → is_due c s u ≡ true
    by_latched None e =
        let own = own_is (round_in st) None e in
        at_latch c s u (eq-eqb (offset_of u) (c.round - c.adjust) (omega (arith, tick, start, is, own, round, adjust)))
    by_latched (Some ticks) e =
        let own = own_is (round_in st) (Some ticks) e in
        ⊎_elim (λ (here : is_latch c u ≡ true). at_latch c s u here)
        (λ (other : is_latch c u ≡ false).
        at_end c s u other
        (ap (λ (o : Option ℕ). is_length o (offset_of u)) (latched ∙ e)
        ∙ eq-eqb ticks (offset_of u) (omega (arith, tick, start, is, own))))
        (cases_Bool (is_latch c u))

-- ---- the least

pub due_min : (c : ConfigParts) (s : ScriptParts) (w : World) (a b : ℕ) → IsDueAt c s w a → IsDueAt c s w b
    → IsDueAt c s w (min a b)
due_min c s w a b h k =
    ⊎_elim (λ (l : a < b). let same : min a b ≡ a = omega arith in subst (IsDueAt c s w) (sym same) h)
    (λ (l : b ≤ a). let same : min a b ≡ b = omega arith in subst (IsDueAt c s w) (sym same) k) (cases_lt a b)

pub due_or_most : (c : ConfigParts) (s : ScriptParts) (w : World) (row own most : ℕ) → own ≤ most
    → IsDueAt c s w row ⊎ (most ≤ row) → IsDueAt c s w own → IsDueAt c s w (min row own)
due_or_most c s w row own most few h k =
    ⊎_elim (λ (due : IsDueAt c s w row). due_min c s w row own due k)
    (λ (l : most ≤ row). let same : min row own ≡ own = omega arith in subst (IsDueAt c s w) (sym same) k) h

-- the tick of the latch or of the round's end is still to come after an opening
pub own_later : (c : ConfigParts) (s : ScriptParts) (st : RunState) → Timed Begun c s st.world
    → st.beside.round ≡ c.round → st.beside.adjust ≡ c.adjust → st.world.tick < next_own (round_in st)
own_later c s st timed round adjust = by_latched st.world.latched refl
  where
    by_latched : (o : Option ℕ) → st.world.latched ≡ o → st.world.tick < next_own (round_in st)
    by_latched None e =
        let own = own_is (round_in st) None e in
        let before : st.world.tick - st.world.start < c.round - c.adjust =
        subst (λ (o : Option ℕ). Stands Begun c o (st.world.tick - st.world.start)) e timed.stands in
        let started = timed.started in
        omega (arith, own, before, started, round, adjust)
    by_latched (Some ticks) e =
        let own = own_is (round_in st) (Some ticks) e in
        let stands : IsLength c ticks × (st.world.tick - st.world.start < ticks) =
        subst (λ (o : Option ℕ). Stands Begun c o (st.world.tick - st.world.start)) e timed.stands in
        let before = stands.1 in
        let started = timed.started in
        omega (arith, own, before, started)
