-- What the runner knows of the sources while it accepts interrupts.
use Rattle.std.proofs.Common.{◌≡◌, ◌≢◌, ℕ, zero, suc, ◌<◌, ◌≤◌, ◌+◌, List, [], Bool, true, false, refl, ap, sym, ◌∙◌, subst, length, arith, get_or, set, get_or-set_same, get_or-set_other, ⊎_elim}
use Rattle.std.specs.Prelude.{◌&&◌, not, find, option_map, replicate, Option, None, Some}
use Rattle.std.proofs.lemmas.List.{get_or_past, length-set}
use Rattle.std.proofs.lemmas.Bool.{and_parts, cases_eq, not-false, not-true}
use Rattle.task_lang.specs.declared.syntax.Stmt.{Stmt}
use Rattle.tt_world.specs.Runners.{is_done}
use Rattle.tt_base.specs.declared.event.Owner.{Owner}
use Rattle.tt_base.specs.declared.event.Owner.TheVariants as owner
use Rattle.tt_world.specs.declared.config.ConfigParts.{ConfigParts}
use Rattle.tt_world.specs.Gates.{is_accepted, is_enabled, is_held, sources, source_owner, source_runner}
use Rattle.tt_world.specs.Runners.{left_of}
use Rattle.tt_world.specs.World.{World, Source, IsrSource, OisrSource}
use Rattle.isr_window.specs.Busy.{BusySources, is_busy}
use Rattle.isr_window.specs.Window.{Window, accepting, first_ready, is_ready}
use Rattle.isr_window.specs.Played.{AreSourcesOf, AreUnfinished, no_source, source_at, begun, with_window}
use Rattle.isr_window.proofs.Acceptances.{accepted_is}
use Rattle.isr_window.proofs.Arrivals.{found_some}
use Rattle.isr_window.proofs.Places.{IsSource, IsIsr, IsOisr, all_sources_are, first_found, source_is}
use Rattle.osek_idle.specs.Subsystem.{lefts, is_ready as is_ready_at}
use Rattle.osek_idle.proofs.Picking.{AreSettled, ready_at}
use Rattle.stack_dispatch.specs.Due.{AreMarked, CanBegin}
use Rattle.stack_dispatch.specs.State.{RunState, Beside, window_in, with_sources}

-- of 16 flags, those below a number are set where something is left, and the others are not set
pub record MarkedTo (count : ℕ) (lefts : List (List Stmt)) (flags : List Bool) : Type 0 where
  pub long : length flags ≡ 16
  pub marked : AreMarked count lefts flags
  pub later : (k : ℕ) → count ≤ k → get_or flags k false ≡ false

pub none_marked : (lefts : List (List Stmt)) (flags : List Bool) → flags ≡ replicate 16 false → MarkedTo 0 lefts flags
none_marked lefts flags e = record {
  long = ap length e;
  marked = λ k l. absurd (omega arith);
  later = λ k l. ap (λ xs. get_or xs k false) e ∙ replicated 16 k;
}
  where
    replicated : (n k : ℕ) → get_or (replicate n false) k false ≡ false
    replicated zero k = get_or_past [] k false (omega arith)
    replicated (suc n) zero = refl
    replicated (suc n) (suc k) = replicated n k

pub one_marked : (n : ℕ) (lefts : List (List Stmt)) (flags : List Bool) → n < 16 → is_done (get_or lefts n []) ≡ false
    → MarkedTo n lefts flags
    → MarkedTo (n + 1) lefts (set flags n true)
one_marked n lefts flags l u m =
    let long = m.long in
    record {
      long = length-set flags n true ∙ m.long;
      marked = λ k h.
          ⊎_elim (λ (e : k ≡ n). rw e (get_or-set_same flags n true false (omega arith) ∙ ap not (sym u)))
          (λ (ne : k ≢ n). get_or-set_other flags n k true false ne ∙ m.marked k (omega (arith, ne))) (cases_eq k n);
      later = λ k h. get_or-set_other flags n k true false (λ e. absurd (omega arith)) ∙ m.later k (omega arith);
    }

pub not_marked : (n : ℕ) (lefts : List (List Stmt)) (flags : List Bool) → is_done (get_or lefts n []) ≡ true
    → MarkedTo n lefts flags
    → MarkedTo (n + 1) lefts flags
not_marked n lefts flags d m = record {
  long = m.long;
  marked = λ k h.
      ⊎_elim (λ (e : k ≡ n). rw e (m.later n (omega arith) ∙ ap not (sym d)))
      (λ (ne : k ≢ n). m.marked k (omega (arith, ne))) (cases_eq k n);
  later = λ k h. m.later k (omega arith);
}

-- where one is ready something is left, and else nothing
pub left_where : (states : List (Option (List Stmt))) (n : ℕ) → AreSettled states → is_ready_at states n ≡ true
    → is_done (get_or (lefts states) n []) ≡ false
left_where states n settled e = not-true _ (sym (ready_at states n settled) ∙ e)

pub none_where : (states : List (Option (List Stmt))) (n : ℕ) → AreSettled states → is_ready_at states n ≡ false
    → is_done (get_or (lefts states) n []) ≡ true
none_where states n settled e = not-false _ (sym (ready_at states n settled) ∙ e)

-- the sources that are marked are those whose routine is unfinished
pub are_unfinished : (c : ConfigParts) (busy : BusySources) (w : World) (g : Window)
    → AreMarked (length c.isrs) w.isrs busy.isrs
    → AreMarked (length c.oisrs) w.oisrs busy.oisrs → AreUnfinished c busy w g
are_unfinished c busy w g isrs oisrs =
    record { flags = λ place l _. of_source (source_at c place) (source_is c place l) }
  where
    of_source : (x : Source) → IsSource c x
        → is_busy busy (source_owner x) ≡ not (is_done (left_of w (source_runner x)))
    of_source x (IsIsr k l) = isrs k l
    of_source x (IsOisr k l) = oisrs k l

-- the routine of a source whose interrupt is accepted can begin
module _ (c : ConfigParts) (w : World) where
  of_accepted : (x : Source) → IsSource c x → is_accepted w x ≡ true → CanBegin c (source_owner x) w
  of_accepted x (IsIsr k l) e =
      let open_done = (and_parts (is_held w x) (is_enabled w x && is_done (left_of w (source_runner x))) e).1 in
      (l, (and_parts (is_enabled w x) (is_done (left_of w (source_runner x))) open_done).1)
  of_accepted x (IsOisr k l) e = l

  pub can_begin : (busy : BusySources) (g : Window) (who : Owner) → with_window w g ≡ w → AreSourcesOf c g
      → AreUnfinished c busy w g → Some who ≡ option_map source_owner (first_ready busy g) → CanBegin c who w
  can_begin busy g who seen are unfinished answer =
      let found = found_some source_owner (first_ready busy g) who answer in
      let first = first_found (is_ready busy g) (sources c) no_source found.0
      (ap (find (is_ready busy g)) (sym (all_sources_are c g are)) ∙ found.1) in
      let accepted = accepted_is c busy w g first.place seen unfinished first.within
      ∙ ap (is_ready busy g) first.is ∙ first.passes in
      subst (λ o. CanBegin c o w) (sym (found.2 ∙ ap source_owner (sym first.is)))
      (of_accepted (source_at c first.place) (source_is c first.place first.within) accepted)

-- whatever the gates are
pub begins_with : (c : ConfigParts) (w : World) (g : Window) (who : Owner) → CanBegin c who w
    → CanBegin c who (with_window w g)
begins_with c w g (owner.Isr isr) h = h
begins_with c w g (owner.Oisr oisr) h = h
begins_with c w g _ h = tt

-- a routine that begins leaves the sources as they are
begun_window : (c : ConfigParts) (who : Owner) (w : World) (b : Beside)
    → window_in (record { world = begun c who w; beside = b }) ≡ window_in (record { world = w; beside = b })
begun_window c (owner.Isr isr) w b = refl
begun_window c (owner.Oisr oisr) w b = refl
begun_window c _ w b = refl

pub accepted_window : (c : ConfigParts) (who : Owner) (g : Window) (st next : RunState)
    → next.world ≡ begun c who (with_sources g st).world → next.beside ≡ (with_sources g st).beside → window_in next ≡ g
accepted_window c who g st next world beside =
    ap (λ (w : World). window_in (record { world = w; beside = next.beside })) world
    ∙ ap (λ (b : Beside). window_in (record { world = begun c who (with_sources g st).world; beside = b })) beside
    ∙ begun_window c who (with_sources g st).world (with_sources g st).beside

-- an acceptance leaves the arrivals to come as they are
pub accepting_beside : (found : Option Source) (st : RunState)
    → (with_sources (accepting found (window_in st)) st).beside ≡ st.beside
accepting_beside None st = refl
accepting_beside (Some (IsrSource isr)) st = refl
accepting_beside (Some (OisrSource oisr)) st = refl
