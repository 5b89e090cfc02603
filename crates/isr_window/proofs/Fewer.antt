-- Each arrival that is taken leaves fewer to come, and each interrupt that is accepted leaves fewer that are held.
use Rattle.std.proofs.Common.{ℕ, ◌≡◌, ◌<◌, ◌≤◌, ◌+◌, Bool, true, false, List, [], ◌∷◌, length, get_or, set, drop, ap, sym, ◌∙◌, subst, cond, arith, ⊎_elim}
use Rattle.std.specs.Prelude.{Option, Some, option_map, sum_by}
use Rattle.std.proofs.lemmas.Bool.{cases_lt, and_parts, true≢false}
use Rattle.std.proofs.lemmas.List.{get_or_past}
use Rattle.std.proofs.lemmas.List.Sums.{sum_by-set}
use Rattle.tt_base.specs.declared.event.Owner.{Owner}
use Rattle.tt_world.specs.World.{Source, IsrSource, OisrSource}
use Rattle.tt_world.specs.Gates.{source_owner}
use Rattle.isr_window.specs.declared.gates.Arrived.{Arrived}
use Rattle.isr_window.specs.Arrived.{arrived_at}
use Rattle.isr_window.specs.Busy.{BusySources}
use Rattle.isr_window.specs.Window.{Window, is_next, held_at, all_sources, is_due, first_due, taking, is_ready, first_ready, accepting}
use Rattle.isr_window.specs.Played.{no_source}
use Rattle.isr_window.proofs.Counted.{set_in}
use Rattle.isr_window.proofs.Places.{first_found}
use Rattle.isr_window.proofs.Arrivals.{found_some}

abbrev pub left_in : Window → ℕ
left_in g = sum_by length g.isrs_left + sum_by length g.oisrs_left

abbrev pub held_in : Window → ℕ
held_in g = set_in g.isrs_held + set_in g.oisrs_held

fewer_ticks : (now : ℕ) (lists : List (List ℕ)) (i : ℕ) → is_next now (get_or lists i []) ≡ true
    → sum_by length (set lists i (drop 1 (get_or lists i []))) < sum_by length lists
fewer_ticks now lists i due =
    ⊎_elim
    (λ (l : i < length lists).
    let all = sum_by-set length lists i (drop 1 (get_or lists i [])) [] l in
    let one = one_less (get_or lists i []) due in omega arith)
    (λ (g : length lists ≤ i). absurd (true≢false (sym due ∙ ap (is_next now) (get_or_past lists i [] g))))
    (cases_lt i (length lists))
  where
    one_less : (ticks : List ℕ) → is_next now ticks ≡ true → length (drop 1 ticks) < length ticks
    one_less [] e = cc
    one_less (tick ∷ rest) e = omega arith

fewer_flags : (flags : List Bool) (i : ℕ) → get_or flags i false ≡ true → set_in (set flags i false) < set_in flags
fewer_flags flags i held =
    ⊎_elim
    (λ (l : i < length flags).
    let all = sum_by-set (λ (flag : Bool). cond {A = ℕ} flag 1 0) flags i false false l in
    let one = ap (λ (flag : Bool). cond {A = ℕ} flag 1 0) held in omega arith)
    (λ (g : length flags ≤ i). absurd (true≢false (sym held ∙ get_or_past flags i false g))) (cases_lt i (length flags))

pub fewer_left : (now : ℕ) (g : Window) (arrived : Arrived) → Some arrived ≡ option_map (arrived_at g) (first_due now g)
    → left_in (taking (first_due now g) g) < left_in g
fewer_left now g arrived e =
    let found = found_some (arrived_at g) (first_due now g) arrived e in
    subst (λ (o : Option Source). left_in (taking o g) < left_in g) (sym found.1)
    (of_source found.0 (first_found (is_due now g) (all_sources g) no_source found.0 found.1).passes)
  where
    of_source : (x : Source) → is_due now g x ≡ true → left_in (taking (Some x) g) < left_in g
    of_source (IsrSource isr) due = let less = fewer_ticks now g.isrs_left isr.0 due in omega arith
    of_source (OisrSource oisr) due = let less = fewer_ticks now g.oisrs_left oisr.0 due in omega arith

pub fewer_held : (busy : BusySources) (g : Window) (who : Owner)
    → Some who ≡ option_map source_owner (first_ready busy g)
    → held_in (accepting (first_ready busy g) g) < held_in g
fewer_held busy g who e =
    let found = found_some source_owner (first_ready busy g) who e in
    let ready = (first_found (is_ready busy g) (all_sources g) no_source found.0 found.1).passes in
    subst (λ (o : Option Source). held_in (accepting o g) < held_in g) (sym found.1)
    (of_source found.0 (and_parts (held_at g found.0) _ ready).0)
  where
    of_source : (x : Source) → held_at g x ≡ true → held_in (accepting (Some x) g) < held_in g
    of_source (IsrSource isr) held = let less = fewer_flags g.isrs_held isr.0 held in omega arith
    of_source (OisrSource oisr) held = let less = fewer_flags g.oisrs_held oisr.0 held in omega arith
