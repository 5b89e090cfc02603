-- The enables of some routines, one after another.
use Rattle.std.proofs.Common.{◌≡◌, ℕ, ◌<◌, ◌≤◌, ◌+◌, List, [], ◌∷◌, None, Some, refl, ap, sym, ◌∙◌, subst}
use Rattle.std.specs.Prelude.{map, slice_get, slice_range}
use Rattle.tt_base.specs.declared.event.Event.{Event}
use Rattle.tt_base.specs.declared.number.IsrNo.{IsrNo}
use Rattle.tt_world.specs.declared.config.Enable.{Enable as EnableRow}
use Rattle.tt_world.specs.World.{World}
use Rattle.tt_world.specs.Gates.{enable}
use Rattle.tt_world.specs.Moved.{IsTelling, Moved, Gives, chain, followed}
use Rattle.round_table.specs.DueRows.{isrs_of}
use Rattle.stack_dispatch.specs.Due.{enables_by}
use Rattle.stack_dispatch.proofs.Checking.{range_past, range_more}
use Rattle.stack_dispatch.proofs.Telling.{SoFar, so_far_none, so_far_more, so_far_last}

abbrev no_offset : IsrNo → EnableRow
no_offset isr = record { offset = 0; isr = isr }

-- what is left leads to the same world and end as all, and the events before those that are left were reported
pub record Leads {L : Type 0} (Told : L → List Event → L → Type 0) (before : L) (all : Moved) (now : L)
    (left : Moved) : Type 0 where
  pub world_is : all.world ≡ left.world
  pub so_far : SoFar Told before all.events now left.events
  pub end_is : all.end ≡ left.end

module _ {L : Type 0} {Told : L → List Event → L → Type 0} (telling : IsTelling Told) where
  pub leads_first : (a : L) (m : Moved) → Leads Told a m a m
  leads_first a m = record { world_is = refl; so_far = so_far_none telling a m.events; end_is = refl }

  module _ (isrs : List IsrNo) (i j : ℕ) (before : L) (all : Moved) (now : L) (w : World)
      (led : Leads Told before all now (enables_by (slice_range isrs i j) w)) where
    pub leads_more : (isr : IsrNo) → i < j → slice_get isrs i ≡ Some isr → (next : L) (v : World)
        → Gives Told now next v None (enable (no_offset isr) w)
        → Leads Told before all next (enables_by (slice_range isrs (i + 1) j) v)
    unfolding enable chain followed
    leads_more isr l here next v g =
        let rest = slice_range isrs (i + 1) j in
        let first = ap (λ xs. enables_by xs w) (range_more isrs i j isr l here) in
        let same = ap (enables_by rest) (sym g.world_is) in
        record {
          world_is = led.world_is ∙ ap (λ (m : Moved). m.world) first ∙ ap (λ (m : Moved). m.world) same;
          so_far = subst (λ es. SoFar Told before all.events next es) (ap (λ (m : Moved). m.events) same)
              (so_far_more telling before now next all.events (enable (no_offset isr) w).events
              (enables_by rest (enable (no_offset isr) w).world).events
              (subst (λ es. SoFar Told before all.events now es) (ap (λ (m : Moved). m.events) first) led.so_far)
              g.told);
          end_is = led.end_is ∙ ap (λ (m : Moved). m.end) first ∙ ap (λ (m : Moved). m.end) same;
        }

    pub leads_last : j ≤ i → Gives Told before now w None all
    unfolding chain
    leads_last l =
        let last = ap (λ xs. enables_by xs w) (range_past isrs i j l) in
        record {
          world_is = sym (led.world_is ∙ ap (λ (m : Moved). m.world) last);
          told = so_far_last telling before now all.events (enables_by (slice_range isrs i j) w).events led.so_far
              (ap (λ (m : Moved). m.events) last);
          end_is = sym (led.end_is ∙ ap (λ (m : Moved). m.end) last);
        }

-- the enables of rows are those of their routines
pub enables_are : (rows : List EnableRow) (w : World) → chain (map enable rows) w ≡ enables_by (isrs_of rows) w
unfolding enable
enables_are rows w = ap (λ (parts : List (World → Moved)). chain parts w) (same rows)
  where
    same : (xs : List EnableRow) → map enable xs ≡ map (λ (isr : IsrNo). enable (no_offset isr)) (isrs_of xs)
    same [] = refl
    same (x ∷ xs) = ap (λ (parts : List (World → Moved)). enable x ∷ parts) (same xs)
