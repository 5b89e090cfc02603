-- The greatest depth and the most words of stack, instant after instant.
use Rattle.std.proofs.Common.{◌≡◌, ℕ, suc, Some, refl, ap, sym, ◌∙◌, arith}
use Rattle.std.specs.Prelude.{max, if◌then◌else◌}
use Rattle.tt_world.specs.declared.config.ConfigParts.{ConfigParts}
use Rattle.tt_world.specs.declared.script.ScriptParts.{ScriptParts}
use Rattle.tt_world.specs.declared.world.RunEnd.{RunEnd}
use Rattle.tt_world.specs.Load.{depth_of, in_tick, most_before, words_of}
use Rattle.tt_world.specs.Moved.{Moved, Outcome, is_over}
use Rattle.tt_world.specs.Opening.{opening}
use Rattle.tt_world.specs.Schedule.{world_at}
use Rattle.tt_world.specs.World.{World}
use Rattle.stack_dispatch.specs.declared.peaks.Peaks.{Peaks}
use Rattle.stack_dispatch.specs.Peaks.{peaks_before, raised}

max_zero : (n : ℕ) → max n 0 ≡ n
max_zero n = omega arith

-- nothing is added by an instant that takes no tick
in_tick_over : (number : World → ℕ) (m : Moved) (end : Outcome) (last : RunEnd) → end ≡ Some last → end ≡ m.end
    → in_tick number m ≡ 0
in_tick_over number m end last is same =
    ap (λ (o : Outcome). if is_over o then 0 else number m.world) (sym same ∙ is)

module _ (c : ConfigParts) (m : Moved) (p : Peaks) (end : Outcome) (same : end ≡ m.end) where
  -- an opening that ends the run raises nothing
  pub raised_over : (last : RunEnd) → end ≡ Some last → p ≡ raised c m p
  raised_over last is =
      let depth = in_tick_over depth_of m end last is same in
      let words = in_tick_over (words_of c) m end last is same in
      ap (λ (k : ℕ). record { deepest = k; words = p.words }) (sym (ap (max p.deepest) depth ∙ max_zero p.deepest))
      ∙ ap (λ (k : ℕ). record { deepest = max p.deepest (in_tick depth_of m); words = k })
      (sym (ap (max p.words) words ∙ max_zero p.words))

-- before the first instant there is none
pub peaks_first : (c : ConfigParts) (s : ScriptParts) → record { deepest = 0; words = 0 } ≡ peaks_before c s 0
unfolding most_before
peaks_first c s = refl

-- one instant more
pub peaks_next : (c : ConfigParts) (s : ScriptParts) (n : ℕ) (v : World) (p q : Peaks) → v ≡ world_at c s n
    → p ≡ peaks_before c s n → q ≡ raised c (opening c s v) p → q ≡ peaks_before c s (suc n)
unfolding most_before
peaks_next c s n v p q world is more =
    more ∙ ap (raised c (opening c s v)) is
    ∙ ap (λ (w : World). raised c (opening c s w) (peaks_before c s n)) world
