-- How deep activations and routines are nested at most, and how many stack words they take at most.
use Rattle.std.specs.Prelude.{ℕ, zero, suc, ◌+◌, max, nat_le, nat_lt, ◌&&◌, Bool, length, sum_by, cond, slice_index_or}
use Rattle.tt_world.specs.declared.config.Activation.{Activation}
use Rattle.tt_world.specs.declared.config.IsrDef.{IsrDef}
use Rattle.tt_world.specs.declared.config.ModeDef.{ModeDef}
use Rattle.tt_world.specs.declared.config.ConfigParts.{ConfigParts}
use Rattle.tt_world.specs.declared.world.Point.{Point}
use Rattle.tt_world.specs.declared.world.Point.TheVariants as point
use Rattle.tt_world.specs.Points.{point_of}
use Rattle.tt_world.specs.Rows.{mode_at, no_task}

-- the offset at which the window of an activation with this monitoring point closes: the point, or the length of the
-- longest round where the point is the round's end
abbrev pub window_end : ConfigParts → Point → ℕ
window_end c (point.At place) = place
window_end c point.RoundEnd = c.round + c.adjust

-- whether the window of an activation covers an offset: it reaches from the activation's offset up to its end, which it
-- does not include
abbrev pub is_open : ConfigParts → ModeDef → (offset : ℕ) → Activation → Bool
is_open c mode offset row = nat_le row.offset offset && nat_lt offset (window_end c (point_of mode row))

-- the stack words of an activation's task
abbrev pub stack_of : ConfigParts → Activation → ℕ
stack_of c row = (slice_index_or c.tasks row.task.0 no_task).stack

-- the sum of the weights of the activations whose windows cover an offset
abbrev pub open_at : (Activation → ℕ) → ConfigParts → ModeDef → (offset : ℕ) → ℕ
open_at weight c mode offset = sum_by (λ row. cond (is_open c mode offset row) (weight row) 0) mode.activations

-- the largest value of a function at the numbers below n
unfoldable pub largest : (ℕ → ℕ) → ℕ → ℕ
largest f zero = 0
largest f (suc n) = max (largest f n) (f n)

-- the largest over the offsets of a mode
unfoldable pub most_in : (Activation → ℕ) → ConfigParts → ModeDef → ℕ
most_in weight c mode = largest (open_at weight c mode) (c.round + c.adjust)

-- the largest over all modes and offsets
unfoldable pub most_open : (Activation → ℕ) → ConfigParts → ℕ
most_open weight c = largest (λ mode. most_in weight c (mode_at c mode)) (length c.modes)

-- what bounds the depth: the most activations whose windows cover one offset, and every time-triggered routine
abbrev pub depth_bound : ConfigParts → ℕ
depth_bound c = most_open (λ row. 1) c + length c.isrs

-- what bounds the words: the most stack words of activations whose windows cover one offset, and those of every
-- time-triggered routine
abbrev pub words_bound : ConfigParts → ℕ
words_bound c = most_open (stack_of c) c + sum_by (λ (isr : IsrDef). isr.stack) c.isrs
