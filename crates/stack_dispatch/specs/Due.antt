-- What is done at the sources of interrupts at an instant.
use Rattle.std.specs.Prelude.{◌≡◌, ℕ, ◌<◌, not, Bool, true, false, List, [], length, map, slice_index_or}
use Rattle.task_lang.specs.declared.syntax.Stmt.{Stmt}
use Rattle.tt_base.specs.declared.event.Owner.{Owner}
use Rattle.tt_base.specs.declared.event.Owner.TheVariants as owner
use Rattle.tt_base.specs.declared.number.IsrNo.{IsrNo}
use Rattle.tt_world.specs.declared.config.ConfigParts.{ConfigParts}
use Rattle.tt_world.specs.World.{World}
use Rattle.tt_world.specs.Runners.{is_done}
use Rattle.isr_window.specs.Played.{source_at}
use Rattle.tt_world.specs.Moved.{Moved, chain}
use Rattle.tt_world.specs.Gates.{enable, is_accepted, sources}

-- the enables of routines, in their order
abbrev pub enables_by : List IsrNo → World → Moved
enables_by isrs = chain (map (λ (isr : IsrNo). enable (record { offset = 0; isr = isr })) isrs)

-- nothing can be accepted
abbrev pub NoneAccepted : ConfigParts → World → Type 0
NoneAccepted c w = (place : ℕ) → place < length (sources c) → is_accepted w (source_at c place) ≡ false

-- the routine of a source can begin: the source exists, and its routine is not unfinished
abbrev pub CanBegin : ConfigParts → Owner → World → Type 0
CanBegin c (owner.Isr isr) w = (isr.0 < length c.isrs) × (is_done (slice_index_or w.isrs isr.0 []) ≡ true)
CanBegin c (owner.Oisr oisr) w = oisr.0 < length c.oisrs
CanBegin c _ w = Unit {0}

-- the flags of the numbers below a count are set where something is left
abbrev pub AreMarked : ℕ → List (List Stmt) → List Bool → Type 0
AreMarked count lefts flags =
    (number : ℕ) → number < count → slice_index_or flags number false ≡ not (is_done (slice_index_or lefts number []))
