-- The sources whose routines are unfinished.
use Rattle.std.specs.Prelude.{◌<◌, Bool, true, false, List, replicate, slice_index_or, slice_set}
use Rattle.tt_base.specs.declared.event.Owner.{Owner}
use Rattle.tt_base.specs.declared.event.Owner.TheVariants.{Isr, Oisr}

-- a flag for each number: of the time-triggered sources, and of those of the OSEK subsystem
pub record BusySources : Type 0 where
  pub isrs : List Bool
  pub oisrs : List Bool

-- no source
abbrev pub none_busy : BusySources
none_busy = record { isrs = replicate 16 false; oisrs = replicate 16 false }

-- a source: a routine of either kind, of a number below 16
abbrev pub IsNumbered : Owner → Type 0
IsNumbered (Isr isr) = isr.0 < 16
IsNumbered (Oisr oisr) = oisr.0 < 16
IsNumbered _ = ⊥

-- whether a source is in the set
abbrev pub is_busy : BusySources → Owner → Bool
is_busy busy (Isr isr) = slice_index_or busy.isrs isr.0 false
is_busy busy (Oisr oisr) = slice_index_or busy.oisrs oisr.0 false
is_busy busy _ = false

-- the set with one more source
abbrev pub marked : Owner → BusySources → BusySources
marked (Isr isr) busy = record busy { isrs = slice_set busy.isrs isr.0 true }
marked (Oisr oisr) busy = record busy { oisrs = slice_set busy.oisrs oisr.0 true }
marked _ busy = busy
