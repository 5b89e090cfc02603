-- A fact for one fault of a whole reading.
use Rattle.std.specs.Prelude.{Result, Ok, Err, ⊤}
use Rattle.tt_io.specs.declared.whole.TakeFault.{TakeFault}
use Rattle.tt_io.specs.declared.whole.TakeFault.TheVariants.{Memory, ReadFault, TooLong}

abbrev pub OnMemory : {T : Type 0} → Result T TakeFault → Type 0 → Type 0
OnMemory (Ok x) P = ⊤
OnMemory (Err Memory) P = P
OnMemory (Err ReadFault) P = ⊤
OnMemory (Err TooLong) P = ⊤

abbrev pub OnReadFault : {T : Type 0} → Result T TakeFault → Type 0 → Type 0
OnReadFault (Ok x) P = ⊤
OnReadFault (Err Memory) P = ⊤
OnReadFault (Err ReadFault) P = P
OnReadFault (Err TooLong) P = ⊤

abbrev pub OnTooLong : {T : Type 0} → Result T TakeFault → Type 0 → Type 0
OnTooLong (Ok x) P = ⊤
OnTooLong (Err Memory) P = ⊤
OnTooLong (Err ReadFault) P = ⊤
OnTooLong (Err TooLong) P = P
