-- What becomes of a list, once a `&mut` to one of its items has ended.
use Rattle.std.specs.Prelude.{ℕ, List, slice_set}
use Rattle.std.specs.Borrow.{Lends, RattleType, MutBor, Fml}
use Rattle.tt_base.specs.contracts.series.Series.{the_row}

-- in the end the list has, at this place, the last value that r had
abbrev pub LendsItem : (T : RattleType) → MutBor (List T.Denot) → ℕ → MutBor T.Denot → Fml
LendsItem T list place r = Lends (the_row T) T list r (slice_set list.now place)
