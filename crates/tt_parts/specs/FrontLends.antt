-- What becomes of a list that grows at its front, once a `&mut` to its front item has ended.
use Rattle.std.specs.Prelude.{List, [], ◌∷◌, Option}
use Rattle.std.specs.Borrow.{LendsIf, RattleType, MutBor, Fml}
use Rattle.tt_parts.specs.contracts.front_list.FrontList.{the_row}

-- a list with another item at its front
abbrev pub with_front : {A : Type 0} → List A → A → List A
with_front [] item = []
with_front (first ∷ rest) item = item ∷ rest

-- in the end the front item is the last value that r had; at `None` the list stays as it is
abbrev pub LendsFront : (T : RattleType) → MutBor (List T.Denot) → Option (MutBor T.Denot) → Fml
LendsFront T list r = LendsIf (the_row T) T list r (with_front list.now) list.now
