-- Facts about each event of a list, given the round that the event is in.
use Rattle.std.proofs.Common.{◌≡◌, List, [], ◌∷◌, ◌++◌, Option, None, Some, refl, subst}
use Rattle.std.specs.Prelude.{IfSome}
use Rattle.tt_base.specs.declared.event.Event.{Event}
use Rattle.tt_world.specs.Readings.{RoundStart, round_of, before_round, until_round}
use Rattle.tt_world.specs.EventLaws.{EachRound}
use Rattle.tt_world.proofs.Emits.{Of}

-- the round after an event; this round where the event begins none
abbrev pub or_round : Option RoundStart → RoundStart → RoundStart
or_round None now = now
or_round (Some round) now = round

-- it holds of each event and the round that it is in, where the first event comes in this round
abbrev pub Through : (RoundStart → Event → Type 0) → RoundStart → List Event → Type 0
Through G now [] = Unit {0}
Through G now (e ∷ es) = G now e × Through G (or_round (round_of e) now) es

-- the round after these events
abbrev pub last_round : RoundStart → List Event → RoundStart
last_round now [] = now
last_round now (e ∷ es) = last_round (or_round (round_of e) now) es

pub last_round_more : (now : RoundStart) (es fs : List Event)
    → last_round now (es ++ fs) ≡ last_round (last_round now es) fs
last_round_more now [] fs = refl
last_round_more now (e ∷ es) fs = last_round_more (or_round (round_of e) now) es fs

module _ (G : RoundStart → Event → Type 0) where
  pub through_more : (now : RoundStart) (es fs : List Event) → Through G now es → Through G (last_round now es) fs
      → Through G now (es ++ fs)
  through_more now [] fs p q = q
  through_more now (e ∷ es) fs p q = (p.0, through_more (or_round (round_of e) now) es fs p.1 q)

  pub through_each : (H : RoundStart → Event → Type 0) → ((round : RoundStart) (e : Event) → G round e → H round e)
      → (now : RoundStart) (es : List Event) → Through G now es → Through H now es
  through_each H h now [] p = tt
  through_each H h now (e ∷ es) p = (h now e p.0, through_each H h (or_round (round_of e) now) es p.1)

  until_next : (now : RoundStart) (o : Option RoundStart) (e : Event) (rest : List Event) → G now e
      → (o ≡ None → Of (G now) rest) → Of (G now) (before_round o (e ∷ rest))
  until_next now None e rest g h = (g, h refl)
  until_next now (Some round) e rest g h = tt

  pub until_through : (now : RoundStart) (es : List Event) → Through G now es → Of (G now) (until_round es)
  unfolding until_round
  until_through now [] p = tt
  until_through now (e ∷ es) p =
      until_next now (round_of e) e (until_round es) p.0
      (λ n. until_through now es (subst (λ (o : Option RoundStart). Through G (or_round o now) es) n p.1))

  if_round : (now : RoundStart) (o : Option RoundStart) (es : List Event) → Through G (or_round o now) es
      → IfSome o (λ round. Of (G round) (until_round es))
  if_round now None es p = tt
  if_round now (Some round) es p = until_through round es p

  -- so it holds of the events of each round
  pub each_round : (now : RoundStart) (es : List Event) → Through G now es
      → EachRound (λ round rest. Of (G round) (until_round rest)) es
  each_round now [] p = tt
  each_round now (e ∷ es) p = (if_round now (round_of e) es p.1, each_round (or_round (round_of e) now) es p.1)

-- a law of each round follows from another
if_more : (P Q : RoundStart → Type 0) (o : Option RoundStart) → ((round : RoundStart) → P round → Q round) → IfSome o P
    → IfSome o Q
if_more P Q None h p = tt
if_more P Q (Some round) h p = h round p

pub each_more : (P Q : RoundStart → List Event → Type 0)
    → ((round : RoundStart) (rest : List Event) → P round rest → Q round rest) → (es : List Event) → EachRound P es
    → EachRound Q es
each_more P Q h [] p = tt
each_more P Q h (e ∷ es) p = (
  if_more (λ round. P round es) (λ round. Q round es) (round_of e)
      (λ round x. h round es x) p.0,
  each_more P Q h es p.1,
)

-- an event in the middle of a list
pub of_inner : (E : Event → Type 0) (before after : List Event) (e : Event) → Of E (before ++ e ∷ after) → E e
of_inner E [] after e p = p.0
of_inner E (x ∷ before) after e p = of_inner E before after e p.1
