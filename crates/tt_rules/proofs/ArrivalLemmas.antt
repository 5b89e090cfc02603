-- The latest arrival of each source decides whether an arrival is after all above of its source.
use Rattle.std.proofs.Common.{◌≡◌, ℕ, ◌+◌, ◌<◌, Bool, false, not, List, [], ◌∷◌, length, drop, get_or, Option, Some, None, refl, ap, sym, ◌∙◌, arith}
use Rattle.tt_parts.specs.declared.located.At.{At}
use Rattle.tt_rules.specs.Lines.{least_line, lesser_of, line_unless}
use Rattle.tt_rules.proofs.LineLemmas.{least-at}
use Rattle.tt_rules.proofs.ActivationLemmas.{none_passes}
use Rattle.std.specs.Prelude.{◌||◌, ◌&&◌, nat_le}
use Rattle.std.specs.List.{list_any}
use Rattle.std.proofs.lemmas.Bool.Decides.{nat_tests}
use Rattle.tt_base.specs.declared.names.Declared.{Declared}
use Rattle.tt_parts.specs.declared.entries.Arrival.{Arrival}
use Rattle.tt_rules.specs.InputRules.{is_not_after, is_same_source, is_same_thing}
use Rattle.tt_rules.specs.Latest.{is_after, is_thing, latest_at, latest_in, latest_then, thing_of}
use Rattle.tt_rules.specs.Shapes.{is_new, repeating}

-- one more arrival, of the same thing or of another
late-step : (it : Bool) (tick other : ℕ) (latest : Option ℕ) (some : Bool) → is_after tick latest ≡ not some
    → is_after tick (latest_then it other latest) ≡ not ((it && nat_le tick other) || some)
late-step it tick other None some is = grind (arith, nat_tests)
late-step it tick other (Some latest) some is = grind (arith, nat_tests)

-- an arrival is after all above of its source exactly where it is after the latest
late : (tick : ℕ) (source : Option Declared) (above : List Arrival)
    → is_after tick (latest_at (λ q. latest_in q above) source)
    ≡ not (list_any (λ (o : Arrival). is_same_source o.source source && nat_le tick o.tick) above)
late tick None above = sym (ap not (none_passes _ above (λ (o : Arrival). by o.source (nat_le tick o.tick)))) where
  by : (source : Option Declared) (b : Bool) → (is_same_source source None && b) ≡ false
  by None b = refl
  by (Some e) b = refl
late tick (Some d) [] = refl
late tick (Some d) (o ∷ above) = by o.source (late tick (Some d) above) where
  others : Bool
  others = list_any (λ (o : Arrival). is_same_source o.source (Some d) && nat_le tick o.tick) above

  by : (source : Option Declared) → is_after tick (latest_in (thing_of d) above) ≡ not others
      → is_after tick (latest_then (is_thing (thing_of d) source) o.tick (latest_in (thing_of d) above))
      ≡ not ((is_same_source source (Some d) && nat_le tick o.tick) || others)
  by None is = is
  by (Some e) is = late-step (is_same_thing e d) tick o.tick (latest_in (thing_of d) above) others is

pub after-exactly : (x : Arrival) (above : List Arrival) (found : (ℕ × ℕ) → Option ℕ)
    → ((q : ℕ × ℕ) → found q ≡ latest_in q above)
    → is_after x.tick (latest_at found x.source) ≡ is_new is_not_after above x
after-exactly x above found has = by x.source ∙ late x.tick x.source above where
  by : (source : Option Declared)
      → is_after x.tick (latest_at found source) ≡ is_after x.tick (latest_at (λ q. latest_in q above) source)
  by None = refl
  by (Some d) = ap (is_after x.tick) (has (thing_of d))

-- the first k arrivals are read: the map has the latest of each source, and the least line so far is this one
pub record AreNoted (found : (ℕ × ℕ) → Option ℕ) (least : Option ℕ) (xs : List (At Arrival)) (k : ℕ) : Type 0 where
  pub above : List Arrival
  pub has : (q : ℕ × ℕ) → found q ≡ latest_in q above
  pub lines : lesser_of least (least_line (repeating is_not_after above (drop k xs)))
      ≡ least_line (repeating is_not_after [] xs)

pub noted-more : (found more : (ℕ × ℕ) → Option ℕ) (least lesser : Option ℕ) (xs : List (At Arrival)) (k : ℕ)
    (x : At Arrival) (after : Bool)
    → k < length xs → AreNoted found least xs k
    → after ≡ is_after (get_or xs k x).part.tick (latest_at found (get_or xs k x).part.source)
    → ((q : ℕ × ℕ) → more q ≡ latest_then (is_thing q (get_or xs k x).part.source) (get_or xs k x).part.tick (found q))
    → lesser ≡ lesser_of least (least_line (line_unless after (get_or xs k x).line []))
    → AreNoted more lesser xs (k + 1)
noted-more found more least lesser xs k x after lt noted is put less = record {
  above = here.part ∷ noted.above;
  has = λ q. put q ∙ ap (latest_then (is_thing q here.part.source) here.part.tick) (noted.has q);
  lines = least-at (repeating is_not_after noted.above) xs k here x _ _ _ _ _ _ lt refl
      (is ∙ after-exactly here.part noted.above found noted.has) refl less noted.lines;
} where
  here : At Arrival
  here = get_or xs k x
