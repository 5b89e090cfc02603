-- One part of an instant after another, as the code does them.
use Rattle.std.proofs.Common.{ℕ, ◌≡◌, ◌<◌, ◌≤◌, ◌+◌, length, take, get_or, List, [], ◌∷◌, true, false, Bool, ◌++◌, refl, ap, sym, ◌∙◌, subst, append_assoc}
use Rattle.std.specs.Prelude.{map}
use Rattle.std.proofs.lemmas.List.{take_more, take_all, map-append}
use Rattle.tt_base.specs.declared.event.Event.{Event}
use Rattle.tt_world.specs.World.{World}
use Rattle.tt_world.specs.Moved.{Moved, Gives, IsTelling, followed, continued, preceded, is_over, goes_on, chain}
use Rattle.std.specs.Prelude.{None, Some}
use Rattle.tt_world.specs.declared.world.RunEnd.TheVariants as ending
use Rattle.tt_world.specs.Moved.{Outcome}

-- where the run is not over, its outcome is that it goes on
pub going_from : (end : Outcome) → is_over end ≡ false → None ≡ end
going_from None e = refl
going_from (Some ending.LastRound) e = cc
going_from (Some (ending.Missed task)) e = cc
going_from (Some ending.Shutdown) e = cc

-- a chain in two pieces
both_same : (over : Bool) (m : Moved) (parts more : List (World → Moved)) → is_over m.end ≡ over
    → ((v : World) → chain (parts ++ more) v ≡ followed (chain parts v) (chain more))
    → continued over m (chain (parts ++ more)) ≡ followed (continued over m (chain parts)) (chain more)
unfolding followed
both_same true m parts more e h = ap (λ b. continued b m (chain more)) (sym e)
both_same false m parts more e h = ap (preceded m.events) (h m.world)
    ∙ pieces (is_over (chain parts m.world).end) (chain parts m.world)
  where
    pieces : (b : Bool) (n : Moved) → preceded m.events (continued b n (chain more)) ≡ continued b (preceded m.events n)
        (chain more)
    pieces true n = refl
    pieces false n =
        ap (λ es. record { world = (chain more n.world).world; events = es; end = (chain more n.world).end })
        (sym (append_assoc m.events n.events (chain more n.world).events))

pub chain_both : (parts more : List (World → Moved)) (w : World)
    → chain (parts ++ more) w ≡ followed (chain parts w) (chain more)
unfolding chain followed
chain_both [] more w = refl
chain_both (part ∷ parts) more w = both_same (is_over (part w).end) (part w) parts more refl (chain_both parts more)

module _ {L : Type 0} {Told : L → List Event → L → Type 0} where
  -- where the code of a part ends the run, no part follows
  pub gives_stop : (a b : L) (w : World) (end : Outcome) (m : Moved) (next : World → Moved) → is_over end ≡ true
      → Gives Told a b w end m → Gives Told a b w end (followed m next)
  unfolding followed
  gives_stop a b w end m next o g =
      let p : is_over m.end ≡ true = sym (ap is_over g.end_is) ∙ o in
      let e : continued (is_over m.end) m next ≡ m = ap (λ b. continued b m next) p in
      record {
        world_is = g.world_is ∙ sym (ap (λ x. x.world) e);
        told = subst (λ es. Told a es b) (sym (ap (λ x. x.events) e)) g.told;
        end_is = g.end_is ∙ sym (ap (λ x. x.end) e);
      }

  -- the same in a chain of parts
  pub gives_over : (a b : L) (w : World) (end : Outcome) (part : World → Moved) (parts : List (World → Moved))
      (u : World) → is_over end ≡ true → Gives Told a b w end (part u) → Gives Told a b w end (chain (part ∷ parts) u)
  unfolding chain
  gives_over a b w end part parts u o g = gives_stop a b w end (part u) (chain parts) o g

  -- for a loop: all parts are done
  pub gives_all : {X : Type 0} (part : X → World → Moved) (xs : List X) (i : ℕ) (a b : L) (u w : World)
      → length xs ≤ i → Gives Told a b w None (chain (map part (take i xs)) u)
      → Gives Told a b w None (chain (map part xs) u)
  gives_all part xs i a b u w l g =
      subst (λ ys. Gives Told a b w None (chain (map part ys) u)) (take_all i xs l) g

module _ {L : Type 0} {Told : L → List Event → L → Type 0} (telling : IsTelling Told) where
  -- a part that did nothing
  pub gives_none : (a : L) (w : World) → Gives Told a a w None (goes_on w [])
  gives_none a w = record { world_is = refl; told = telling.none a; end_is = refl }

  -- where the code of a part goes on and that of the next part follows, together they do one after the other
  pub gives_next : (a b d : L) (v w : World) (end : Outcome) (m : Moved) (next : World → Moved)
      → Gives Told a b v None m → Gives Told b d w end (next v) → Gives Told a d w end (followed m next)
  unfolding followed
  gives_next a b d v w end m next g h =
      let on : is_over m.end ≡ false = ap is_over (sym g.end_is) in
      let e : continued (is_over m.end) m next ≡ preceded m.events (next m.world) = ap (λ b. continued b m next) on in
      let n : next v ≡ next m.world = ap next g.world_is in
      record {
        world_is = h.world_is ∙ ap (λ x. x.world) n ∙ sym (ap (λ x. x.world) e);
        told = subst (λ es. Told a es d) (ap (λ x. m.events ++ x.events) n ∙ sym (ap (λ x. x.events) e))
            (telling.both a b d m.events (next v).events g.told h.told);
        end_is = h.end_is ∙ ap (λ x. x.end) n ∙ sym (ap (λ x. x.end) e);
      }

  -- a chain of parts: the first, and then the others; for a loop: one more part after those that were done
  pub gives_first : (a b d : L) (v w : World) (end : Outcome) (part : World → Moved) (parts : List (World → Moved))
      (u : World) → Gives Told a b v None (part u) → Gives Told b d w end (chain parts v)
      → Gives Told a d w end (chain (part ∷ parts) u)
  unfolding chain
  gives_first a b d v w end part parts u g h = gives_next a b d v w end (part u) (chain parts) g h

  -- for a loop: no part was done yet; and one more part is done
  pub gives_begin : {X : Type 0} (part : X → World → Moved) (xs : List X) (a : L) (w : World)
      → Gives Told a a w None (chain (map part (take 0 xs)) w)
  unfolding chain
  gives_begin part xs a w = gives_none a w

  one_part : (part : World → Moved) (a b : L) (u w : World) → Gives Told a b w None (part u)
      → Gives Told a b w None (chain (part ∷ []) u)
  unfolding chain
  one_part part a b u w g = gives_next a b b w w None (part u) (chain []) g (gives_none b w)

  pub gives_done : (a : L) (w : World) → Gives Told a a w None (chain [] w)
  unfolding chain
  gives_done a w = gives_none a w

  pub gives_more : {X : Type 0} (part : X → World → Moved) (xs : List X) (i : ℕ) (x : X) (a b d : L)
      (u v w : World) → i < length xs → get_or xs i x ≡ x → Gives Told a b v None (chain (map part (take i xs)) u)
      → Gives Told b d w None (part x v) → Gives Told a d w None (chain (map part (take (i + 1) xs)) u)
  gives_more part xs i x a b d u v w l here g h =
      let e : take (i + 1) xs ≡ take i xs ++ x ∷ [] = take_more xs i x l ∙ ap (λ y. take i xs ++ y ∷ []) here in
      let f : map part (take (i + 1) xs) ≡ map part (take i xs) ++ part x ∷ [] = ap (map part) e
      ∙ map-append part (take i xs) (x ∷ []) in
      let k = gives_next a b d v w None (chain (map part (take i xs)) u) (chain (part x ∷ [])) g
      (one_part (part x) b d v w h) in
      subst (Gives Told a d w None)
      (sym (ap (λ ps. chain ps u) f ∙ chain_both (map part (take i xs)) (part x ∷ []) u)) k
