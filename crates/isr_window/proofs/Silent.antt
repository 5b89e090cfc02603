-- Parts of an instant that do nothing.
use Rattle.std.proofs.Common.{ℕ, zero, suc, ◌≡◌, ◌<◌, ◌≤◌, ◌+◌, List, [], ◌∷◌, length, take, get_or, refl, sym, ap, ◌∙◌, subst, arith}
use Rattle.std.specs.Prelude.{None, map}
use Rattle.std.proofs.lemmas.List.{get_or_default}
use Rattle.tt_base.specs.declared.event.Event.{Event}
use Rattle.tt_world.specs.World.{World}
use Rattle.tt_world.specs.Moved.{Moved, Gives, IsTelling, goes_on, followed, chain}
use Rattle.tt_world.proofs.Moves.{gives_none, gives_more}

-- parts of which none has anything to do
pub chain_silent : {X : Type 0} (part : X → World → Moved) (xs : List X) (d : X) (w : World)
    → ((k : ℕ) → k < length xs → part (get_or xs k d) w ≡ goes_on w []) → chain (map part xs) w ≡ goes_on w []
unfolding chain followed
chain_silent part [] d w silent = refl
chain_silent part (x ∷ xs) d w silent =
    ap (λ m. followed m (chain (map part xs))) (silent 0 (omega arith))
    ∙ chain_silent part xs d w (λ k below. silent (suc k) (omega arith))

-- a part that gives these events and goes on
pub gives_this : {L : Type 0} {Told : L → List Event → L → Type 0} (b d : L) (w : World) (events : List Event)
    (m : Moved)
    → m ≡ goes_on w events → Told b events d → Gives Told b d w None m
gives_this {Told = Told} b d w events m is told = subst (Gives Told b d w None) (sym is)
    (record { world_is = refl; told = told; end_is = refl })

module _ {L : Type 0} {Told : L → List Event → L → Type 0} (telling : IsTelling Told) where
  -- for a loop: parts that have nothing to do are passed
  pub gives_past : {X : Type 0} (part : X → World → Moved) (xs : List X) (d : X) (i n : ℕ) (a b : L)
      (u w : World) → i + n ≤ length xs → ((k : ℕ) → i ≤ k → k < i + n → part (get_or xs k d) w ≡ goes_on w [])
      → Gives Told a b w None (chain (map part (take i xs)) u)
      → Gives Told a b w None (chain (map part (take (i + n) xs)) u)
  gives_past part xs d i zero a b u w within silent g =
      subst (λ k. Gives Told a b w None (chain (map part (take k xs)) u)) (omega arith) g
  gives_past part xs d i (suc n) a b u w within silent g =
      let here : i < length xs = omega arith in
      let x = get_or xs i d in
      let nothing : Gives Told b b w None (part x w) =
      subst (Gives Told b b w None) (sym (silent i (omega arith) (omega arith))) (gives_none telling b w) in
      let more = gives_more telling part xs i x a b b u w w here (get_or_default xs i x d here) g nothing in
      subst (λ k. Gives Told a b w None (chain (map part (take k xs)) u)) (omega arith)
      (gives_past part xs d (i + 1) n a b u w (omega arith) (λ k from below. silent k (omega arith) (omega arith)) more)
