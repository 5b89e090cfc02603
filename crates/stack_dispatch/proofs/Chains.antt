-- Events that are reported one after the other.
use Rattle.std.proofs.Common.{List, [], ◌∷◌, ◌++◌}
use Rattle.tt_base.specs.declared.event.Event.{Event}
use Rattle.trace_text.specs.declared.recorder.Recorder.{Ghosts}
use Rattle.stack_dispatch.specs.Told.{Logged, Tells}
use Rattle.stack_dispatch.proofs.Telling.{tells_both}

module _ {S : Type 0} (r : Ghosts S) where
  -- two events were reported
  pub tells_two : (a b d : Logged S) (one other : Event) → Tells r a (one ∷ []) b → Tells r b (other ∷ []) d
      → Tells r a (one ∷ other ∷ []) d
  tells_two a b d one other p q = tells_both r a b d (one ∷ []) (other ∷ []) p q

  -- an event, then others, then an event
  pub tells_between : (a b d e : Logged S) (first last : Event) (between : List Event) → Tells r a (first ∷ []) b
      → Tells r b between d → Tells r d (last ∷ []) e → Tells r a (first ∷ (between ++ last ∷ [])) e
  tells_between a b d e first last between p q s =
      tells_both r a b e (first ∷ []) (between ++ last ∷ []) p (tells_both r b d e between (last ∷ []) q s)
