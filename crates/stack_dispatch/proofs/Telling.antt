-- Events that are reported, one after the other.
use Rattle.std.proofs.Common.{ℕ, ◌≡◌, ◌+◌, Bool, true, false, List, [], ◌∷◌, ◌++◌, length, refl, ap, sym, ◌∙◌, subst, arith, append_assoc}
use Rattle.std.specs.Prelude.{filter}
use Rattle.std.proofs.lemmas.List.{length-append}
use Rattle.std.proofs.lemmas.List.Elements.{filter-append}
use Rattle.tt_base.specs.declared.event.Event.{Event}
use Rattle.tt_base.specs.declared.names.NameEntry.{NameEntry}
use Rattle.tt_io.specs.Count.{counted}
use Rattle.tt_io.proofs.Taking.{counted_more}
use Rattle.trace_text.specs.declared.recorder.Recorder.{Ghosts}
use Rattle.trace_text.specs.Records.{CutWithin}
use Rattle.tt_world.specs.Moved.{Gives, IsTelling, Moved, Outcome}
use Rattle.tt_world.specs.World.{World}
use Rattle.trace_text.proofs.Recording.{folds_append, cut_before, rose_later}
use Rattle.tt_world.specs.Load.{activations_in, is_activation}
use Rattle.stack_dispatch.specs.Told.{Logged, Keeps, ByFailed, Tells}

-- a count after nothing
counted_none : (a : ℕ) → a ≡ counted a 0
counted_none a = omega arith

activations_both : (some others : List Event)
    → activations_in (some ++ others) ≡ activations_in some + activations_in others
activations_both some others =
    ap length (filter-append is_activation some others)
    ∙ length-append (filter is_activation some) (filter is_activation others)

module _ {S : Type 0} (r : Ghosts S) where
  none_by : (names : List NameEntry) (failed : Bool) (s : S) → ByFailed r names failed s [] failed s
  none_by names true s = refl
  none_by names false s = record { kept = refl; never_falls = omega arith }

  keeps_cut : (names : List NameEntry) (s m t : S) (xs ys : List Event) → Keeps r names s xs m
      → CutWithin r names m ys t
      → CutWithin r names s (xs ++ ys) t
  keeps_cut names s m t xs ys p q = record {
    done = xs ++ q.done;
    next = q.next;
    rest = q.rest;
    split = ap (λ l. xs ++ l) q.split ∙ sym (append_assoc xs q.done (q.next ∷ q.rest));
    middle = q.middle;
    kept = folds_append (λ a e b. r.kept a e names b) s m q.middle xs q.done p.kept q.kept;
    cut = q.cut;
    cause = rose_later (r.faults s) (r.faults m) (r.faults t) p.never_falls q.cause;
    never_falls = omega (arith, p.never_falls, q.never_falls);
  }

  both_by : (names : List NameEntry) (f g h : Bool) (s m t : S) (xs ys : List Event) → ByFailed r names f s xs g m
      → ByFailed r names g m ys h t → ByFailed r names f s (xs ++ ys) h t
  both_by names true true true s m t xs ys p q = q ∙ p
  both_by names true true false s m t xs ys p q = absurd q
  both_by names true false h s m t xs ys p q = absurd p
  both_by names false true true s m t xs ys p q =
      subst (λ u. CutWithin r names s (xs ++ ys) u) (sym q) (cut_before ys (xs ++ ys) refl p)
  both_by names false true false s m t xs ys p q = absurd q
  both_by names false false true s m t xs ys p q = keeps_cut names s m t xs ys p q
  both_by names false false false s m t xs ys p q = record {
    kept = folds_append (λ a e b. r.kept a e names b) s m t xs ys p.kept q.kept;
    never_falls = omega (arith, p.never_falls, q.never_falls);
  }

  -- nothing was reported
  pub tells_none : (a : Logged S) → Tells r a [] a
  tells_none a = record {
    same_recorder = refl;
    names_are = refl;
    told = none_by a.names a.failed a.recorder.now;
    events_are = counted_none a.events;
    activations_are = counted_none a.activations;
  }

  -- some events were reported, and then others
  pub tells_both : (a b d : Logged S) (some others : List Event) → Tells r a some b → Tells r b others d
      → Tells r a (some ++ others) d
  tells_both a b d some others p q = record {
    same_recorder = q.same_recorder ∙ p.same_recorder;
    names_are = q.names_are ∙ p.names_are;
    told = both_by a.names a.failed b.failed d.failed a.recorder.now b.recorder.now d.recorder.now some others p.told
        (subst (λ ns. ByFailed r ns b.failed b.recorder.now others d.failed d.recorder.now) p.names_are q.told);
    events_are = q.events_are ∙ ap (λ k. counted k (length others)) p.events_are
        ∙ counted_more a.events (length some) (length others)
        ∙ ap (counted a.events) (sym (length-append some others));
    activations_are = q.activations_are ∙ ap (λ k. counted k (activations_in others)) p.activations_are
        ∙ counted_more a.activations (activations_in some) (activations_in others)
        ∙ ap (counted a.activations) (sym (activations_both some others));
  }

  pub telling : IsTelling (Tells r)
  telling = record { none = tells_none; both = tells_both }

-- an outcome that is known
pub outcome_is : {L : Type 0} {Told : L → List Event → L → Type 0} {a b : L} {v : World}
    {end last : Outcome} {m : Moved} → Gives Told a b v end m → end ≡ last → Gives Told a b v last m
outcome_is {Told = Told} {a} {b} {v} {m = m} g is = subst (λ o. Gives Told a b v o m) is g

-- ---- events of which some were reported

-- of all these events, those before the ones that are left were reported
pub record SoFar {L : Type 0} (Told : L → List Event → L → Type 0) (before : L) (all : List Event) (now : L)
    (left : List Event)
    : Type 0 where
  pub done : List Event
  pub split : all ≡ done ++ left
  pub told : Told before done now

module _ {L : Type 0} {Told : L → List Event → L → Type 0} (t : IsTelling Told) where
  pub so_far_none : (a : L) (all : List Event) → SoFar Told a all a all
  so_far_none a all = record { done = []; split = refl; told = t.none a }

  pub so_far_more : (a b d : L) (all some left : List Event) → SoFar Told a all b (some ++ left) → Told b some d
      → SoFar Told a all d left
  so_far_more a b d all some left h told = record {
    done = h.done ++ some;
    split = h.split ∙ sym (append_assoc h.done some left);
    told = t.both a b d h.done some h.told told;
  }

  pub so_far_whole : (a b d : L) (all left : List Event) → SoFar Told a all b left → Told b left d → Told a all d
  so_far_whole a b d all left h told = subst (λ es. Told a es d) (sym h.split) (t.both a b d h.done left h.told told)

  pub so_far_last : (a b : L) (all left : List Event) → SoFar Told a all b left → left ≡ [] → Told a all b
  so_far_last a b all left h none = so_far_whole a b b all left h (subst (λ es. Told b es b) (sym none) (t.none b))
