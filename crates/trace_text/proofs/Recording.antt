-- What a recorder did over two lists of events, one after the other.
use Rattle.std.proofs.Common.{◌≡◌, ◌≤◌, ℕ, List, [], ◌∷◌, ◌++◌, refl, sym, ap, ◌∙◌, subst, arith, append_assoc}
use Rattle.std.specs.Prelude.{Result, Ok, Err}
use Rattle.std.specs.List.{FoldsTo}
use Rattle.tt_base.specs.declared.event.Event.{Event}
use Rattle.tt_base.specs.declared.names.NameEntry.{NameEntry}
use Rattle.tt_io.specs.Count.{Rose}
use Rattle.trace_text.specs.declared.recorder.Recorder.{Ghosts}
use Rattle.trace_text.specs.Records.{KeptAll, Notes, CutWithin, Records}

-- a fold over two lists
pub folds_append : {S A : Type 0} (R : S → A → S → Type 0) (s m t : S) (xs ys : List A)
    → FoldsTo R s xs m → FoldsTo R m ys t → FoldsTo R s (xs ++ ys) t
folds_append R s m t [] ys p q = subst (λ u. FoldsTo R u ys t) (sym p) q
folds_append R s m t (x ∷ xs) ys p q = (p.0, p.1, folds_append R p.0 m t xs ys p.2 q)

-- one event was cut
pub cut_event : {S : Type 0} (r : Ghosts S) (names : List NameEntry) (s : S) (event : Event) (t : S)
    → r.cut s event names t → Rose (r.faults s) (r.faults t) → r.faults s ≤ r.faults t
    → CutWithin r names s (event ∷ []) t
cut_event r names s event t cut cause never_falls = record {
  done = [];
  next = event;
  rest = [];
  split = refl;
  middle = s;
  kept = refl;
  cut = cut;
  cause = cause;
  never_falls = never_falls;
}

-- some events were noted, and then others
pub notes_then : {S : Type 0} {r : Ghosts S} {names : List NameEntry} {s m t : S} {xs ys : List Event}
    (all : List Event)
    → all ≡ xs ++ ys → Notes r names s xs m → Notes r names m ys t → Notes r names s all t
notes_then {S} {r} {names} {s} {m} {t} {xs} {ys} all split p q = record {
  kept = subst (λ l. KeptAll r names s l t) (sym split)
      (folds_append (λ a e b. r.kept a e names b) s m t xs ys p.kept q.kept);
  ready = q.ready;
  never_falls = omega (arith, p.never_falls, q.never_falls);
}

-- a count that did not fall and then rose
pub rose_later : (a b c : ℕ) → a ≤ b → Rose b c → Rose a c
rose_later a b c le rose = grind (arith, rose)

-- some events were noted, and it was cut within others
pub cut_then : {S : Type 0} {r : Ghosts S} {names : List NameEntry} {s m t : S} {xs ys : List Event} (all : List Event)
    → all ≡ xs ++ ys → Notes r names s xs m → CutWithin r names m ys t → CutWithin r names s all t
cut_then {S} {r} {names} {s} {m} {t} {xs} {ys} all split p q = record {
  done = xs ++ q.done;
  next = q.next;
  rest = q.rest;
  split = split ∙ ap (λ l. xs ++ l) q.split ∙ sym (append_assoc xs q.done (q.next ∷ q.rest));
  middle = q.middle;
  kept = folds_append (λ a e b. r.kept a e names b) s m q.middle xs q.done p.kept q.kept;
  cut = q.cut;
  cause = rose_later (r.faults s) (r.faults m) (r.faults t) p.never_falls q.cause;
  never_falls = omega (arith, p.never_falls, q.never_falls);
}

-- it was cut within some events, so within them and others
pub cut_before : {S : Type 0} {r : Ghosts S} {names : List NameEntry} {s t : S} {xs : List Event} (ys all : List Event)
    → all ≡ xs ++ ys → CutWithin r names s xs t → CutWithin r names s all t
cut_before {S} {r} {names} {s} {t} {xs} ys all split p = record {
  done = p.done;
  next = p.next;
  rest = p.rest ++ ys;
  split = split ∙ ap (λ l. l ++ ys) p.split ∙ append_assoc p.done (p.next ∷ p.rest) ys;
  middle = p.middle;
  kept = p.kept;
  cut = p.cut;
  cause = p.cause;
  never_falls = p.never_falls;
}
