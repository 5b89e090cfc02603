-- What a recorder that writes to a sink does over a run: the lines of its events, as one text.
use Rattle.std.proofs.Common.{◌≡◌, ℕ, List, [], ◌∷◌, ◌++◌, Option, refl, sym, ap, ◌∙◌, subst, append_assoc, append-nil}
use Rattle.std.specs.List.{FoldsTo}
use Rattle.std.proofs.KnownBytes.{Appends-nil}
use Rattle.std.proofs.lemmas.Grind.{flat_map-append}
use Rattle.tt_base.specs.declared.event.Event.{Event}
use Rattle.tt_base.specs.declared.names.NameEntry.{NameEntry}
use Rattle.tt_io.specs.Known.{AppendsPart}
use Rattle.tt_io.proofs.Passing.{part_of_front, passes_end_part, passes_more, passes_part}
use Rattle.trace_text.specs.Lines.{line_of, text_of}
use Rattle.trace_text.specs.Records.{CutWithin, Notes}
use Rattle.trace_text.specs.SinkRecorder.{Cuts, Puts, sink_of, takes, waiting_in}
use Rattle.trace_text.specs.declared.recorder.Recorder.{Ghosts}
use Rattle.trace_text.specs.declared.sink_recorder.SinkRecorder.{SinkRecorder}

-- the lines up to an event, its own, and those after it
text_split : (names : List NameEntry) (done : List Event) (next : Event) (rest : List Event)
    → text_of names (done ++ next ∷ rest) ≡ (text_of names done ++ line_of names next) ++ text_of names rest
unfolding text_of
text_split names done next rest =
    flat_map-append (line_of names) done (next ∷ rest)
    ∙ sym (append_assoc (text_of names done) (line_of names next) (text_of names rest))

module _ {O : Type 0} (written : O → Option (List ℕ)) where
  -- nothing was put
  puts_none : (s : SinkRecorder O) → Puts written s [] s
  puts_none s = record {
    passes = record { sent = []; split = append-nil (waiting_in s); appended = Appends-nil (written (sink_of s).now) };
    same_sink = refl;
  }

  -- a text was put, and then another
  puts_then : (s m t : SinkRecorder O) (first second : List ℕ)
      → Puts written s first m → Puts written m second t → Puts written s (first ++ second) t
  puts_then s m t first second p q = record {
    passes = passes_more (waiting_in s ++ (first ++ second)) second (sym (append_assoc (waiting_in s) first second))
        p.passes q.passes;
    same_sink = q.same_sink ∙ p.same_sink;
  }

  -- a text was put and another was cut, so a longer text that begins with both was cut
  cuts_then : (s m t : SinkRecorder O) (first second rest : List ℕ)
      → Puts written s first m → Cuts written m second t → Cuts written s ((first ++ second) ++ rest) t
  cuts_then s m t first second rest p q =
      let both = waiting_in s ++ (first ++ second) in
      let part : AppendsPart (written (sink_of s).now) (written (sink_of t).now) both =
      passes_part (written (sink_of t).now) both second (sym (append_assoc (waiting_in s) first second))
      p.passes q.part in
      record {
        part = part_of_front (written (sink_of s).now) (written (sink_of t).now) both rest
            (waiting_in s ++ ((first ++ second) ++ rest))
            (sym (append_assoc (waiting_in s) (first ++ second) rest)) part;
        same_sink = q.same_sink ∙ p.same_sink;
        over = q.over;
      }

  -- each line was put, so their text was
  puts_all : (names : List NameEntry) (events : List Event) (s t : SinkRecorder O)
      → FoldsTo (λ a event b. Puts written a (line_of names event) b) s events t
      → Puts written s (text_of names events) t
  unfolding text_of
  puts_all names [] s t p = subst (Puts written s []) p (puts_none s)
  puts_all names (event ∷ events) s t (m, first, rest) =
      puts_then s m t (line_of names event) (text_of names events) first (puts_all names events m t rest)

  -- the four meanings of a recorder that writes to a sink
  abbrev pub to_sink : (O → ℕ) → Ghosts (SinkRecorder O)
  to_sink faults = record {
    ready = takes;
    kept = λ s event names t. Puts written s (line_of names event) t;
    cut = λ s event names t. Cuts written s (line_of names event) t;
    faults = λ s. faults (sink_of s).now;
  }

  -- events were noted: their text was put
  pub noted_text : (faults : O → ℕ) (names : List NameEntry) (s : SinkRecorder O) (events : List Event)
      (t : SinkRecorder O)
      → Notes (to_sink faults) names s events t → Puts written s (text_of names events) t
  noted_text faults names s events t p = puts_all names events s t p.kept

  -- it was cut within events: their text was cut
  pub cut_text : (faults : O → ℕ) (names : List NameEntry) (s : SinkRecorder O) (events : List Event)
      (t : SinkRecorder O)
      → CutWithin (to_sink faults) names s events t → Cuts written s (text_of names events) t
  cut_text faults names s events t p =
      subst (λ text. Cuts written s text t) (sym (ap (text_of names) p.split ∙ text_split names p.done p.next p.rest))
      (cuts_then s p.middle t (text_of names p.done) (line_of names p.next) (text_of names p.rest)
      (puts_all names p.done s p.middle p.kept) p.cut)

  -- nothing waited at first, a text was put, and then what waited was sent in part: the text was sent in part
  pub sent_part : (s t : SinkRecorder O) (text : List ℕ) (after : Option (List ℕ)) → waiting_in s ≡ []
      → Puts written s text t → AppendsPart (written (sink_of t).now) after (waiting_in t)
      → AppendsPart (written (sink_of s).now) after text
  sent_part s t text after none p part =
      passes_end_part after text (sym (ap (λ waits. waits ++ text) none)) p.passes part
