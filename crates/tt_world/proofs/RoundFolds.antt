-- The events of one kind that each round has, read event by event: those of the present round so far, and those of each
-- round that is over.
use Rattle.std.proofs.Common.{ℕ, ◌≡◌, List, [], ◌∷◌, ◌++◌, Bool, true, false, Option, None, Some, refl, ap, sym, ◌∙◌, subst, append_assoc, append-nil}
use Rattle.std.specs.Prelude.{IfSome, filter, cond, not, ◌||◌, is_some}
use Rattle.std.specs.List.{list_any}
use Rattle.tt_base.specs.declared.event.Event.{Event}
use Rattle.tt_world.specs.Moved.{event_if}
use Rattle.tt_world.specs.Readings.{RoundStart, round_of, until_round, before_round}
use Rattle.tt_world.specs.EventLaws.{EachRound, next_start, start_or, is_last_round}
use Rattle.tt_world.proofs.Emits.{Of}

-- a round, and its events of the kind so far
pub record Present : Type 0 where
  pub round : RoundStart
  pub kept : List Event

-- with more events of the kind; before the first round there are none
abbrev pub with_more : Option Present → List Event → Option Present
with_more None fs = None
with_more (Some p) fs = Some (record { round = p.round; kept = p.kept ++ fs })

-- after an event that begins this round, or none
abbrev pub begun_or : Option RoundStart → Option Present → Option Present
begun_or None o = o
begun_or (Some round) o = Some (record { round = round; kept = [] })

-- it begins no round
abbrev pub NoRound : Event → Type 0
NoRound e = round_of e ≡ None

-- `Last` for the last round, `Over` for a round that is over
abbrev pub ByLast : Bool → Type 0 → Type 0 → Type 0
ByLast true Last Over = Last
ByLast false Last Over = Over

no_start : (end : ℕ) (o : Option RoundStart) (others : Bool) (next : ℕ) → not (is_some o || others) ≡ true
    → (not others ≡ true → next ≡ end) → start_or next o ≡ end
no_start end None others next e h = h e
no_start end (Some round) others next e h = cc

-- after the last round none begins
pub last_start : (end : ℕ) (rest : List Event) → is_last_round rest ≡ true → next_start end rest ≡ end
unfolding next_start
last_start end [] e = refl
last_start end (event ∷ rest) e =
    no_start end (round_of event) (list_any (λ (x : Event). is_some (round_of x)) rest) (next_start end rest) e
    (last_start end rest)

module _ (test : Event → Bool) where
  -- the present round after one event
  abbrev pub present_by : Option Present → Event → Option Present
  present_by o e = begun_or (round_of e) (with_more o (event_if (test e) e))

  -- the present round after these events; before them it was this one
  abbrev pub present_after : Option Present → List Event → Option Present
  present_after o [] = o
  present_after o (e ∷ es) = present_after (present_by o e) es

  -- after two lists of events
  pub present_more : (o : Option Present) (es fs : List Event)
      → present_after o (es ++ fs) ≡ present_after (present_after o es) fs
  present_more o [] fs = refl
  present_more o (e ∷ es) fs = present_more (present_by o e) es fs

  more_kept : (e : Event) (es kept : List Event)
      → (kept ++ event_if (test e) e) ++ filter test es ≡ kept ++ filter test (e ∷ es)
  more_kept e es kept =
      append_assoc kept (event_if (test e) e) (filter test es) ∙ ap (λ (xs : List Event). kept ++ xs) (front (test e))
    where
      front : (b : Bool) → event_if b e ++ filter test es ≡ cond b (e ∷ filter test es) (filter test es)
      front true = refl
      front false = refl

  with_kept : (o : Option Present) (e : Event) (es : List Event)
      → with_more (with_more o (event_if (test e) e)) (filter test es) ≡ with_more o (filter test (e ∷ es))
  with_kept None e es = refl
  with_kept (Some p) e es =
      ap (λ (xs : List Event). Some (record { round = p.round; kept = xs })) (more_kept e es p.kept)

  with_none : (o : Option Present) → o ≡ with_more o []
  with_none None = refl
  with_none (Some p) =
      ap (λ (xs : List Event). Some (record { round = p.round; kept = xs })) (sym (append-nil p.kept))

  -- events of another kind
  pub none_such : (es : List Event) → Of (λ e. test e ≡ false) es → filter test es ≡ []
  none_such [] q = refl
  none_such (e ∷ es) q =
      ap (λ (b : Bool). cond b (e ∷ filter test es) (filter test es)) q.0 ∙ none_such es q.1

  -- events that begin no round
  pub same_round : (o : Option Present) (es : List Event) → Of NoRound es
      → present_after o es ≡ with_more o (filter test es)
  same_round o [] q = with_none o
  same_round o (e ∷ es) q =
      ap (λ (x : Option RoundStart). present_after (begun_or x (with_more o (event_if (test e) e))) es) q.0
      ∙ same_round (with_more o (event_if (test e) e)) es q.1 ∙ with_kept o e es

  -- what holds of a round that is over: of its start, of the start of the next round, and of its events of the kind
  module _ (Has : RoundStart → ℕ → List Event → Type 0) where
    -- this holds of the present round, where the next one begins in this way
    abbrev pub OverBy : Option Present → Option RoundStart → Type 0
    OverBy None next = Unit {0}
    OverBy (Some p) next = IfSome next (λ (round : RoundStart). Has p.round round.start p.kept)

    -- this holds of each round that these events end
    abbrev pub RoundsOver : Option Present → List Event → Type 0
    RoundsOver o [] = Unit {0}
    RoundsOver o (e ∷ es) = OverBy o (round_of e) × RoundsOver (present_by o e) es

    -- for two lists of events
    pub rounds_more : (o : Option Present) (es fs : List Event) → RoundsOver o es → RoundsOver (present_after o es) fs
        → RoundsOver o (es ++ fs)
    rounds_more o [] fs p q = q
    rounds_more o (e ∷ es) fs p q = (p.0, rounds_more (present_by o e) es fs p.1 q)

    over_none : (o : Option Present) → OverBy o None
    over_none None = tt
    over_none (Some p) = tt

    -- events that begin no round end none
    pub none_over : (o : Option Present) (es : List Event) → Of NoRound es → RoundsOver o es
    none_over o [] q = tt
    none_over o (e ∷ es) q = (subst (OverBy o) (sym q.0) (over_none o), none_over (present_by o e) es q.1)

    -- what holds of the last round: of its start, and of its events of the kind
    module _ (Last : RoundStart → List Event → Type 0) (end : ℕ) where
      -- this holds of the present round, as the last one
      abbrev pub OfLast : Option Present → Type 0
      OfLast None = Unit {0}
      OfLast (Some p) = Last p.round p.kept

      -- this holds of a round whose events of the kind are these and those up to the next round
      abbrev pub OfRound : RoundStart → List Event → List Event → Type 0
      OfRound round kept rest =
          let all = kept ++ filter test (until_round rest) in
          ByLast (is_last_round rest) (Last round all) (Has round (next_start end rest) all)

      -- one more event at the front
      front : (round : RoundStart) (kept : List Event) (e : Event) (rest : List Event) (o : Option RoundStart)
          → OverBy (Some (record { round = round; kept = kept })) o
          → (o ≡ None → OfRound round (kept ++ event_if (test e) e) rest)
          → let all = kept ++ filter test (before_round o (e ∷ until_round rest)) in
          ByLast (not (is_some o || list_any (λ (event : Event). is_some (round_of event)) rest)) (Last round all)
          (Has round (start_or (next_start end rest) o) all)
      front round kept e rest None p h =
          subst
          (λ (all : List Event). ByLast (is_last_round rest) (Last round all) (Has round (next_start end rest) all))
          (more_kept e (until_round rest) kept) (h refl)
      front round kept e rest (Some next) p h = subst (Has round next.start) (sym (append-nil kept)) p

      until_next : (round : RoundStart) (kept es : List Event)
          → RoundsOver (Some (record { round = round; kept = kept })) es
          → OfLast (present_after (Some (record { round = round; kept = kept })) es) → OfRound round kept es
      unfolding until_round next_start
      until_next round kept [] p l = subst (Last round) (sym (append-nil kept)) l
      until_next round kept (e ∷ es) p l =
          let more = kept ++ event_if (test e) e in
          let now : Present = record { round = round; kept = more } in
          front round kept e es (round_of e) p.0
          (λ n.
          until_next round more es (subst (λ (o : Option RoundStart). RoundsOver (begun_or o (Some now)) es) n p.1)
          (subst (λ (o : Option RoundStart). OfLast (present_after (begun_or o (Some now)) es)) n l))

      if_begun : (o : Option Present) (rest : List Event) (begins : Option RoundStart)
          → RoundsOver (begun_or begins o) rest → OfLast (present_after (begun_or begins o) rest)
          → IfSome begins (λ (round : RoundStart). OfRound round [] rest)
      if_begun o rest None p l = tt
      if_begun o rest (Some round) p l = until_next round [] rest p l

      -- so this holds of each round
      pub each_has : (o : Option Present) (es : List Event) → RoundsOver o es → OfLast (present_after o es)
          → EachRound (λ round rest. OfRound round [] rest) es
      each_has o [] p l = tt
      each_has o (e ∷ es) p l =
          (if_begun (with_more o (event_if (test e) e)) es (round_of e) p.1 l, each_has (present_by o e) es p.1 l)
